-- How much a stream brought, and where it stops.
use Rattle.std.specs.Prelude.{◌≡◌, ℕ, ◌+◌, ◌-◌, ◌^◌, List, [], ◌∷◌, ◌++◌, length, min}
use Rattle.mysql_wire.specs.Delivery.{Splits}
use Rattle.mysql_wire.specs.Framing.{id_after}
use Rattle.mysql_wire.specs.SpanError.{SpanError}
use Rattle.mysql_wire.specs.Spans.{Refuses}
use Rattle.mysql_wire_examples.specs.declared.measured.StreamSize.{StreamSize}

-- how many bytes packets have in all
abbrev pub total_len : List (List ℕ) → ℕ
total_len [] = 0
total_len (packet ∷ packets) = length packet + total_len packets

-- the counts of these packets, and of the bytes of one that is open
abbrev pub Measures : StreamSize → List (List ℕ) → List ℕ → Type 0
Measures size packets opened =
    (size.packets ≡ min (length packets) (2 ^ 64 - 1))
    × (size.bytes ≡ min (total_len packets + length opened) (2 ^ 64 - 1))

-- the front of an input, from the id 0 on, comes to a header that is refused under this limit
abbrev pub IsRefused : SpanError → ℕ → List ℕ → Type 0
IsRefused error limit input =
    (came : List ℕ) × (later : List ℕ) × (input ≡ came ++ later)
    × (packets : List (List ℕ)) × (opened : List ℕ) × (rest : List ℕ)
    × Splits [] came 0 limit packets opened rest
    × Refuses error (id_after 0 packets) limit opened rest

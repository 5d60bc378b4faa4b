-- A packet that is taken whole out of a reader, however long it is.
use Rattle.std.specs.Io.KnownBytes.{IsAtEnd}
use Rattle.std.specs.Prelude.{◌≡◌, ◌⊎◌, ◌+◌, ◌-◌, ◌<◌, ◌≤◌, ℕ, List, [], ◌++◌, length, Option, None, IsNone, IsFalse, ⊤}
use Rattle.wire_codec.specs.Codec.{expected_id, header_of}
use Rattle.wire_codec.specs.declared.codec.packet.PacketCodec.{PacketCodec}
use Rattle.wire_codec.specs.Delivery.{Ending, Delivers, Splits, chunk_len}
use Rattle.wire_codec.specs.Framing.{framing, front, next_id}
use Rattle.wire_packet_io.specs.Lending.{Reading}
use Rattle.wire_span.specs.Spans.{IsOfAnotherId}
use Rattle.mysql_wire_tool_commands.specs.declared.long_packet.Taken.{Taken}
use Rattle.mysql_wire_tool_commands.specs.declared.long_packet.Taken.TheVariants.{Whole, Ends, OutOfSync}
use Rattle.mysql_wire_tool_commands.specs.Unframe.{ending_status}

-- a reader in front of a packet
pub record IsInFront {R : Type 0} (reading : Reading R) : Type 0 where
  pub not_copied : IsNone reading.copied
  pub not_lost : IsFalse reading.is_lost
  pub not_lent : IsNone reading.lent
  pub not_held : reading.held ≡ []

-- a codec in front of one: it remembers no header
abbrev pub IsAtHeader : PacketCodec → Type 0
IsAtHeader codec = (header_of codec ≡ None) × (expected_id codec < 256)

-- the input ends this way, in front of a packet with this id
abbrev pub EndsLong : ℕ → ℕ → List ℕ → ℕ → Option (List ℕ) → Type 0
EndsLong id limit input status left =
    (ending : Ending) × (unfinished : List ℕ) × (rest : List ℕ)
    × Delivers [] input id limit [] ending unfinished rest
    × (status ≡ ending_status ending (length (front id unfinished ++ rest)))
    × ((status ≡ 0) ⊎ (status ≡ 3) → IsAtEnd left)

-- a packet's chunks, and then the header of one of another id, of which so many bytes have not come
abbrev pub LosesSync : ℕ → ℕ → List ℕ → ℕ → Type 0
LosesSync id limit input lacking =
    (held : List ℕ) × (rest : List ℕ) × Splits [] input id limit [] held rest
    × IsOfAnotherId id limit held rest × (lacking ≡ 4 + chunk_len rest - length rest)

-- what stands at the front of this input: a packet with this id, the id after it, and what is unread
-- behind it, or an end
abbrev pub TakesLong : ℕ → ℕ → List ℕ → Taken → List ℕ → List ℕ → Option (List ℕ) → Type 0
TakesLong id limit input (Whole next) packet unread left =
    (input ≡ framing id packet ++ unread) × (length packet ≤ limit) × (next ≡ next_id id packet)
TakesLong id limit input (Ends status) packet unread left = EndsLong id limit input status left
TakesLong id limit input (OutOfSync lacking) packet unread left = LosesSync id limit input lacking

abbrev pub IsWhole : Taken → Type 0
IsWhole (Whole next) = ⊤
IsWhole other = ⊥

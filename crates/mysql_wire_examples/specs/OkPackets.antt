-- The front of an `OK_Packet`.
use Rattle.std.specs.Prelude.{◌≡◌, ◌≤◌, ℕ, List, length, take, drop}
use Rattle.mysql_wire.specs.Numbers.{le_number}
use Rattle.mysql_wire.specs.Lenenc.{IsLenencOrMark}
use Rattle.mysql_wire.specs.Spelling.{EatsSpelling}

-- an `OK_Packet` that begins with these counts
abbrev pub IsOk : List ℕ → ℕ → ℕ → Type 0
IsOk packet changed last_id =
    (1 ≤ length packet) × (le_number (take 1 packet) ≡ 0)
    × (mid : List ℕ) × (rest : List ℕ)
    × EatsSpelling IsLenencOrMark (drop 1 packet) changed mid
    × EatsSpelling IsLenencOrMark mid last_id rest

-- Rows of texts, and the packets that stand after them.
use Rattle.std.specs.Prelude.{ℕ, List, [], ◌∷◌, length, Bool, false, ◌==◌, if◌then◌else◌, nat_lt}
use Rattle.mysql_wire.specs.Lenenc.{IsLenencOrMark}
use Rattle.mysql_wire.specs.Spelling.{EatsText}

-- the first two columns of a row are these
abbrev pub IsAccount : List ℕ → List ℕ → List ℕ → Type 0
IsAccount row name mail =
    (mid : List ℕ) × (rest : List ℕ)
    × EatsText IsLenencOrMark row name mid × EatsText IsLenencOrMark mid mail rest

-- whether a packet ends the rows: it begins with `fe`, and has fewer than 9 bytes
abbrev pub ends_rows : List ℕ → Bool
ends_rows [] = false
ends_rows (byte ∷ rest) = if byte == 0xfe then nat_lt (length rest) 8 else false

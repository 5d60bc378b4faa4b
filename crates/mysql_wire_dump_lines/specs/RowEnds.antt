-- The last bytes of a row.
use Rattle.std.specs.Prelude.{◌≡◌, ◌≤◌, ◌-◌, ℕ, List, length, take, drop}
use Rattle.mysql_wire_dump_lines.specs.declared.show.row_end.RowEnd.{RowEnd}

-- what is left of a row
abbrev pub IsBehind : List ℕ → List ℕ → Type 0
IsBehind payload rest = (eaten : ℕ) × (rest ≡ drop eaten payload)

-- it stands there, up to the 32nd byte, where it has no more
abbrev pub EndsIn : RowEnd → List ℕ → Type 0
EndsIn end rest = length rest ≤ 32 → take (length rest) (drop (32 - length rest) end.bytes) ≡ rest

-- and so wherever in these bytes it begins
abbrev pub IsEndOf : RowEnd → List ℕ → Type 0
IsEndOf end bytes = (n : ℕ) → EndsIn end (drop n bytes)

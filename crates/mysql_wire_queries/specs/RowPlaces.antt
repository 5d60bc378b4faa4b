-- What a payload is where a row is waited for, by its first byte and what both sides can do.
use Rattle.std.specs.Prelude.{ℕ, ◌≡◌, Bool, true, false, List, length}
use Rattle.mysql_wire_parts.specs.Places.{BeginsWith, is_short}

-- the end of the rows: it begins with fe, and is too short for a row
abbrev pub EndsRows : Bool → List ℕ → Type 0
EndsRows is_deprecated payload =
    BeginsWith 0xfe payload × (is_short is_deprecated (length payload) ≡ true)

-- a row: neither an error nor the end
abbrev pub IsRow : Bool → List ℕ → Type 0
IsRow is_deprecated payload = (¬ BeginsWith 0xff payload)
    × (BeginsWith 0xfe payload → is_short is_deprecated (length payload) ≡ false)

-- The three numbers of a server's version.
use Rattle.std.specs.Prelude.{ℕ, ◌≡◌, ◌<◌, ◌≤◌, Bool, not, ◌==◌, List, ◌∷◌, ◌⊎◌, length}
use Rattle.std.specs.List.{slice_split, position_or_len, before_first, after_first}
use Rattle.std.specs.Char.{is_ascii_digit}
use Rattle.std.specs.Str.Parse.{IsNumeral, digits_value}

abbrev pub is_dot : ℕ → Bool
is_dot byte = byte == 46

abbrev pub is_no_digit : ℕ → Bool
is_no_digit byte = not (is_ascii_digit byte)

-- the text has a dot, and these parts stand before and after the first
abbrev pub IsCut : List ℕ → List ℕ → List ℕ → Type 0
IsCut text first second =
    (position_or_len is_dot text < length text) × (first ≡ before_first is_dot text)
    × (second ≡ after_first is_dot text)

-- one decimal digit or more, and nothing else, that make at most 255
abbrev pub IsPart : List ℕ → ℕ → Type 0
IsPart digits n = IsNumeral 10 digits × (n ≡ digits_value 10 digits) × (n ≤ 255)

-- the same after one plus, or after one minus where they make 0
abbrev pub IsSignedPart : List ℕ → ℕ → Type 0
IsSignedPart piece n =
    IsPart piece n
    ⊎ ((digits : List ℕ) × (piece ≡ 43 ∷ digits) × IsPart digits n)
    ⊎ ((digits : List ℕ) × (piece ≡ 45 ∷ digits) × IsPart digits n × (n ≡ 0))

-- of the pieces between dots the first two are read whole, and of the third the digits at its front
abbrev pub IsVersion : List ℕ → ℕ × ℕ × ℕ → Type 0
IsVersion text version =
    (first : List ℕ) × (second : List ℕ) × (third : List ℕ) × (more : List (List ℕ))
    × (slice_split is_dot text ≡ first ∷ second ∷ third ∷ more)
    × IsSignedPart first version.0
    × IsSignedPart second version.1
    × IsPart (before_first is_no_digit third) version.2

-- where the text is no version, three zeros stand for it
abbrev pub ReadsVersion : List ℕ → ℕ × ℕ × ℕ → Type 0
ReadsVersion text answer =
    IsVersion text answer
    ⊎ ((answer ≡ (0, 0, 0)) × ((version : ℕ × ℕ × ℕ) → ¬ IsVersion text version))

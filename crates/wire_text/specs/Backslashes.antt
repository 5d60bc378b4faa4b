-- Letters with a backslash before each that has an escape.
use Rattle.std.specs.List.{list_all}
use Rattle.std.specs.Prelude.{◌==◌, ◌+◌, ◌/◌, ◌%◌, ℕ, zero, suc, nat_lt, Bool, not, List, [], ◌∷◌, ◌++◌, replicate, take, if◌then◌else◌}
use Rattle.json.specs.Print.{escape_letter}

-- what stands for a byte where JSON quotes it, without its backslash: the byte itself where it needs
-- none, and where it has no escape of a letter
abbrev pub letter_of : ℕ → ℕ
letter_of byte = if nat_lt 0 (escape_letter byte) then escape_letter byte else byte

abbrev pub is_control : ℕ → Bool
is_control byte = nat_lt byte 32

-- none of them is a control character
abbrev pub are_letters : List ℕ → Bool
are_letters = list_all (λ byte. not (is_control byte))

-- letters, with a backslash before each of a set
abbrev pub backslashed : List Bool → List ℕ → List ℕ
backslashed [] letters = []
backslashed (escaped ∷ set) [] = []
backslashed (escaped ∷ set) (letter ∷ letters) =
    if escaped then 92 ∷ letter ∷ backslashed set letters else letter ∷ backslashed set letters

-- the set that a number's low bits are
abbrev pub set_of : ℕ → ℕ → List Bool
set_of zero bits = []
set_of (suc n) bits = (bits % 2 == 1) ∷ set_of n (bits / 2)

-- places from one on, with 8 before each of a set
abbrev pub places_from : ℕ → List Bool → List ℕ
places_from place [] = []
places_from place (escaped ∷ set) =
    if escaped then 8 ∷ place ∷ places_from (place + 1) set else place ∷ places_from (place + 1) set

-- the places of eight letters of which these have escapes, and 8 behind them
abbrev pub row_of : ℕ → List ℕ
row_of escapes = take 16 (places_from 0 (set_of 8 escapes) ++ replicate 8 8)

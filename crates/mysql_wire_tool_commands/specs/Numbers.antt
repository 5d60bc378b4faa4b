-- Numbers on the command line.
use Rattle.std.specs.Prelude.{◌<◌, ◌≤◌, ℕ, List, length}
use Rattle.std.specs.Str.Parse.{IsNumeral, digits_value}

-- one to ten decimal digits, which write a number of at most `most`
abbrev pub IsNumber : List ℕ → ℕ → Type 0
IsNumber word most = IsNumeral 10 word × (length word ≤ 10) × (digits_value 10 word ≤ most)

-- a number of 1 to 65536
abbrev pub IsStep : List ℕ → Type 0
IsStep word = IsNumber word 65536 × (0 < digits_value 10 word)

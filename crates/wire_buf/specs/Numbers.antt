-- Numbers as bytes.
use Rattle.std.specs.Prelude.{ℕ, ℤ, pos, ◌+◌, ◌-ℤ◌, ◌*◌, ◌/◌, ◌%◌, ◌^◌, ◌<◌, nat_lt, if◌then◌else◌, List, [], ◌∷◌, reverse, slice_index, zero, suc}

-- each number in the list is a byte
abbrev pub IsBytes : List ℕ → Type 0
IsBytes bytes = (i : ℕ) → slice_index bytes i < 256

-- the number that these bytes spell, the least significant byte first
abbrev pub le_number : List ℕ → ℕ
le_number [] = 0
le_number (byte ∷ bytes) = byte + 256 * le_number bytes

-- the low count bytes of a number, the least significant first
abbrev pub le_bytes : ℕ → ℕ → List ℕ
le_bytes zero n = []
le_bytes (suc count) n = n % 256 ∷ le_bytes count (n / 256)

-- the number that these bytes spell, the most significant byte first
abbrev pub be_number : List ℕ → ℕ
be_number bytes = le_number (reverse bytes)

-- the number n of count bytes with its sign: n less 256 ^ count, where it is at least half of that
abbrev pub signed_number : ℕ → ℕ → ℤ
signed_number count n = if nat_lt (2 * n) (256 ^ count) then pos n else pos n -ℤ pos (256 ^ count)

-- the signed number that count bytes spell, in either order
abbrev pub signed_le_number : ℕ → List ℕ → ℤ
signed_le_number count bytes = signed_number count (le_number bytes)

abbrev pub signed_be_number : ℕ → List ℕ → ℤ
signed_be_number count bytes = signed_number count (be_number bytes)

-- Integers of MySQL's serialization library.
use Rattle.std.specs.Prelude.{ℕ, ◌≡◌, ◌+◌, ◌-◌, ◌*◌, ◌%◌, ◌^◌, ◌<◌, ◌≤◌, List, [], ◌∷◌, length, nat_eq, if◌then◌else◌, ◌⊎◌}
use Rattle.wire_buf.specs.Numbers.{le_number, le_bytes}
use Rattle.wire_buf.specs.Spelling.{IsBehind}

-- One to eight bytes, the low bits of whose number are as many ones as there are further bytes, and
-- a zero, with the value above them. Or ff, and after it the value in eight bytes.
abbrev pub IsVarlenUint : ℕ → List ℕ → Type 0
IsVarlenUint value bytes =
    ((1 ≤ length bytes) × (length bytes ≤ 8)
    × (le_number bytes ≡ value * 2 ^ length bytes + (2 ^ (length bytes - 1) - 1)))
    ⊎ IsBehind 0xff 8 value bytes

-- the low bits of a first byte say that there are this many: as many ones as further bytes, and a
-- zero
abbrev pub IsMark : ℕ → ℕ → Type 0
IsMark count byte = (byte + 1) % 2 ^ count ≡ 2 ^ (count - 1)

abbrev pub IsMarked : List ℕ → Type 0
IsMarked [] = ⊥
IsMarked (first ∷ rest) = IsMark (length (first ∷ rest)) first

-- the fewest bytes that hold a value, at seven bits a byte, or nine
pub record IsVarlenSize (value size : ℕ) : Type 0 where
  pub low : 1 ≤ size
  pub high : size ≤ 9
  pub holds : size ≤ 8 → value < 2 ^ (7 * size)
  pub needed : 2 ≤ size → 2 ^ (7 * (size - 1)) ≤ value

-- the spelling of a value in this many bytes
abbrev pub varlen_bytes : ℕ → ℕ → List ℕ
varlen_bytes size value =
    if nat_eq size 9 then 0xff ∷ le_bytes 8 value
    else le_bytes size (value * 2 ^ size + (2 ^ (size - 1) - 1))

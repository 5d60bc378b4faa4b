-- Numbers in groups of seven bits (base-128 varints), the least significant first. The high bit of
-- a byte says that another follows.
use Rattle.std.specs.Prelude.{ℕ, ◌≡◌, ◌≤◌, ◌<◌, ◌+◌, ◌*◌, ◌/◌, ◌%◌, nat_lt, if◌then◌else◌, zero, suc, List, [], ◌∷◌, ◌++◌, length, Result, Ok, Err, ◌⊎◌}
use Rattle.wire_buf.specs.declared.error.WireError.{WireError}
use Rattle.wire_buf.specs.declared.error.WireError.TheVariants.{UnexpectedEof, InvalidData}
use Rattle.wire_buf.specs.declared.error.InvalidReason.TheVariants.{VarLenTooLarge, VarLenTooLong}
use Rattle.wire_buf.specs.Spelling.{EatsSpelling}

-- the number
abbrev pub groups_number : List ℕ → ℕ
groups_number [] = 0
groups_number (byte ∷ bytes) = byte % 128 + 128 * groups_number bytes

-- each byte has the high bit
abbrev pub GoOn : List ℕ → Type 0
GoOn [] = Unit {0}
GoOn (byte ∷ bytes) = (128 ≤ byte) × GoOn bytes

-- each byte but the last has it
abbrev pub IsWhole : List ℕ → Type 0
IsWhole bytes = (front : List ℕ) × (last : ℕ) × (bytes ≡ front ++ last ∷ []) × GoOn front
    × (last < 128)

-- at most five bytes, and a number of at most 32 bits
abbrev pub IsGroups : ℕ → List ℕ → Type 0
IsGroups n bytes = IsWhole bytes × (length bytes ≤ 5) × (n ≡ groups_number bytes) × (n ≤ 4294967295)

-- Why the bytes that were eaten are no such number: five bytes, and it goes on; the number is
-- larger; or the input ends before it.
abbrev pub RefusesGroups : WireError → List ℕ → List ℕ → Type 0
RefusesGroups error eaten left =
    ((error ≡ InvalidData VarLenTooLong) × GoOn eaten × (length eaten ≡ 5))
    ⊎ ((error ≡ InvalidData VarLenTooLarge) × IsWhole eaten × (length eaten ≤ 5)
    × (4294967295 < groups_number eaten))
    ⊎ ((error ≡ UnexpectedEof) × GoOn eaten × (length eaten < 5) × (left ≡ []))

-- such a number is eaten, or what was looked at
abbrev pub ReadsGroups : List ℕ → Result ℕ WireError → List ℕ → Type 0
ReadsGroups old (Ok n) new = EatsSpelling IsGroups old n new
ReadsGroups old (Err error) new = (eaten : List ℕ) × (old ≡ eaten ++ new)
    × RefusesGroups error eaten new

-- as few groups as hold the number, and at most this many after the first
abbrev pub groups_within : ℕ → ℕ → List ℕ
groups_within zero n = n ∷ []
groups_within (suc more) n = if nat_lt n 128 then n ∷ []
    else (128 + n % 128) ∷ groups_within more (n / 128)

-- what is written of a number of 32 bits
abbrev pub groups_bytes : ℕ → List ℕ
groups_bytes n = groups_within 4 n

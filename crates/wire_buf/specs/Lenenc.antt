-- Length-encoded integers.
use Rattle.std.specs.Prelude.{ℕ, ◌≡◌, ◌<◌, ◌^◌, nat_lt, if◌then◌else◌, List, [], ◌∷◌, ◌⊎◌}
use Rattle.wire_buf.specs.Numbers.{le_bytes}
use Rattle.wire_buf.specs.Spelling.{IsBehind}

-- one byte below 251; or fc, fd or fe, and after it 2, 3 or 8 bytes
abbrev pub IsLenenc : ℕ → List ℕ → Type 0
IsLenenc n bytes = ((bytes ≡ n ∷ []) × (n < 251)) ⊎ IsBehind 0xfc 2 n bytes
    ⊎ IsBehind 0xfd 3 n bytes ⊎ IsBehind 0xfe 8 n bytes

-- what the readers of a buffer take: these, and fb or ff alone for 0
abbrev pub IsLenencOrMark : ℕ → List ℕ → Type 0
IsLenencOrMark n bytes = IsLenenc n bytes ⊎ ((n ≡ 0) × ((bytes ≡ 0xfb ∷ []) ⊎ (bytes ≡ 0xff ∷ [])))

-- the spelling that is written
abbrev pub lenenc_bytes : ℕ → List ℕ
lenenc_bytes n =
    if nat_lt n 251 then n ∷ []
    else (if nat_lt n (256 ^ 2) then 0xfc ∷ le_bytes 2 n
    else (if nat_lt n (256 ^ 3) then 0xfd ∷ le_bytes 3 n else 0xfe ∷ le_bytes 8 n))

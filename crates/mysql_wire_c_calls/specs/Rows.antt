-- The values of a row of a text result, one after another.
use Rattle.std.specs.Prelude.{◌≡◌, ℕ, ℤ, ◌+◌, ◌-◌, ◌^◌, ◌<◌, ◌≤◌, ◌⊎◌, List, [], ◌∷◌, length, take, drop, slice_get, Some}
use Rattle.wire_buf.specs.Lenenc.{IsLenenc}
use Rattle.mysql_wire_c_calls.specs.declared.codes.TheConstants.{MISSING_BYTES, NOT_A_NUMBER}
use Rattle.mysql_wire_c_calls.specs.declared.fields.Span.{Span}
use Rattle.mysql_wire_c_calls.specs.Fields.{ReadsAt, IsCutShort}

-- where a text that is NULL is said to stand
abbrev pub nowhere : ℕ
nowhere = 2 ^ 64 - 1

-- from one place to another stands a value: NULL, or this text
abbrev pub ReadsValue : List ℕ → ℕ → Span → ℕ → Type 0
ReadsValue bytes at text end =
    ((slice_get (drop at bytes) 0 ≡ Some 0xfb) × (text.at ≡ nowhere) × (text.len ≡ 0)
    × (end ≡ at + 1) × (end ≤ length bytes))
    ⊎ (ReadsAt IsLenenc bytes at text.len text.at × (end ≡ text.at + text.len)
    × (end ≤ length bytes))

-- these values, one after another
abbrev pub ReadsRow : List ℕ → ℕ → List Span → ℕ → Type 0
ReadsRow bytes at [] end = end ≡ at
ReadsRow bytes at (text ∷ texts) end =
    (mid : ℕ) × ReadsValue bytes at text mid × ReadsRow bytes mid texts end

-- no value stands there, and why
abbrev pub IsRefused : ℤ → List ℕ → ℕ → Type 0
IsRefused answer bytes at =
    ((answer ≡ MISSING_BYTES) × IsCutShort bytes at)
    ⊎ ((answer ≡ NOT_A_NUMBER) × (slice_get (drop at bytes) 0 ≡ Some 0xff))

-- this many values are read, and the next one is refused
abbrev pub StopsRow : ℤ → List ℕ → ℕ → List Span → Type 0
StopsRow answer bytes at texts =
    (count : ℕ) × (end : ℕ) × (count < length texts) × ReadsRow bytes at (take count texts) end
    × IsRefused answer bytes end

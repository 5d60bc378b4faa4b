-- Numbers and texts at a place in bytes.
use Rattle.std.specs.Prelude.{◌≡◌, ℕ, ◌+◌, ◌<◌, ◌≤◌, ◌⊎◌, List, ◌++◌, length, take, drop, slice_get, Some}
use Rattle.wire_buf.specs.Spelling.{EatsSpelling, SpellsNothing}
use Rattle.wire_buf.specs.Lenenc.{IsLenenc, IsLenencOrMark}
use Rattle.mysql_wire_c_calls.specs.declared.fields.Span.{Span}

-- the bytes from one place to another are a spelling of the number
abbrev pub ReadsAt : (ℕ → List ℕ → Type 0) → List ℕ → ℕ → ℕ → ℕ → Type 0
ReadsAt spells bytes at n end =
    EatsSpelling spells (drop at bytes) n (drop end bytes) × (at ≤ end) × (end ≤ length bytes)

-- no front of what stands there spells a length, or fewer bytes follow than it says
abbrev pub IsCutShort : List ℕ → ℕ → Type 0
IsCutShort bytes at =
    SpellsNothing IsLenencOrMark (drop at bytes)
    ⊎ ((len : ℕ) × (mid : ℕ) × ReadsAt IsLenenc bytes at len mid × (length bytes < mid + len))

-- the text that stands there
abbrev pub text_at : Span → List ℕ → List ℕ
text_at span bytes = take span.len (drop span.at bytes)

-- these bytes are written from one place to another, and all others stay
abbrev pub WritesAt : List ℕ → ℕ → List ℕ → List ℕ → ℕ → Type 0
WritesAt old at bytes new end =
    (new ≡ take at old ++ bytes ++ drop end old) × (end ≡ at + length bytes)
    × (end ≤ length old)

-- the first byte is one that begins no length-encoded integer
abbrev pub IsMark : List ℕ → Type 0
IsMark bytes = (slice_get bytes 0 ≡ Some 0xfb) ⊎ (slice_get bytes 0 ≡ Some 0xff)

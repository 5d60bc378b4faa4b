-- Texts after their length.
use Rattle.std.specs.Prelude.{ℕ, ◌≡◌, ◌<◌, List, ◌++◌, length, Result, Ok, Err, ◌⊎◌}
use Rattle.wire_buf.specs.declared.error.WireError.{WireError}
use Rattle.wire_buf.specs.declared.error.WireError.TheVariants.{OutOfMemory}

-- the longest texts after one and four bytes of length
unfoldable pub u8_max : ℕ
u8_max = 255

unfoldable pub u32_max : ℕ
u32_max = 4294967295

-- The spelling of a length is put and then the text. A refusal comes only where there is too little
-- room for both, and leaves nothing or the spelling alone.
abbrev pub PutsText : {X : Type 0} → Result X WireError → List ℕ → List ℕ → ℕ → List ℕ → List ℕ
    → Type 0
PutsText (Ok _) old new room spelling text = new ≡ old ++ (spelling ++ text)
PutsText (Err error) old new room spelling text =
    (error ≡ OutOfMemory) × (room < length (spelling ++ text))
    × ((new ≡ old) ⊎ (new ≡ old ++ spelling))

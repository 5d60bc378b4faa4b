-- Numbers and texts over readers and writers. What a stream holds is known where it tells its
-- bytes; where it doesn't, nothing is said.
use Rattle.std.specs.Prelude.{ℕ, ◌≡◌, List, [], ◌∷◌, Option, Some, None, ◌⊎◌, ⊤}
use Rattle.std.specs.Io.KnownBytes.{Consumes}
use Rattle.wire_buf.specs.declared.error.WireError.{WireError}
use Rattle.wire_buf.specs.declared.error.WireError.TheVariants.{UnexpectedEof, InvalidData, Other, Io, OutOfMemory}
use Rattle.wire_buf.specs.Spelling.{EatsSpelling, EatsText}

-- a spelling of the number was read
abbrev pub ConsumesSpelling : (ℕ → List ℕ → Type 0) → Option (List ℕ) → ℕ → Option (List ℕ) → Type 0
ConsumesSpelling spells None n new = ⊤
ConsumesSpelling spells (Some old) n None = ⊥
ConsumesSpelling spells (Some old) n (Some new) = EatsSpelling spells old n new

-- a spelling of the text's length and the text were read
abbrev pub ConsumesText : (ℕ → List ℕ → Type 0) → Option (List ℕ) → List ℕ → Option (List ℕ)
    → Type 0
ConsumesText spells None text new = ⊤
ConsumesText spells (Some old) text None = ⊥
ConsumesText spells (Some old) text (Some new) = EatsText spells old text new

-- the stream failed, or its input ended
abbrev pub IsIo : WireError → Type 0
IsIo (Io _) = ⊤
IsIo UnexpectedEof = ⊥
IsIo (InvalidData _) = ⊥
IsIo (Other _) = ⊥
IsIo OutOfMemory = ⊥

-- or memory was refused
abbrev pub IsIoOrMemory : WireError → Type 0
IsIoOrMemory error = IsIo error ⊎ (error ≡ OutOfMemory)

-- Why an integer was not read: its first byte is fb or ff, and it alone was read; or the reader's
-- fault.
abbrev pub RefusesLenenc : WireError → Option (List ℕ) → Option (List ℕ) → Type 0
RefusesLenenc (Other _) old new = Consumes old new (0xfb ∷ []) ⊎ Consumes old new (0xff ∷ [])
RefusesLenenc (Io _) old new = ⊤
RefusesLenenc UnexpectedEof old new = ⊥
RefusesLenenc (InvalidData _) old new = ⊥
RefusesLenenc OutOfMemory old new = ⊥

-- Why a text was not read: as its length; or for want of memory.
abbrev pub RefusesText : WireError → Option (List ℕ) → Option (List ℕ) → Type 0
RefusesText error old new = RefusesLenenc error old new ⊎ (error ≡ OutOfMemory)

-- Bytes that are always the same, or that say nothing, are read back.
use Rattle.std.proofs.Common.{ℕ, ◌≡◌, ◌≢◌, List, ◌++◌, length, take, Result, Ok, Err, sym, ◌∙◌}
use Rattle.std.specs.Prelude.{replicate}
use Rattle.std.proofs.lemmas.List.{take_at, length-replicate}
use Rattle.wire_buf.specs.declared.error.WireError.{WireError}
use Rattle.wire_buf.specs.declared.error.WireError.TheVariants.{InvalidData}
use Rattle.wire_buf.specs.declared.error.InvalidReason.TheVariants.{ConstMismatch}
use Rattle.wire_repr.specs.Law.{ComesBack}

-- the first count bytes are these, and others are refused; they are eaten either way
abbrev pub ReadsConst : {X : Type 0} → ℕ → List ℕ → List ℕ → Result X WireError → ℕ → Type 0
ReadsConst count bytes input (Ok _) eaten = (take count input ≡ bytes) × (eaten ≡ count)
ReadsConst count bytes input (Err error) eaten = (error ≡ InvalidData ConstMismatch)
    × (take count input ≢ bytes) × (eaten ≡ count)

-- the first count bytes are eaten, whatever they are
abbrev pub ReadsAny : {X : Type 0} → ℕ → List ℕ → Result X WireError → ℕ → Type 0
ReadsAny count input (Ok _) eaten = eaten ≡ count
ReadsAny count input (Err error) eaten = ⊥

-- ---- lemmas

pub ReadsConst-back : {X : Type 0} (count : ℕ) (bytes rest : List ℕ) → length bytes ≡ count
    → (answer : Result X WireError) (eaten : ℕ)
    → ReadsConst count bytes (bytes ++ rest) answer eaten
    → ComesBack (λ (back : X). Unit {0}) ⊥ (length bytes) answer eaten
ReadsConst-back count bytes rest len (Ok _) eaten read = (tt, read.1 ∙ sym len)
ReadsConst-back count bytes rest len (Err error) eaten read =
    absurd (read.1 (take_at bytes rest count len))

pub ReadsAny-back : {X : Type 0} (count len : ℕ) (input : List ℕ) → len ≡ count
    → (answer : Result X WireError) (eaten : ℕ)
    → ReadsAny count input answer eaten → ComesBack (λ (back : X). Unit {0}) ⊥ len answer eaten
ReadsAny-back count len input is (Ok _) eaten read = (tt, read ∙ sym is)
ReadsAny-back count len input is (Err error) eaten read = absurd read

pub length-zeros : (count : ℕ) → length {A = ℕ} (replicate count 0) ≡ count
length-zeros count = length-replicate {A = ℕ} count 0

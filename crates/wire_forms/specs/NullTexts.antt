-- Texts that a zero ends.
use Rattle.std.specs.Prelude.{ℕ, ◌≡◌, ◌≢◌, List, [], ◌∷◌, ◌++◌, Result, Ok, Err}
use Rattle.wire_buf.specs.declared.error.WireError.{WireError}
use Rattle.wire_buf.specs.declared.error.WireError.TheVariants.{InvalidData}
use Rattle.wire_buf.specs.declared.error.InvalidReason.TheVariants.{NoNullTerminator}

abbrev pub HasNoZero : List ℕ → Type 0
HasNoZero [] = Unit {0}
HasNoZero (byte ∷ bytes) = (byte ≢ 0) × HasNoZero bytes

-- the text up to the first zero, which is eaten; without one, nothing is
abbrev pub ReadsNull : List ℕ → Result (List ℕ) WireError → List ℕ → Type 0
ReadsNull old (Ok text) new = (old ≡ text ++ 0 ∷ new) × HasNoZero text
ReadsNull old (Err error) new = (error ≡ InvalidData NoNullTerminator) × HasNoZero old × (new ≡ old)

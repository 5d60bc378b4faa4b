-- Fields that are there where a payload goes on.
use Rattle.std.specs.Prelude.{ℕ, ◌≡◌, Bool, false, List, [], ◌∷◌, ◌++◌, length, Option, Some, Result, Ok, Err}
use Rattle.std.proofs.Common.{refl, subst}
use Rattle.wire_forms.specs.Constants.{ReadsAny}
use Rattle.wire_field.specs.declared.row.Either.{Either}
use Rattle.wire_field.specs.declared.row.Either.TheVariants.{Right}
use Rattle.wire_repr.specs.Law.{ComesBack}
use Rattle.wire_buf.specs.Reading.{Parses, Through}
use Rattle.wire_field.specs.Rows.{ReadsEither}
use Rattle.wire_buf.specs.declared.error.WireError.{WireError}
use Rattle.mysql_wire_parts.specs.InOrder.{Back}
use Rattle.mysql_wire_parts.specs.Optional.{IsThere, KeptField, bytes_if, optional, side}

-- the context of a field, or none where no bytes are left
abbrev pub if_more : {C : Type 0} → Either C (Unit {0}) → List ℕ → Either C (Unit {0})
if_more ctx [] = Right tt
if_more ctx (byte ∷ bytes) = ctx

-- the flag is set, and bytes are left
abbrev pub there_if : Bool → List ℕ → Bool
there_if flag [] = false
there_if flag (byte ∷ bytes) = flag

-- ---- lemmas

if_more-side : {C : Type 0} (ctx : C) (flag : Bool) (input : List ℕ)
    → if_more (side ctx flag) input ≡ side ctx (there_if flag input)
if_more-side ctx flag [] = refl
if_more-side ctx flag (byte ∷ bytes) = refl

through_back : {X Y : Type 0} (part : Y → X) (kept : X → Type 0) (len : ℕ)
    (says : Result X WireError → ℕ → Type 0)
    → ((answer : Result X WireError) (eaten : ℕ) → says answer eaten
    → ComesBack kept ⊥ len answer eaten)
    → (answer : Result Y WireError) (eaten : ℕ) → Through part says answer eaten
    → ComesBack (λ y. kept (part y)) ⊥ len answer eaten
through_back part kept len says law (Ok y) eaten read = law (Ok (part y)) eaten read
through_back part kept len says law (Err error) eaten read = law (Err error) eaten read

-- a field that is there under a flag, where the payload goes on
pub more : {A B C X Y : Type 0} {rest : List ℕ} (part : Y → Either A B)
    (reads : C → List ℕ → Result A WireError → ℕ → Type 0) (ctx : C) (flag : Bool)
    (value : Option X) (kept : X → A → Type 0) (bytes : X → List ℕ)
    → IsThere (there_if flag (bytes_if bytes value ++ rest)) value
    → ((x : X) → value ≡ Some x → Back (reads ctx) (kept x) (bytes x) rest)
    → Back (λ input. Through part (ReadsEither {C = C} {D = Unit {0}} {A = A} {B = B} reads
    (λ _. Parses (Some 0) (ReadsAny 0)) (if_more (side ctx flag) input) input))
    (λ y. KeptField kept value (part y)) (bytes_if bytes value) rest
more {A = A} {B = B} {C = C} {rest = rest} part reads ctx flag value kept bytes is back =
    let input = bytes_if bytes value ++ rest in
    let field = optional {A = A} {B = B} reads ctx (there_if flag input) value kept bytes is back in
    record {
      law = through_back part (KeptField kept value) (length (bytes_if bytes value))
          (ReadsEither {C = C} {D = Unit {0}} {A = A} {B = B} reads
          (λ _. Parses (Some 0) (ReadsAny 0)) (if_more (side ctx flag) input) input)
          (λ answer eaten read. field.law answer eaten
          (subst (λ ctx. ReadsEither {C = C} {D = Unit {0}} {A = A} {B = B} reads
          (λ _. Parses (Some 0) (ReadsAny 0)) ctx input answer eaten)
          (if_more-side ctx flag input) read));
    }

-- A value that a number converts to.
use Rattle.std.proofs.Common.{◌≡◌, ℕ, Result, Ok, Err, ◌⊎◌, inl, inr, subst}
use Rattle.wire_buf.specs.declared.error.WireError.{WireError}
use Rattle.wire_buf.specs.declared.error.WireError.TheVariants.{InvalidData}
use Rattle.wire_buf.specs.declared.error.InvalidReason.TheVariants.{UnknownValue}
use Rattle.wire_buf.specs.Reading.{Answers}
use Rattle.wire_repr.specs.Law.{ComesBack}

-- the number that is read converts to the value, or else to none, and the value is unknown
abbrev pub ReadsConverted : {P T E Y : Type 0} → (Y → T) → (P → Result T E → Type 0)
    → (Result P WireError → ℕ → Type 0) → Result Y WireError → ℕ → Type 0
ReadsConverted {P = P} part converts says (Ok value) eaten =
    (number : P) × says (Ok number) eaten × converts number (Ok (part value))
ReadsConverted {P = P} {E = E} part converts says (Err error) eaten =
    says (Err error) eaten ⊎ ((number : P) × (refusal : E) × says (Ok number) eaten
    × converts number (Err refusal) × (error ≡ InvalidData UnknownValue))

-- the number converts to the value, and to nothing else
abbrev pub ConvertsBack : {P T E : Type 0} → (P → Result T E → Type 0) → P → T → Type 0
ConvertsBack {T = T} {E = E} converts number value =
    (answer : Result T E) → converts number answer → answer ≡ Ok value

-- so does what is kept of a number that is one of its type
abbrev pub KeepsValue : {P T E : Type 0} → (P → Type 0) → (P → P) → (P → Result T E → Type 0) → P
    → T → Type 0
KeepsValue is_value kept converts number value =
    is_value number × ConvertsBack converts (kept number) value

-- ---- lemmas

pub ReadsConverted-back : {P T E Y : Type 0} (part : Y → T) (converts : P → Result T E → Type 0)
    (says : Result P WireError → ℕ → Type 0) (kept_number : P) (value : T) (len : ℕ)
    → ((answer : Result P WireError) (eaten : ℕ) → says answer eaten
    → Answers (Ok kept_number, len) answer eaten) → ConvertsBack converts kept_number value
    → (answer : Result Y WireError) (eaten : ℕ) → ReadsConverted part converts says answer eaten
    → ComesBack (λ wrapped. part wrapped ≡ value) ⊥ len answer eaten
ReadsConverted-back {P = P} {T = T} {E = E} part converts says kept_number value len law
    converts_back (Ok wrapped) eaten (number, read, converted) =
    let answered = law (Ok number) eaten read in
    let is : ◌≡◌ {A = Result P WireError} (Ok number) (Ok kept_number) = answered.0 in
    let same_number : number ≡ kept_number = cc is in
    let same_value : ◌≡◌ {A = Result T E} (Ok (part wrapped)) (Ok value) =
    converts_back (Ok (part wrapped))
    (subst (λ from. converts from (Ok (part wrapped))) same_number converted) in
    let same_part : part wrapped ≡ value = cc same_value in
    (same_part, answered.1)
ReadsConverted-back {P = P} part converts says kept_number value len law converts_back (Err error)
    eaten (inl read) =
    let is : ◌≡◌ {A = Result P WireError} (Err error) (Ok kept_number) =
    (law (Err error) eaten read).0 in
    cc is
ReadsConverted-back {P = P} {T = T} {E = E} part converts says kept_number value len law
    converts_back (Err error) eaten (inr (number, refusal, read, converted, unknown)) =
    let is : ◌≡◌ {A = Result P WireError} (Ok number) (Ok kept_number) =
    (law (Ok number) eaten read).0 in
    let same_number : number ≡ kept_number = cc is in
    let same_value : ◌≡◌ {A = Result T E} (Err refusal) (Ok value) =
    converts_back (Err refusal)
    (subst (λ from. converts from (Err refusal)) same_number converted) in
    cc same_value

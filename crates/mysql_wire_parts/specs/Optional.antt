-- Fields that capabilities decide on.
use Rattle.std.specs.Prelude.{ℕ, ◌≡◌, ◌==◌, Bool, true, false, bit_and, List, [], ◌++◌, length, Option, Some, None, Result, Ok, Err}
use Rattle.std.proofs.Common.{refl}
use Rattle.wire_const.specs.FlagSets.{capability_flags_bits}
use Rattle.wire_const.specs.declared.flag_sets.capability.CapabilityFlags.{CapabilityFlags}
use Rattle.wire_buf.specs.declared.error.WireError.{WireError}
use Rattle.wire_repr.specs.Law.{ComesBack}
use Rattle.wire_buf.specs.Reading.{Parses}
use Rattle.wire_forms.specs.Constants.{ReadsAny}
use Rattle.wire_field.specs.declared.row.Either.{Either}
use Rattle.wire_field.specs.declared.row.Either.TheVariants.{Left, Right}
use Rattle.wire_field.specs.Rows.{ReadsEither, SameSide, by_side}
use Rattle.mysql_wire_parts.specs.InOrder.{Back, skip}

-- the flag is among the flags
abbrev pub has : ℕ → ℕ → Bool
has flags flag = bit_and flags flag == flag

-- queries have attributes
abbrev pub has_query_attributes : CapabilityFlags → Bool
has_query_attributes capabilities = has (capability_flags_bits capabilities) 0x8000000

-- an OK stands in the place of an EOF
abbrev pub deprecates_eof : CapabilityFlags → Bool
deprecates_eof capabilities = has (capability_flags_bits capabilities) 0x1000000

-- the context of a field that is there, and of one that isn't
abbrev pub side : {C : Type 0} → C → Bool → Either C (Unit {0})
side ctx true = Left ctx
side ctx false = Right tt

-- the field of a value that is there, and no bytes for one that isn't
abbrev pub field : {X A B : Type 0} → (X → A) → B → Option X → Either A B
field of_value none (Some value) = Left (of_value value)
field of_value none None = Right none

-- the value is there where this says so
abbrev pub IsThere : {X : Type 0} → Bool → Option X → Type 0
IsThere true (Some value) = Unit {0}
IsThere true None = ⊥
IsThere false (Some value) = ⊥
IsThere false None = Unit {0}

-- what is written of a value that may be missing
abbrev pub bytes_if : {X : Type 0} → (X → List ℕ) → Option X → List ℕ
bytes_if bytes (Some value) = bytes value
bytes_if bytes None = []

-- both are there, and this is said of them, or both are missing
abbrev pub BothIf : {X Y : Type 0} → (X → Y → Type 0) → Option X → Option Y → Type 0
BothIf says (Some value) (Some other) = says value other
BothIf says (Some value) None = ⊥
BothIf says None (Some other) = ⊥
BothIf says None None = Unit {0}

-- this is said of a value that is there
abbrev pub OnIf : {X : Type 0} → (X → Type 0) → Option X → Type 0
OnIf says (Some value) = says value
OnIf says None = Unit {0}

-- the value is on the side that this says
abbrev pub IsSide : {A B : Type 0} → Bool → Either A B → Type 0
IsSide true (Left a) = Unit {0}
IsSide true (Right b) = ⊥
IsSide false (Left a) = ⊥
IsSide false (Right b) = Unit {0}

-- ---- lemmas

-- of a field
abbrev pub KeptField : {X A B : Type 0} → (X → A → Type 0) → Option X → Either A B → Type 0
KeptField kept (Some value) (Left a) = kept value a
KeptField kept (Some value) (Right b) = ⊥
KeptField kept None (Left a) = ⊥
KeptField kept None (Right b) = Unit {0}

left_back : {A B C X : Type 0} {rest : List ℕ}
    (reads : C → List ℕ → Result A WireError → ℕ → Type 0)
    (reads_none : List ℕ → Result B WireError → ℕ → Type 0) (kept : X → A → Type 0)
    (ctx : C) (value : X) (bytes : List ℕ) → Back (reads ctx) (kept value) bytes rest
    → (answer : Result (Either A B) WireError) (eaten : ℕ)
    → ReadsEither reads (λ (_ : Unit {0}). reads_none) (Left ctx) (bytes ++ rest) answer eaten
    → ComesBack (KeptField kept (Some value)) ⊥ (length bytes) answer eaten
left_back reads reads_none kept ctx value bytes back (Ok (Left a)) eaten read =
    back.law (Ok a) eaten read
left_back reads reads_none kept ctx value bytes back (Ok (Right b)) eaten read = absurd read
left_back reads reads_none kept ctx value bytes back (Err error) eaten read =
    back.law (Err error) eaten read

right_back : {A B C X : Type 0} {rest : List ℕ}
    (reads : C → List ℕ → Result A WireError → ℕ → Type 0)
    (reads_none : List ℕ → Result B WireError → ℕ → Type 0) (kept : X → A → Type 0)
    → Back reads_none (λ _. Unit {0}) [] rest
    → (answer : Result (Either A B) WireError) (eaten : ℕ)
    → ReadsEither reads (λ (_ : Unit {0}). reads_none) (Right tt) rest answer eaten
    → ComesBack (KeptField kept None) ⊥ 0 answer eaten
right_back reads reads_none kept back (Ok (Left a)) eaten read = absurd read
right_back reads reads_none kept back (Ok (Right b)) eaten read = back.law (Ok b) eaten read
right_back reads reads_none kept back (Err error) eaten read = back.law (Err error) eaten read

-- a field that may be missing
pub optional : {A B C X : Type 0} {rest : List ℕ}
    (reads : C → List ℕ → Result A WireError → ℕ → Type 0) (ctx : C) (is_there : Bool)
    (value : Option X) (kept : X → A → Type 0) (bytes : X → List ℕ)
    → IsThere is_there value
    → ((x : X) → value ≡ Some x → Back (reads ctx) (kept x) (bytes x) rest)
    → Back (ReadsEither {C = C} {D = Unit {0}} {A = A} {B = B} reads
    (λ _. Parses (Some 0) (ReadsAny 0)) (side ctx is_there)) (KeptField kept value)
    (bytes_if bytes value) rest
optional reads ctx true (Some x) kept bytes is back = record {
  law = left_back reads (Parses (Some 0) (ReadsAny 0)) kept ctx x (bytes x) (back x refl);
}
optional reads ctx true None kept bytes is back = absurd is
optional reads ctx false (Some x) kept bytes is back = absurd is
optional {B = B} {rest = rest} reads ctx false None kept bytes is back = record {
  law = right_back reads (Parses (Some 0) (ReadsAny 0)) kept (skip {Y = B} {rest = rest} 0);
}

-- what is kept of the field is kept of the value
pub kept_field : {X A B Y : Type 0} (kept : X → A → Type 0) (none : B) (of_value : Y → A)
    (says : X → Y → Type 0) (value : Option X) (back : Option Y)
    → ((x : X) (y : Y) → kept x (of_value y) → says x y)
    → KeptField kept value (field of_value none back) → BothIf says value back
kept_field kept none of_value says (Some x) (Some y) follows came = follows x y came
kept_field kept none of_value says (Some x) None follows came = absurd came
kept_field kept none of_value says None (Some y) follows came = absurd came
kept_field kept none of_value says None None follows came = tt

-- one of two fields
side_left : {A B C D : Type 0} {rest : List ℕ}
    (reads_a : C → List ℕ → Result A WireError → ℕ → Type 0)
    (reads_b : D → List ℕ → Result B WireError → ℕ → Type 0) (kept_a : A → A → Type 0)
    (kept_b : B → B → Type 0) (ctx : C) (a : A) (bytes : List ℕ)
    → Back (reads_a ctx) (kept_a a) bytes rest
    → (answer : Result (Either A B) WireError) (eaten : ℕ)
    → ReadsEither reads_a reads_b (Left ctx) (bytes ++ rest) answer eaten
    → ComesBack (SameSide kept_a kept_b (Left a)) ⊥ (length bytes) answer eaten
side_left reads_a reads_b kept_a kept_b ctx a bytes back (Ok (Left came)) eaten read =
    back.law (Ok came) eaten read
side_left reads_a reads_b kept_a kept_b ctx a bytes back (Ok (Right came)) eaten read = absurd read
side_left reads_a reads_b kept_a kept_b ctx a bytes back (Err error) eaten read =
    back.law (Err error) eaten read

side_right : {A B C D : Type 0} {rest : List ℕ}
    (reads_a : C → List ℕ → Result A WireError → ℕ → Type 0)
    (reads_b : D → List ℕ → Result B WireError → ℕ → Type 0) (kept_a : A → A → Type 0)
    (kept_b : B → B → Type 0) (ctx : D) (b : B) (bytes : List ℕ)
    → Back (reads_b ctx) (kept_b b) bytes rest
    → (answer : Result (Either A B) WireError) (eaten : ℕ)
    → ReadsEither reads_a reads_b (Right ctx) (bytes ++ rest) answer eaten
    → ComesBack (SameSide kept_a kept_b (Right b)) ⊥ (length bytes) answer eaten
side_right reads_a reads_b kept_a kept_b ctx b bytes back (Ok (Left came)) eaten read = absurd read
side_right reads_a reads_b kept_a kept_b ctx b bytes back (Ok (Right came)) eaten read =
    back.law (Ok came) eaten read
side_right reads_a reads_b kept_a kept_b ctx b bytes back (Err error) eaten read =
    back.law (Err error) eaten read

pub one_of : {A B C : Type 0} {rest : List ℕ}
    (reads_a : C → List ℕ → Result A WireError → ℕ → Type 0)
    (reads_b : Unit {0} → List ℕ → Result B WireError → ℕ → Type 0) (ctx : C) (is_left : Bool)
    (value : Either A B) (kept_a : A → A → Type 0) (kept_b : B → B → Type 0)
    (bytes_a : A → List ℕ) (bytes_b : B → List ℕ) → IsSide is_left value
    → ((a : A) → value ≡ Left a → Back (reads_a ctx) (kept_a a) (bytes_a a) rest)
    → ((b : B) → value ≡ Right b → Back (reads_b tt) (kept_b b) (bytes_b b) rest)
    → Back (ReadsEither reads_a reads_b (side ctx is_left)) (SameSide kept_a kept_b value)
    (by_side bytes_a bytes_b value) rest
one_of reads_a reads_b ctx true (Left a) kept_a kept_b bytes_a bytes_b is left right = record {
  law = side_left reads_a reads_b kept_a kept_b ctx a (bytes_a a) (left a refl);
}
one_of reads_a reads_b ctx true (Right b) kept_a kept_b bytes_a bytes_b is left right = absurd is
one_of reads_a reads_b ctx false (Left a) kept_a kept_b bytes_a bytes_b is left right = absurd is
one_of reads_a reads_b ctx false (Right b) kept_a kept_b bytes_a bytes_b is left right = record {
  law = side_right reads_a reads_b kept_a kept_b tt b (bytes_b b) (right b refl);
}

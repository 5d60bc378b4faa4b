-- Fields one after another, and a packet that is made of them: what was read is written as it
-- stood.
use Rattle.std.specs.Prelude.{ℕ, ◌≡◌, ◌<◌, ◌≤◌, ◌^◌, ◌%◌, Bool, true, false, List, [], ◌∷◌, ◌++◌, length, take, drop, Option, Some, None, Result, Ok, Err, IfOk}
use Rattle.std.proofs.Common.{zero, suc, inl, inr, refl, sym, ap, subst, ◌∙◌, arith}
use Rattle.std.proofs.Math.Seq.{take-add}
use Rattle.std.proofs.lemmas.List.{length-take, length-take-le, take_all}
use Rattle.std.proofs.lemmas.Bool.{cases_lt, le-ltb, lt-ltb}
use Rattle.wire_buf.specs.declared.error.WireError.{WireError}
use Rattle.wire_buf.specs.declared.error.WireError.TheVariants.{UnexpectedEof}
use Rattle.wire_repr.specs.Law.{ReadsFixed}
use Rattle.wire_buf.specs.Reading.{Answers, Parses, Through, front_at}
use Rattle.wire_buf.specs.Numbers.{le_number, le_bytes, IsBytes}
use Rattle.wire_buf.specs.NumberLemmas.{le_bytes-le_number, le_number-lt}
use Rattle.wire_forms.specs.Constants.{ReadsAny, ReadsConst}
use Rattle.wire_field.specs.declared.row.Both.{Both}
use Rattle.wire_field.specs.declared.row.Either.{Either}
use Rattle.wire_field.specs.declared.row.Either.TheVariants.{Left, Right}
use Rattle.wire_field.specs.Rows.{ReadsBoth, ReadsEither, by_side}
use Rattle.mysql_wire_parts.specs.Optional.{bytes_if, field, side}
use Rattle.mysql_wire_statements.specs.Fronts.{take_are}

-- what is read of bytes is written as those of them that were eaten
pub record Again {X : Type 0} (reads : List ℕ → Result X WireError → ℕ → Type 0)
    (bytes : X → List ℕ) : Type 0 where
  pub law : (input : List ℕ) (value : X) (eaten : ℕ) → IsBytes input → reads input (Ok value) eaten
      → bytes value ≡ take eaten input

-- ---- lemmas

pub drop_are : (count : ℕ) (bytes : List ℕ) → IsBytes bytes → IsBytes (drop count bytes)
drop_are zero bytes are = are
drop_are (suc count) [] are = are
drop_are (suc count) (byte ∷ bytes) are = drop_are count bytes (λ k. are (suc k))

-- a field of this many bytes was read of just these
parsed : {X : Type 0} (count : ℕ) (reads : List ℕ → Result X WireError → ℕ → Type 0)
    (input : List ℕ) (value : X) (eaten : ℕ) → Parses (Some count) reads input (Ok value) eaten
    → (count ≤ length input) × (eaten ≡ count) × (looked_at : ℕ)
    × reads (take count input) (Ok value) looked_at
parsed {X = X} count reads input value eaten (inl (short, is, none)) =
    let answered : ◌≡◌ {A = Result X WireError} (Ok value) (Err UnexpectedEof) = is in
    cc answered
parsed count reads input value eaten (inr read) = read

take_twice : (count : ℕ) (bytes : List ℕ) → take count (take count bytes) ≡ take count bytes
take_twice count bytes =
    take_all count (take count bytes) (omega (arith, length-take count bytes))

const_law : {X : Type 0} (byte : ℕ) (input : List ℕ) (value : X) (eaten : ℕ)
    → Parses (Some 1) (ReadsConst 1 (byte ∷ [])) input (Ok value) eaten
    → byte ∷ [] ≡ take eaten input
const_law byte input value eaten read =
    let (there, count, looked_at, same) =
    parsed 1 (ReadsConst 1 (byte ∷ [])) input value eaten read in
    sym same.0 ∙ take_twice 1 input ∙ ap (λ n. take n input) (sym count)

number_law : {Y : Type 0} (part : Y → ℕ) (count : ℕ) (input : List ℕ) (value : Y) (eaten : ℕ)
    → IsBytes input
    → Parses (Some count) (λ input. Through part (ReadsFixed count le_number input)) input (Ok value)
    eaten
    → le_bytes count (part value) ≡ take eaten input
number_law part count input value eaten are read =
    let (there, whole, looked_at, answered) =
    parsed count (λ input. Through part (ReadsFixed count le_number input)) input value eaten read in
    let is : part value ≡ le_number (take count (take count input)) = cc answered.0 in
    let back : le_bytes (length (take count input)) (le_number (take count input))
    ≡ take count input = le_bytes-le_number (take count input) (take_are count input are) in
    let len : length (take count input) ≡ count = length-take-le count input there in
    let number : part value ≡ le_number (take count input) = is ∙ ap le_number (take_twice count input)
    in
    ap (le_bytes count) number ∙ (subst (λ n. le_bytes n (le_number (take count input))
    ≡ take count input) len back ∙ ap (λ n. take n input) (sym whole))

byte_law : {Y : Type 0} (part : Y → ℕ) (input : List ℕ) (value : Y) (eaten : ℕ) → IsBytes input
    → Parses (Some 1) (λ input. Through part (ReadsFixed 1 le_number input)) input (Ok value) eaten
    → part value ∷ [] ≡ take eaten input
byte_law part input value eaten are read =
    let (there, whole, looked_at, answered) =
    parsed 1 (λ input. Through part (ReadsFixed 1 le_number input)) input value eaten read in
    let is : part value ≡ le_number (take 1 (take 1 input)) = cc answered.0 in
    let short : length (take 1 (take 1 input)) ≡ 1 =
    omega (arith, there, length-take 1 (take 1 input), length-take 1 input) in
    let below : le_number (take 1 (take 1 input)) < 256 ^ length (take 1 (take 1 input)) =
    le_number-lt (take 1 (take 1 input)) (take_are 1 (take 1 input) (take_are 1 input are)) in
    let byte : le_number (take 1 (take 1 input)) < 256 ^ 1 =
    subst (λ n. le_number (take 1 (take 1 input)) < 256 ^ n) short below in
    let low : part value ≡ part value % 256 = omega (arith, is, byte) in
    ap (λ n. n ∷ []) low ∙ number_law part 1 input value eaten are read

rest_law : (input text : List ℕ) (eaten : ℕ) → Answers (Ok input, length input) (Ok text) eaten
    → text ≡ take eaten input
rest_law input text eaten (answered, ate) =
    let is : text ≡ input = cc answered in
    is ∙ sym (take_all eaten input (omega (arith, ate)))

slice_short : (count : ℕ) (input bytes : List ℕ) (eaten : ℕ) → length input < count
    → Answers (front_at count input) (Ok bytes) eaten → ⊥
slice_short count input bytes eaten short read =
    let (answered, ate) = rw (lt-ltb (length input) count short) at read in
    let is : ◌≡◌ {A = Result (List ℕ) WireError} (Ok bytes) (Err UnexpectedEof) = answered in
    cc is

slice_there : (count : ℕ) (input bytes : List ℕ) (eaten : ℕ) → count ≤ length input
    → Answers (front_at count input) (Ok bytes) eaten → bytes ≡ take eaten input
slice_there count input bytes eaten there read =
    let (answered, ate) = rw (le-ltb (length input) count there) at read in
    let is : bytes ≡ take count input = cc answered in
    is ∙ ap (λ n. take n input) (sym ate)

slice_law : (count : ℕ) (input bytes : List ℕ) (eaten : ℕ)
    → Answers (front_at count input) (Ok bytes) eaten → bytes ≡ take eaten input
slice_law count input bytes eaten read = elim (cases_lt (length input) count) [
  | inl short ↦ absurd (slice_short count input bytes eaten short read)
  | inr there ↦ slice_there count input bytes eaten there read
]

-- one field, and what stands after it
pub both_again : {A B : Type 0} {reads_a : List ℕ → Result A WireError → ℕ → Type 0}
    {reads_b : List ℕ → Result B WireError → ℕ → Type 0} {bytes_a : A → List ℕ}
    {bytes_b : B → List ℕ} → Again reads_a bytes_a → Again reads_b bytes_b
    → Again (ReadsBoth {Y = Both A B} (λ both. both.0) (λ both. both.1) reads_a reads_b)
    (λ both. bytes_a both.0 ++ bytes_b both.1)
both_again again_a again_b = record {
  law = λ input value eaten are read. (
      let (taken, after, there, read_a, read_b, sum) = read in
      let first = again_a.law input value.0 taken are read_a in
      let second = again_b.law (drop taken input) value.1 after (drop_are taken input are) read_b in
      rw (first, second, sum) (sym (take-add taken after input)));
}

-- a packet whose fields these are
pub packet_again : {X Y : Type 0} {bytes : X → List ℕ}
    (reads : List ℕ → Result X WireError → ℕ → Type 0) (part : Y → X) → Again reads bytes
    → (input : List ℕ) (value : Y) (eaten : ℕ) → IsBytes input
    → Through part (reads input) (Ok value) eaten → bytes (part value) ≡ take eaten input
packet_again reads part again input value eaten are read =
    again.law input (part value) eaten are read

-- a byte that is always the same
pub const_again : {X : Type 0} (byte : ℕ)
    → Again {X = X} (Parses (Some 1) (ReadsConst 1 (byte ∷ []))) (λ _. byte ∷ [])
const_again byte = record {
  law = λ input value eaten are read. const_law byte input value eaten read;
}

-- a number of this many bytes, the least significant first
pub number_again : {Y : Type 0} (part : Y → ℕ) (count : ℕ)
    → Again (Parses (Some count) (λ input. Through part (ReadsFixed count le_number input)))
    (λ y. le_bytes count (part y))
number_again part count = record {
  law = λ input value eaten are read. number_law part count input value eaten are read;
}

-- what stands up to the end
pub rest_again : {Y : Type 0} (part : Y → List ℕ)
    → Again (λ input. Through part (Answers (Ok input, length input))) part
rest_again part = record {
  law = λ input value eaten are read. rest_law input (part value) eaten read;
}

-- this many bytes
pub slice_again : {Y : Type 0} (part : Y → List ℕ) (count : ℕ)
    → Again (λ input. Through part (Answers (front_at count input))) part
slice_again part count = record {
  law = λ input value eaten are read. slice_law count input (part value) eaten read;
}

-- one byte
pub byte_again : {Y : Type 0} (part : Y → ℕ)
    → Again (Parses (Some 1) (λ input. Through part (ReadsFixed 1 le_number input)))
    (λ y. part y ∷ [])
byte_again part = record {
  law = λ input value eaten are read. byte_law part input value eaten are read;
}

-- a field that may be missing
optional_law : {A B C : Type 0} (reads : C → List ℕ → Result A WireError → ℕ → Type 0) (ctx : C)
    (is_there : Bool) (bytes : A → List ℕ) → Again (reads ctx) bytes
    → (input : List ℕ) (value : Either A B) (eaten : ℕ) → IsBytes input
    → ReadsEither {C = C} {D = Unit {0}} {A = A} {B = B} reads (λ _. Parses (Some 0) (ReadsAny 0))
    (side ctx is_there) input (Ok value) eaten
    → by_side bytes (λ _. []) value ≡ take eaten input
optional_law reads ctx true bytes again input (Left a) eaten are read =
    again.law input a eaten are read
optional_law reads ctx true bytes again input (Right b) eaten are read = absurd read
optional_law reads ctx false bytes again input (Left a) eaten are read = absurd read
optional_law reads ctx false bytes again input (Right b) eaten are read =
    let (there, none, looked_at, any) = parsed 0 (ReadsAny 0) input b eaten read in
    ap (λ n. take n input) (sym none)

pub optional_again : {A B C : Type 0} (reads : C → List ℕ → Result A WireError → ℕ → Type 0)
    (ctx : C) (is_there : Bool) (bytes : A → List ℕ) → Again (reads ctx) bytes
    → Again (ReadsEither {C = C} {D = Unit {0}} {A = A} {B = B} reads
    (λ _. Parses (Some 0) (ReadsAny 0)) (side ctx is_there)) (by_side bytes (λ _. []))
optional_again reads ctx is_there bytes again = record {
  law = λ input value eaten are read.
      optional_law reads ctx is_there bytes again input value eaten are read;
}

-- what is written of it is what is written of the value
pub by_field : {A B : Type 0} (bytes : A → List ℕ) (none : B) (value : Option A)
    → by_side bytes (λ _. []) (field (λ x. x) none value) ≡ bytes_if bytes value
by_field bytes none (Some value) = refl
by_field bytes none None = refl

-- what holds of it where its lengths are the shortest holds always, where it has none
pub always : {X : Type 0} (answer : Result X WireError) (P : X → Type 0)
    → IfOk answer (λ x. Unit {0} → P x) → IfOk answer P
always (Ok x) P holds = holds tt
always (Err error) P holds = tt

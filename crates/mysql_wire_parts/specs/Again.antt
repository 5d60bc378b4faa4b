-- What is read is written again as the bytes that were eaten.
use Rattle.std.specs.Prelude.{ℕ, ◌≡◌, ◌<◌, ◌≤◌, ◌+◌, ◌*◌, ◌/◌, ◌≢◌, Bool, true, false, not, slice_index, List, [], ◌∷◌, ◌++◌, length, take, drop, Option, Some, None, Result, Ok}
use Rattle.std.proofs.Common.{zero, suc, refl, sym, ap, subst, ◌∙◌, inl, inr, arith}
use Rattle.std.proofs.lemmas.List.{append_assoc, get_or-drop, length-append, length-drop, length-take-le, take_all, take_at}
use Rattle.std.proofs.lemmas.Bool.{eqb-true}
use Rattle.std.proofs.lemmas.List.Sums.{prefix_len_is}
use Rattle.std.proofs.Math.Seq.{take-add}
use Rattle.std.specs.Cow.{cow_slice_items}
use Rattle.std.specs.List.{before_first, position_or_len}
use Rattle.std.specs.declared.borrow.CowSlice.{CowSlice}
use Rattle.std.specs.declared.borrow.CowSlice.TheVariants.{Borrowed, Owned}
use Rattle.wire_field.specs.declared.row.Both.{Both}
use Rattle.wire_forms.specs.Constants.{ReadsAny, ReadsConst}
use Rattle.wire_field.specs.declared.row.Either.{Either}
use Rattle.wire_field.specs.declared.row.Either.TheVariants.{Left, Right}
use Rattle.wire_repr.specs.Law.{ReadsFixed}
use Rattle.wire_buf.specs.NullText.{is_zero}
use Rattle.wire_forms.specs.NullTexts.{HasNoZero, ReadsNull}
use Rattle.wire_buf.specs.Numbers.{IsBytes, le_bytes, le_number}
use Rattle.wire_buf.specs.NumberLemmas.{IsBytes-cons, IsBytes-nil, le_bytes-le_number}
use Rattle.wire_repr.specs.Texts.{Borrows}
use Rattle.wire_buf.specs.Reading.{Answers, Parses, Through}
use Rattle.wire_field.specs.Rows.{ReadsBoth, ReadsEither}
use Rattle.wire_forms.specs.Spelled.{Leaves}
use Rattle.wire_buf.specs.declared.error.WireError.{WireError}
use Rattle.mysql_wire_parts.specs.Optional.{bytes_if, field}

-- of an input of bytes, what is read is written as just the bytes that were eaten
pub record Again {X : Type 0} (reads : List ℕ → Result X WireError → ℕ → Type 0)
    (bytes : X → List ℕ) : Type 0 where
  pub law : (input : List ℕ) → IsBytes input → (x : X) (eaten : ℕ) → reads input (Ok x) eaten
      → bytes x ≡ take eaten input

-- ---- lemmas

pub IsBytes-drop : (count : ℕ) (bytes : List ℕ) → IsBytes bytes → IsBytes (drop count bytes)
IsBytes-drop count bytes is = λ i.
    subst (λ byte. byte < 256) (sym (get_or-drop count bytes i 0)) (is (count + i))

pub IsBytes-take : (count : ℕ) (bytes : List ℕ) → IsBytes bytes → IsBytes (take count bytes)
IsBytes-take zero bytes is = IsBytes-nil
IsBytes-take (suc count) [] is = IsBytes-nil
IsBytes-take (suc count) (byte ∷ bytes) is =
    IsBytes-cons byte (take count bytes) (is 0) (IsBytes-take count bytes (λ i. is (suc i)))

pub take_twice : (count : ℕ) (bytes : List ℕ) → count ≤ length bytes
    → take count (take count bytes) ≡ take count bytes
take_twice count bytes there =
    take_all count (take count bytes) (omega (arith, length-take-le count bytes there))

no_true : (b : Bool) → (b ≡ true → ⊥) → b ≡ false
no_true true fails = absurd (fails refl)
no_true false fails = refl

not_zero : (byte : ℕ) → byte ≢ 0 → is_zero byte ≡ false
not_zero byte differs = no_true (is_zero byte) (λ is. differs (eqb-true byte 0 is))

-- fields one after another
pub both_again : {A B : Type 0} {reads_a : List ℕ → Result A WireError → ℕ → Type 0}
    {reads_b : List ℕ → Result B WireError → ℕ → Type 0} {bytes_a : A → List ℕ}
    {bytes_b : B → List ℕ} → Again reads_a bytes_a → Again reads_b bytes_b
    → Again (ReadsBoth {Y = Both A B} (λ both. both.0) (λ both. both.1) reads_a reads_b)
    (λ both. bytes_a both.0 ++ bytes_b both.1)
both_again {bytes_b = bytes_b} again_a again_b = record {
  law = λ input is both eaten read.
      (let (taken, after, fits, read_a, read_b, all) = read in
      let front = again_a.law input is both.0 taken read_a in
      let more = again_b.law (drop taken input) (IsBytes-drop taken input is) both.1 after read_b in
      ap (λ bytes. bytes ++ bytes_b both.1) front ∙ ap (λ bytes. take taken input ++ bytes) more
      ∙ sym (take-add taken after input) ∙ ap (λ count. take count input) (sym all));
}

-- a packet whose fields these are
pub packet_again : {X Y : Type 0} {reads : List ℕ → Result X WireError → ℕ → Type 0}
    {bytes : X → List ℕ} (part : Y → X) → Again reads bytes
    → Again (λ input. Through part (reads input)) (λ y. bytes (part y))
packet_again part again = record {
  law = λ input is y eaten read. again.law input is (part y) eaten read;
}

const_law : {X : Type 0} (byte : ℕ) (input : List ℕ) → IsBytes input → (x : X) (eaten : ℕ)
    → Parses (Some 1) (ReadsConst 1 (byte ∷ [])) input (Ok x) eaten → byte ∷ [] ≡ take eaten input
const_law byte input is x eaten (inl (_, failed, _)) = absurd (cc failed)
const_law byte input is x eaten (inr (there, all, looked_at, read)) =
    sym (ap (λ count. take count input) all ∙ sym (take_twice 1 input there) ∙ read.0)

-- a byte that is always the same
pub const_again : {X : Type 0} (byte : ℕ)
    → Again {X = X} (Parses (Some 1) (ReadsConst 1 (byte ∷ []))) (λ _. byte ∷ [])
const_again {X = X} byte = record { law = const_law {X = X} byte }

number_law : {Y : Type 0} (part : Y → ℕ) (count : ℕ) (input : List ℕ) → IsBytes input
    → (y : Y) (eaten : ℕ)
    → Parses (Some count) (λ input. Through part (ReadsFixed count le_number input)) input (Ok y)
    eaten → le_bytes count (part y) ≡ take eaten input
number_law part count input is y eaten (inl (_, failed, _)) = absurd (cc failed)
number_law part count input is y eaten (inr (there, all, looked_at, (answered, _))) =
    let front = take count input in
    let number : part y ≡ le_number (take count front) = cc answered in
    let len : length front ≡ count = length-take-le count input there in
    let back : le_bytes (length front) (le_number front) ≡ front =
    le_bytes-le_number front (IsBytes-take count input is) in
    let told : le_bytes count (le_number front) ≡ front =
    subst (λ n. le_bytes n (le_number front) ≡ front) len back in
    ap (le_bytes count) (number ∙ ap le_number (take_twice count input there)) ∙ told
    ∙ ap (λ n. take n input) (sym all)

-- a number of this many bytes, the least significant first
pub number_again : {Y : Type 0} (part : Y → ℕ) (count : ℕ)
    → Again (Parses (Some count) (λ input. Through part (ReadsFixed count le_number input)))
    (λ y. le_bytes count (part y))
number_again part count = record { law = number_law part count }

eof_law : {Z : Type 0} (text : CowSlice ℕ Z) (input : List ℕ) (eaten : ℕ)
    → Borrows (λ (c : CowSlice ℕ Z). c) (Answers (Ok input, length input)) (Ok text) eaten
    → cow_slice_items text ≡ take eaten input
eof_law (Borrowed text) input eaten (answered, all) =
    let same : text.now ≡ input = cc answered in
    same ∙ sym (take_all eaten input (omega (arith, all)))
eof_law (Owned text) input eaten read = absurd read

-- a text up to the end
pub eof_text_again : {Y Z : Type 0} (part : Y → CowSlice ℕ Z)
    → Again (λ input. Borrows part (Answers (Ok input, length input)))
    (λ y. cow_slice_items (part y))
eof_text_again part = record {
  law = λ input is y eaten read. eof_law (part y) input eaten read;
}

no_zero_at : (bytes : List ℕ) → HasNoZero bytes → (k : ℕ) → k < length bytes
    → slice_index bytes k ≢ 0
no_zero_at [] none k below = absurd (omega (arith, below))
no_zero_at (byte ∷ bytes) none zero below = none.0
no_zero_at (byte ∷ bytes) none (suc k) below =
    no_zero_at bytes none.1 k (omega (arith, below))

clean_same : (text : List ℕ) → HasNoZero text → before_first is_zero text ≡ text
clean_same text none =
    let place : position_or_len is_zero text ≡ length text =
    prefix_len_is (λ x. not (is_zero x)) text (length text) 0 (omega arith)
    (λ k below. ap not (not_zero (slice_index text k) (no_zero_at text none k below)))
    (λ past. absurd (omega arith)) in
    ap (λ n. take n text) place ∙ take_all (length text) text (omega arith)

null_law : {Z : Type 0} (text : CowSlice ℕ Z) (input : List ℕ) (eaten : ℕ)
    → Borrows (λ (c : CowSlice ℕ Z). c) (Leaves ReadsNull input) (Ok text) eaten
    → before_first is_zero (cow_slice_items text) ++ 0 ∷ [] ≡ take eaten input
null_law (Borrowed text) input eaten (there, (parts, none)) =
    let front = text.now ++ 0 ∷ [] in
    let rest = drop eaten input in
    let shape : input ≡ front ++ rest = parts ∙ sym (append_assoc text.now (0 ∷ []) rest) in
    let len : length front ≡ eaten =
    omega (arith, there, ap length shape, length-append front rest, length-drop eaten input) in
    ap (λ bytes. bytes ++ 0 ∷ []) (clean_same text.now none)
    ∙ sym (ap (take eaten) shape ∙ take_at front rest eaten len)
null_law (Owned text) input eaten read = absurd read

-- a text that a zero ends
pub null_text_again : {Y Z : Type 0} (part : Y → CowSlice ℕ Z)
    → Again (λ input. Borrows part (Leaves ReadsNull input))
    (λ y. before_first is_zero (cow_slice_items (part y)) ++ 0 ∷ [])
null_text_again part = record {
  law = λ input is y eaten read. null_law (part y) input eaten read;
}

array_law : (count : ℕ) (input : List ℕ) → IsBytes input → (array : List ℕ) (eaten : ℕ)
    → Parses (Some count) (λ input. Answers (Ok (take count input), count)) input (Ok array) eaten
    → array ≡ take eaten input
array_law count input is array eaten (inl (_, failed, _)) = absurd (cc failed)
array_law count input is array eaten (inr (there, all, looked_at, (answered, _))) =
    let same : array ≡ take count (take count input) = cc answered in
    same ∙ take_twice count input there ∙ ap (λ n. take n input) (sym all)

-- an array of bytes
pub array_again : (count : ℕ)
    → Again (Parses (Some count) (λ input. Answers (Ok (take count input), count))) (λ array. array)
array_again count = record { law = array_law count }

byte_law : {Y : Type 0} (part : Y → ℕ) (input : List ℕ) → IsBytes input → (y : Y) (eaten : ℕ)
    → Parses (Some 1) (λ input. Through part (ReadsFixed 1 le_number input)) input (Ok y) eaten
    → part y ∷ [] ≡ take eaten input
byte_law part input is y eaten (inl (_, failed, _)) = absurd (cc failed)
byte_law part [] is y eaten (inr (there, all, looked_at, read)) = absurd (omega (arith, there))
byte_law part (byte ∷ bytes) is y eaten (inr (there, all, looked_at, (answered, _))) =
    let number : part y ≡ byte + 256 * 0 = cc answered in
    let same : part y ≡ byte = omega (arith, number) in
    ap (λ n. n ∷ []) same ∙ ap (λ n. take n (byte ∷ bytes)) (sym all)

-- one byte
pub byte_again : {Y : Type 0} (part : Y → ℕ)
    → Again (Parses (Some 1) (λ input. Through part (ReadsFixed 1 le_number input)))
    (λ y. part y ∷ [])
byte_again part = record { law = byte_law part }

upper_law : {Y : Type 0} (part : Y → ℕ) (input : List ℕ) → IsBytes input → (y : Y) (eaten : ℕ)
    → Parses (Some 2) (λ input. Through part (ReadsFixed 2 (λ bytes. 65536 * le_number bytes)
    input)) input (Ok y) eaten
    → le_bytes 2 (part y / 65536) ≡ take eaten input
upper_law part input is y eaten (inl (_, failed, _)) = absurd (cc failed)
upper_law part input is y eaten (inr (there, all, looked_at, (answered, _))) =
    let front = take 2 input in
    let number : part y ≡ 65536 * le_number (take 2 front) = cc answered in
    let half : part y / 65536 ≡ le_number front =
    omega (arith, number, ap le_number (take_twice 2 input there)) in
    let len : length front ≡ 2 = length-take-le 2 input there in
    let back : le_bytes (length front) (le_number front) ≡ front =
    le_bytes-le_number front (IsBytes-take 2 input is) in
    let told : le_bytes 2 (le_number front) ≡ front =
    subst (λ n. le_bytes n (le_number front) ≡ front) len back in
    ap (le_bytes 2) half ∙ told ∙ ap (λ n. take n input) (sym all)

-- the upper half of a number
pub upper_again : {Y : Type 0} (part : Y → ℕ)
    → Again (Parses (Some 2) (λ input. Through part (ReadsFixed 2
    (λ bytes. 65536 * le_number bytes) input)))
    (λ y. le_bytes 2 (part y / 65536))
upper_again part = record { law = upper_law part }

-- fields of a value, one after another
pub both_again_of : {Y : Type 0} {reads_a reads_b : List ℕ → Result Y WireError → ℕ → Type 0}
    {bytes_a bytes_b : Y → List ℕ} → Again reads_a bytes_a → Again reads_b bytes_b
    → Again (ReadsBoth {A = Y} {B = Y} {Y = Y} (λ y. y) (λ y. y) reads_a reads_b)
    (λ y. bytes_a y ++ bytes_b y)
both_again_of {bytes_b = bytes_b} again_a again_b = record {
  law = λ input is y eaten read.
      (let (taken, after, fits, read_a, read_b, all) = read in
      let front = again_a.law input is y taken read_a in
      let more = again_b.law (drop taken input) (IsBytes-drop taken input is) y after read_b in
      ap (λ bytes. bytes ++ bytes_b y) front ∙ ap (λ bytes. take taken input ++ bytes) more
      ∙ sym (take-add taken after input) ∙ ap (λ count. take count input) (sym all));
}

-- no bytes
pub nothing_law : {X : Type 0} (input : List ℕ) (x : X) (eaten : ℕ)
    → Parses (Some 0) (ReadsAny 0) input (Ok x) eaten → [] ≡ take eaten input
nothing_law input x eaten (inl (_, failed, _)) = absurd (cc failed)
nothing_law input x eaten (inr (there, none, looked_at, read)) =
    ap (λ n. take n input) (sym none)

-- a field of it that may be missing
optional_again_law : {A B C X : Type 0} (reads : C → List ℕ → Result A WireError → ℕ → Type 0)
    (bytes : A → List ℕ) (of_value : X → A) (none : B) → ((c : C) → Again (reads c) bytes)
    → (ctx : Either C (Unit {0})) (input : List ℕ) → IsBytes input → (value : Option X)
    (eaten : ℕ)
    → ReadsEither {C = C} {D = Unit {0}} {A = A} {B = B} reads
    (λ _. Parses (Some 0) (ReadsAny 0)) ctx input (Ok (field of_value none value)) eaten
    → bytes_if (λ x. bytes (of_value x)) value ≡ take eaten input
optional_again_law reads bytes of_value none law (Left c) input is (Some x) eaten read =
    (law c).law input is (of_value x) eaten read
optional_again_law reads bytes of_value none law (Left c) input is None eaten read = absurd read
optional_again_law reads bytes of_value none law (Right d) input is (Some x) eaten read =
    absurd read
optional_again_law reads bytes of_value none law (Right d) input is None eaten read =
    nothing_law input none eaten read

pub optional_again_of : {A B C X Y : Type 0}
    {reads : C → List ℕ → Result A WireError → ℕ → Type 0} {bytes : A → List ℕ}
    (value : Y → Option X) (of_value : X → A) (none : B) → ((c : C) → Again (reads c) bytes)
    → (ctx : Either C (Unit {0}))
    → Again (λ input. Through (λ y. field of_value none (value y))
    (ReadsEither {C = C} {D = Unit {0}} {A = A} {B = B} reads
    (λ _. Parses (Some 0) (ReadsAny 0)) ctx input))
    (λ y. bytes_if (λ x. bytes (of_value x)) (value y))
optional_again_of {reads = reads} {bytes = bytes} value of_value none law ctx = record {
  law = λ input is y eaten read.
      optional_again_law reads bytes of_value none law ctx input is (value y) eaten read;
}

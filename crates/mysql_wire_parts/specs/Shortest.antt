-- What is read is written again as the bytes that were eaten, where these spell each length in the
-- shortest form.
use Rattle.std.specs.Prelude.{ℕ, ◌≡◌, ◌<◌, ◌≤◌, ◌+◌, ◌^◌, ◌⊎◌, ◌↔◌, List, [], ◌∷◌, ◌++◌, length, take, drop, Option, Some, None, Result, Ok, Err, slice_index}
use Rattle.std.proofs.Common.{suc, inl, inr, refl, sym, ap, subst, ◌∙◌, arith}
use Rattle.std.proofs.Math.Seq.{take-add}
use Rattle.std.proofs.lemmas.Bool.{cases_lt, le-ltb, lt-ltb}
use Rattle.std.proofs.lemmas.List.{append_assoc, length-append, length-drop, length-take, take_all, take_at}
use Rattle.std.specs.Cow.{cow_slice_items}
use Rattle.std.specs.declared.borrow.CowSlice.{CowSlice}
use Rattle.std.specs.declared.borrow.CowSlice.TheVariants.{Borrowed, Owned}
use Rattle.wire_forms.specs.Constants.{ReadsAny}
use Rattle.wire_field.specs.declared.row.Either.{Either}
use Rattle.wire_field.specs.declared.row.Either.TheVariants.{Left, Right}
use Rattle.wire_buf.specs.Lenenc.{IsLenencOrMark, lenenc_bytes}
use Rattle.wire_buf.specs.Numbers.{IsBytes, le_bytes, le_number}
use Rattle.wire_buf.specs.NumberLemmas.{le_bytes-le_number, le_number-lt}
use Rattle.wire_repr.specs.Texts.{Borrows}
use Rattle.wire_buf.specs.Reading.{Answers, Parses, Through, front_at}
use Rattle.wire_field.specs.Rows.{ReadsBoth, ReadsEither, by_side}
use Rattle.wire_forms.specs.Spelled.{Leaves, NumberOrEof, TextBehind}
use Rattle.wire_buf.specs.Spelling.{IsBehind, IsFixed}
use Rattle.wire_ext.specs.Texts.{u8_max}
use Rattle.wire_buf.specs.declared.error.WireError.{WireError}
use Rattle.wire_buf.specs.declared.error.WireError.TheVariants.{UnexpectedEof}
use Rattle.mysql_wire_parts.specs.Again.{Again, IsBytes-drop, IsBytes-take, nothing_law}
use Rattle.mysql_wire_parts.specs.InOrder.{text_bytes, u8_text_bytes}
use Rattle.mysql_wire_parts.specs.Optional.{bytes_if, field}
use Rattle.mysql_wire_parts.specs.Then.{ReadsThen}

-- a byte that begins no length, and is read as the length 0
abbrev pub IsMark : ℕ → Type 0
IsMark byte = (byte ≡ 0xfb) ⊎ (byte ≡ 0xff)

-- no such byte came where a zero is written
abbrev pub HasNoMark : List ℕ → List ℕ → Type 0
HasNoMark [] came = Unit {0}
HasNoMark (byte ∷ bytes) [] = Unit {0}
HasNoMark (byte ∷ bytes) (other ∷ others) = (byte ≡ 0 → IsMark other → ⊥)
    × HasNoMark bytes others

-- What came has no more bytes than what is written, and no byte in a length's place that begins
-- none: so each length that came is spelled in the shortest form.
abbrev pub IsSpelledShortest : List ℕ → List ℕ → Type 0
IsSpelledShortest written came = (length written ≡ length came) × HasNoMark written came

-- what is written is no longer than what came, and the same bytes just where these are spelled so
abbrev pub IsWrittenBack : List ℕ → List ℕ → Type 0
IsWrittenBack written came = (length written ≤ length came)
    × ((written ≡ came) ↔ IsSpelledShortest written came)

-- ---- lemmas

-- what came and is spelled shortest is the same
abbrev pub IsNoLonger : List ℕ → List ℕ → Type 0
IsNoLonger written came = (length written ≤ length came)
    × (IsSpelledShortest written came → written ≡ came)

not_both : (byte : ℕ) → byte ≡ 0 → IsMark byte → ⊥
not_both byte zero_is (inl is) = omega (arith, zero_is, is)
not_both byte zero_is (inr is) = omega (arith, zero_is, is)

no_mark_same : (bytes : List ℕ) → HasNoMark bytes bytes
no_mark_same [] = tt
no_mark_same (byte ∷ bytes) = (
  λ zero_is marked. not_both byte zero_is marked,
  no_mark_same bytes,
)

-- and what is the same is spelled shortest
pub written_back : (written came : List ℕ) → IsNoLonger written came → IsWrittenBack written came
written_back written came told = (
  told.0,
  (
    λ same. (
      ap length same,
      subst (HasNoMark written) same (no_mark_same written),
    ),
    told.1,
  ),
)

-- so it is with each value that is read
pub record Shortest {X : Type 0} (reads : List ℕ → Result X WireError → ℕ → Type 0)
    (bytes : X → List ℕ) : Type 0 where
  pub law : (input : List ℕ) → IsBytes input → (x : X) (eaten : ℕ) → reads input (Ok x) eaten
      → IsNoLonger (bytes x) (take eaten input)

pub no_longer_if_same : (written came : List ℕ) → written ≡ came → IsNoLonger written came
no_longer_if_same written came same = (omega (arith, ap length same), λ short. same)

told_less : (written came : List ℕ) → length written < length came → IsNoLonger written came
told_less written came less =
    (omega (arith, less), λ short. absurd (omega (arith, less, short.0)))

told_cut : (most : ℕ) (text : List ℕ) → IsNoLonger (take most text) text
told_cut most text = (
  omega (arith, length-take most text),
  λ short. take_all most text (omega (arith, short.0, length-take most text)),
)

no_mark_split : (a b c d : List ℕ) → length a ≡ length c → HasNoMark (a ++ b) (c ++ d)
    → HasNoMark a c × HasNoMark b d
no_mark_split [] b [] d len none = (tt, none)
no_mark_split [] b (head ∷ c) d len none = absurd (omega (arith, len))
no_mark_split (head ∷ a) b [] d len none = absurd (omega (arith, len))
no_mark_split (head ∷ a) b (other ∷ c) d len none =
    let more = no_mark_split a b c d (omega (arith, len)) none.1 in
    ((none.0, more.0), more.1)

pub told_both : (a b c d : List ℕ) → IsNoLonger a c → IsNoLonger b d → IsNoLonger (a ++ b) (c ++ d)
told_both a b c d first second = (
  omega (arith, first.0, second.0, length-append a b, length-append c d),
  λ short.
      let sum : length a + length b ≡ length c + length d =
      sym (length-append a b) ∙ short.0 ∙ length-append c d in
      let len_a : length a ≡ length c = omega (arith, first.0, second.0, sum) in
      let len_b : length b ≡ length d = omega (arith, first.0, second.0, sum) in
      let none = no_mark_split a b c d len_a short.1 in
      ap (λ bytes. bytes ++ b) (first.1 (len_a, none.0))
      ∙ ap (λ bytes. c ++ bytes) (second.1 (len_b, none.1)),
)

-- ---- the spellings of a number

low_is : (n : ℕ) → n < 251 → lenenc_bytes n ≡ n ∷ []
low_is n low = rw (lt-ltb n 251 low) refl

two_is : (n : ℕ) → 251 ≤ n → n < 256 ^ 2 → lenenc_bytes n ≡ 0xfc ∷ le_bytes 2 n
two_is n a b = rw (le-ltb n 251 a, lt-ltb n (256 ^ 2) b) refl

three_is : (n : ℕ) → 251 ≤ n → 256 ^ 2 ≤ n → n < 256 ^ 3 → lenenc_bytes n ≡ 0xfd ∷ le_bytes 3 n
three_is n a b c = rw (le-ltb n 251 a, le-ltb n (256 ^ 2) b, lt-ltb n (256 ^ 3) c) refl

eight_is : (n : ℕ) → 251 ≤ n → 256 ^ 2 ≤ n → 256 ^ 3 ≤ n → lenenc_bytes n ≡ 0xfe ∷ le_bytes 8 n
eight_is n a b c = rw (le-ltb n 251 a, le-ltb n (256 ^ 2) b, le-ltb n (256 ^ 3) c) refl

-- bytes that spell a number are written of it
value_back : (count n : ℕ) (rest : List ℕ) → IsBytes rest → length rest ≡ count
    → n ≡ le_number rest → (le_bytes count n ≡ rest) × (n < 256 ^ count)
value_back count n rest are len value =
    let back : le_bytes (length rest) (le_number rest) ≡ rest = le_bytes-le_number rest are in
    let told : le_bytes count (le_number rest) ≡ rest =
    subst (λ c. le_bytes c (le_number rest) ≡ rest) len back in (
      ap (le_bytes count) value ∙ told,
      omega (arith, value, le_number-lt rest are, ap (λ k. 256 ^ k) len),
    )

rest_are : (first : ℕ) (rest bytes : List ℕ) → bytes ≡ first ∷ rest → IsBytes bytes → IsBytes rest
rest_are first rest bytes is are = λ i.
    (let byte = are (suc i) in
    let same : slice_index bytes (suc i) ≡ slice_index rest i = ap (λ l. slice_index l (suc i)) is in
    omega (arith, byte, same))

spelled_low : (n : ℕ) (bytes : List ℕ) → bytes ≡ n ∷ [] → n < 251 → IsNoLonger (lenenc_bytes n) bytes
spelled_low n bytes is low = no_longer_if_same (lenenc_bytes n) bytes (low_is n low ∙ sym is)

spelled_two : (n : ℕ) (bytes : List ℕ) → IsBytes bytes → IsBehind 0xfc 2 n bytes
    → IsNoLonger (lenenc_bytes n) bytes
spelled_two n bytes are (rest, is, len, value) =
    let back = value_back 2 n rest (rest_are 0xfc rest bytes is are) len value in
    let size : length bytes ≡ 1 + length rest = ap length is ∙ omega arith in
    elim (cases_lt n 251) [
      | inl a ↦ told_less (lenenc_bytes n) bytes (omega (arith, ap length (low_is n a), size, len))
      | inr a ↦ no_longer_if_same (lenenc_bytes n) bytes
          (two_is n a back.1 ∙ ap (λ l. 0xfc ∷ l) back.0 ∙ sym is)
    ]

spelled_three : (n : ℕ) (bytes : List ℕ) → IsBytes bytes → IsBehind 0xfd 3 n bytes
    → IsNoLonger (lenenc_bytes n) bytes
spelled_three n bytes are (rest, is, len, value) =
    let back = value_back 3 n rest (rest_are 0xfd rest bytes is are) len value in
    let size : length bytes ≡ 1 + length rest = ap length is ∙ omega arith in
    elim (cases_lt n 251) [
      | inl a ↦ told_less (lenenc_bytes n) bytes (omega (arith, ap length (low_is n a), size, len))
      | inr a ↦ elim (cases_lt n (256 ^ 2)) [
        | inl b ↦ told_less (lenenc_bytes n) bytes
            (omega (arith, ap length (two_is n a b), size, len))
        | inr b ↦ no_longer_if_same (lenenc_bytes n) bytes
            (three_is n a b back.1 ∙ ap (λ l. 0xfd ∷ l) back.0 ∙ sym is)
      ]
    ]

spelled_eight : (n : ℕ) (bytes : List ℕ) → IsBytes bytes → IsBehind 0xfe 8 n bytes
    → IsNoLonger (lenenc_bytes n) bytes
spelled_eight n bytes are (rest, is, len, value) =
    let back = value_back 8 n rest (rest_are 0xfe rest bytes is are) len value in
    let size : length bytes ≡ 1 + length rest = ap length is ∙ omega arith in
    elim (cases_lt n 251) [
      | inl a ↦ told_less (lenenc_bytes n) bytes (omega (arith, ap length (low_is n a), size, len))
      | inr a ↦ elim (cases_lt n (256 ^ 2)) [
        | inl b ↦ told_less (lenenc_bytes n) bytes
            (omega (arith, ap length (two_is n a b), size, len))
        | inr b ↦ elim (cases_lt n (256 ^ 3)) [
          | inl c ↦ told_less (lenenc_bytes n) bytes
              (omega (arith, ap length (three_is n a b c), size, len))
          | inr c ↦ no_longer_if_same (lenenc_bytes n) bytes
              (eight_is n a b c ∙ ap (λ l. 0xfe ∷ l) back.0 ∙ sym is)
        ]
      ]
    ]

-- a mark is none that may stand there
spelled_mark : (n mark : ℕ) (bytes : List ℕ) → n ≡ 0 → IsMark mark → bytes ≡ mark ∷ []
    → IsNoLonger (lenenc_bytes n) bytes
spelled_mark n mark bytes zero_is marked is =
    let written : lenenc_bytes n ≡ n ∷ [] = low_is n (omega (arith, zero_is)) in (
      omega (arith, ap length written, ap length is),
      λ short.
          let there : HasNoMark (n ∷ []) bytes = subst (λ w. HasNoMark w bytes) written short.1 in
          let none : HasNoMark (n ∷ []) (mark ∷ []) = subst (HasNoMark (n ∷ [])) is there in
          absurd (none.0 zero_is marked),
    )

spelled : (n : ℕ) (bytes : List ℕ) → IsBytes bytes → IsLenencOrMark n bytes
    → IsNoLonger (lenenc_bytes n) bytes
spelled n bytes are (inl (inl (is, low))) = spelled_low n bytes is low
spelled n bytes are (inl (inr (inl form))) = spelled_two n bytes are form
spelled n bytes are (inl (inr (inr (inl form)))) = spelled_three n bytes are form
spelled n bytes are (inl (inr (inr (inr form)))) = spelled_eight n bytes are form
spelled n bytes are (inr (zero_is, inl is)) = spelled_mark n 0xfb bytes zero_is (inl refl) is
spelled n bytes are (inr (zero_is, inr is)) = spelled_mark n 0xff bytes zero_is (inr refl) is

-- ---- the fields

-- a field of which this holds always
pub exact : {X : Type 0} {reads : List ℕ → Result X WireError → ℕ → Type 0} {bytes : X → List ℕ}
    → Again reads bytes → Shortest reads bytes
exact {bytes = bytes} again = record {
  law = λ input are x eaten read.
      no_longer_if_same (bytes x) (take eaten input) (again.law input are x eaten read);
}

-- a field of the value
pub part_of : {X Y : Type 0} {reads : List ℕ → Result X WireError → ℕ → Type 0}
    {bytes : X → List ℕ} (part : Y → X) → Shortest reads bytes
    → Shortest (λ input. Through part (reads input)) (λ y. bytes (part y))
part_of part fields = record {
  law = λ input are y eaten read. fields.law input are (part y) eaten read;
}

-- fields of the value, one after another
pub both_of : {Y : Type 0} {reads_a reads_b : List ℕ → Result Y WireError → ℕ → Type 0}
    {bytes_a bytes_b : Y → List ℕ} → Shortest reads_a bytes_a → Shortest reads_b bytes_b
    → Shortest (ReadsBoth {A = Y} {B = Y} {Y = Y} (λ y. y) (λ y. y) reads_a reads_b)
    (λ y. bytes_a y ++ bytes_b y)
both_of {bytes_a = bytes_a} {bytes_b = bytes_b} first second = record {
  law = λ input are y eaten read.
      (let (taken, after, fits, read_a, read_b, all) = read in
      let rest = drop taken input in
      let shape : take eaten input ≡ take taken input ++ take after rest =
      ap (λ count. take count input) all ∙ take-add taken after input in
      subst (IsNoLonger (bytes_a y ++ bytes_b y)) (sym shape)
      (told_both (bytes_a y) (bytes_b y) (take taken input) (take after rest)
      (first.law input are y taken read_a)
      (second.law rest (IsBytes-drop taken input are) y after read_b)));
}

-- fields of the value, each with a context of its own
pub both_at : {C D Y : Type 0} {reads_a : C → List ℕ → Result Y WireError → ℕ → Type 0}
    {reads_b : D → List ℕ → Result Y WireError → ℕ → Type 0} {bytes_a bytes_b : Y → List ℕ}
    → ((c : C) → Shortest (reads_a c) bytes_a) → ((d : D) → Shortest (reads_b d) bytes_b)
    → (ctx : C × D)
    → Shortest (ReadsBoth {A = Y} {B = Y} {Y = Y} (λ y. y) (λ y. y) (reads_a ctx.0)
    (reads_b ctx.1))
    (λ y. bytes_a y ++ bytes_b y)
both_at first second ctx = both_of (first ctx.0) (second ctx.1)

-- fields for which earlier ones, and what is left, make the context
pub then_at : {A C Y : Type 0} {reads_a : List ℕ → Result A WireError → ℕ → Type 0}
    {reads_b : C → List ℕ → Result Y WireError → ℕ → Type 0} {bytes_a : A → List ℕ}
    {bytes_b : Y → List ℕ} (first : Y → A) (ctx : A → List ℕ → C) → Shortest reads_a bytes_a
    → ((c : C) → Shortest (reads_b c) bytes_b)
    → Shortest (ReadsThen {A = A} {B = Y} {Y = Y} first (λ y. y) reads_a
    (λ before input. reads_b (ctx before input) input))
    (λ y. bytes_a (first y) ++ bytes_b y)
then_at {bytes_a = bytes_a} {bytes_b = bytes_b} first ctx front more = record {
  law = λ input are y eaten read.
      (let (taken, after, fits, read_a, read_b, all) = read in
      let rest = drop taken input in
      let shape : take eaten input ≡ take taken input ++ take after rest =
      ap (λ count. take count input) all ∙ take-add taken after input in
      subst (IsNoLonger (bytes_a (first y) ++ bytes_b y)) (sym shape)
      (told_both (bytes_a (first y)) (bytes_b y) (take taken input) (take after rest)
      (front.law input are (first y) taken read_a)
      ((more (ctx (first y) rest)).law rest (IsBytes-drop taken input are) y after read_b)));
}

-- a field whose context is made of what is read
pub at_input_of : {C X : Type 0} {reads : C → List ℕ → Result X WireError → ℕ → Type 0}
    {bytes : X → List ℕ} (ctx : List ℕ → C) → ((c : C) → Shortest (reads c) bytes)
    → Shortest (λ input. reads (ctx input) input) bytes
at_input_of ctx fields = record {
  law = λ input are x eaten read. (fields (ctx input)).law input are x eaten read;
}

-- one of two fields
either_law : {C D A B : Type 0} (reads_a : C → List ℕ → Result A WireError → ℕ → Type 0)
    (reads_b : D → List ℕ → Result B WireError → ℕ → Type 0) (bytes_a : A → List ℕ)
    (bytes_b : B → List ℕ) → ((c : C) → Shortest (reads_a c) bytes_a)
    → ((d : D) → Shortest (reads_b d) bytes_b) → (ctx : Either C D) (input : List ℕ)
    → IsBytes input → (x : Either A B) (eaten : ℕ)
    → ReadsEither reads_a reads_b ctx input (Ok x) eaten
    → IsNoLonger (by_side bytes_a bytes_b x) (take eaten input)
either_law reads_a reads_b bytes_a bytes_b left right (Left c) input are (Left a) eaten read =
    (left c).law input are a eaten read
either_law reads_a reads_b bytes_a bytes_b left right (Left c) input are (Right b) eaten read =
    absurd read
either_law reads_a reads_b bytes_a bytes_b left right (Right d) input are (Left a) eaten read =
    absurd read
either_law reads_a reads_b bytes_a bytes_b left right (Right d) input are (Right b) eaten read =
    (right d).law input are b eaten read

pub either_of : {C D A B : Type 0} {reads_a : C → List ℕ → Result A WireError → ℕ → Type 0}
    {reads_b : D → List ℕ → Result B WireError → ℕ → Type 0} {bytes_a : A → List ℕ}
    {bytes_b : B → List ℕ} → ((c : C) → Shortest (reads_a c) bytes_a)
    → ((d : D) → Shortest (reads_b d) bytes_b) → (ctx : Either C D)
    → Shortest (ReadsEither reads_a reads_b ctx) (by_side bytes_a bytes_b)
either_of {reads_a = reads_a} {reads_b = reads_b} {bytes_a = bytes_a} {bytes_b = bytes_b} left
    right ctx = record {
      law = λ input are x eaten read.
          either_law reads_a reads_b bytes_a bytes_b left right ctx input are x eaten read;
    }

-- a field that may be missing
optional_law : {A B C X : Type 0} (reads : C → List ℕ → Result A WireError → ℕ → Type 0)
    (bytes : A → List ℕ) (of_value : X → A) (none : B) → ((c : C) → Shortest (reads c) bytes)
    → (ctx : Either C (Unit {0})) (input : List ℕ) → IsBytes input → (value : Option X)
    (eaten : ℕ)
    → ReadsEither {C = C} {D = Unit {0}} {A = A} {B = B} reads
    (λ _. Parses (Some 0) (ReadsAny 0)) ctx input (Ok (field of_value none value)) eaten
    → IsNoLonger (bytes_if (λ x. bytes (of_value x)) value) (take eaten input)
optional_law reads bytes of_value none law (Left c) input are (Some x) eaten read =
    (law c).law input are (of_value x) eaten read
optional_law reads bytes of_value none law (Left c) input are None eaten read = absurd read
optional_law reads bytes of_value none law (Right d) input are (Some x) eaten read = absurd read
optional_law reads bytes of_value none law (Right d) input are None eaten read =
    no_longer_if_same [] (take eaten input) (nothing_law input none eaten read)

pub optional_of : {A B C X Y : Type 0} {reads : C → List ℕ → Result A WireError → ℕ → Type 0}
    {bytes : A → List ℕ} (value : Y → Option X) (of_value : X → A) (none : B)
    → ((c : C) → Shortest (reads c) bytes) → (ctx : Either C (Unit {0}))
    → Shortest (λ input. Through (λ y. field of_value none (value y))
    (ReadsEither {C = C} {D = Unit {0}} {A = A} {B = B} reads
    (λ _. Parses (Some 0) (ReadsAny 0)) ctx input))
    (λ y. bytes_if (λ x. bytes (of_value x)) (value y))
optional_of {reads = reads} {bytes = bytes} value of_value none law ctx = record {
  law = λ input are y eaten read.
      optional_law reads bytes of_value none law ctx input are (value y) eaten read;
}

-- a length-encoded number
int_law : (n : ℕ) (input : List ℕ) → IsBytes input → (eaten : ℕ)
    → Leaves (NumberOrEof IsLenencOrMark 1) input (Ok n) eaten
    → IsNoLonger (lenenc_bytes n) (take eaten input)
int_law n input are eaten (there, (spelling, spells, whole)) =
    let rest = drop eaten input in
    let len : length spelling ≡ eaten = omega (
      arith,
      there,
      ap length whole,
      length-append spelling rest,
      length-drop eaten input,
    ) in
    let front : take eaten input ≡ spelling =
    ap (take eaten) whole ∙ take_at spelling rest eaten len in
    let bytes : IsBytes spelling = subst IsBytes front (IsBytes-take eaten input are) in
    subst (IsNoLonger (lenenc_bytes n)) (sym front) (spelled n spelling bytes spells)

pub int_of : {Y : Type 0} (part : Y → ℕ)
    → Shortest (λ input. Through part (Leaves (NumberOrEof IsLenencOrMark 1) input))
    (λ y. lenenc_bytes (part y))
int_of part = record {
  law = λ input are y eaten read. int_law (part y) input are eaten read;
}

-- what is eaten of a text after its length
text_front : (spelling text mid input : List ℕ) (eaten : ℕ) → eaten ≤ length input
    → input ≡ spelling ++ mid → mid ≡ text ++ drop eaten input
    → take eaten input ≡ spelling ++ text
text_front spelling text mid input eaten there whole parts =
    let rest = drop eaten input in
    let front = spelling ++ text in
    let shape : input ≡ front ++ rest = whole ∙ ap (λ m. spelling ++ m) parts
    ∙ sym (append_assoc spelling text rest) in
    let len : length front ≡ eaten = omega (
      arith,
      there,
      ap length shape,
      length-append front rest,
      length-drop eaten input,
    ) in
    ap (take eaten) shape ∙ take_at front rest eaten len

spelling_are : (spelling mid input : List ℕ) → input ≡ spelling ++ mid → IsBytes input
    → IsBytes spelling
spelling_are spelling mid input whole are =
    let count = length spelling in
    let front : take count input ≡ spelling =
    ap (take count) whole ∙ take_at spelling mid count refl in
    subst IsBytes front (IsBytes-take count input are)

-- a text after its length
pub text_law : (text input : List ℕ) → IsBytes input → (eaten : ℕ)
    → Leaves (TextBehind (NumberOrEof IsLenencOrMark 1)) input (Ok text) eaten
    → IsNoLonger (lenenc_bytes (length text) ++ text) (take eaten input)
text_law text input are eaten (there, (mid, (spelling, spells, whole), parts)) =
    let n = length text in
    let front = text_front spelling text mid input eaten there whole parts in
    let bytes = spelling_are spelling mid input whole are in
    subst (IsNoLonger (lenenc_bytes n ++ text)) (sym front)
    (told_both (lenenc_bytes n) text spelling text (spelled n spelling bytes spells)
    (no_longer_if_same text text refl))

cow_text_law : {Z : Type 0} (text : CowSlice ℕ Z) (input : List ℕ) → IsBytes input → (eaten : ℕ)
    → Borrows (λ (c : CowSlice ℕ Z). c)
    (Leaves (TextBehind (NumberOrEof IsLenencOrMark 1)) input) (Ok text) eaten
    → IsNoLonger (text_bytes text) (take eaten input)
cow_text_law (Borrowed text) input are eaten read = text_law text.now input are eaten read
cow_text_law (Owned text) input are eaten read = absurd read

pub text_of : {Y Z : Type 0} (part : Y → CowSlice ℕ Z)
    → Shortest (λ input. Borrows part (Leaves (TextBehind (NumberOrEof IsLenencOrMark 1)) input))
    (λ y. text_bytes (part y))
text_of part = record {
  law = λ input are y eaten read. cow_text_law (part y) input are eaten read;
}

-- a text after one byte of length
u8_max_is : u8_max ≡ 255
unfolding u8_max
u8_max_is = refl

u8_text_law : {Z : Type 0} (text : CowSlice ℕ Z) (input : List ℕ) → IsBytes input → (eaten : ℕ)
    → Borrows (λ (c : CowSlice ℕ Z). c) (Leaves (TextBehind (NumberOrEof (IsFixed 1) 0)) input)
    (Ok text) eaten
    → u8_text_bytes text ≡ take eaten input
u8_text_law (Borrowed text) input are eaten (there, (mid, (spelling, spells, whole), parts)) =
    let front = text_front spelling text.now mid input eaten there whole parts in
    let bytes = spelling_are spelling mid input whole are in
    let back = value_back 1 (length text.now) spelling bytes spells.0 spells.1 in
    let cut : take u8_max text.now ≡ text.now =
    take_all u8_max text.now (omega (arith, u8_max_is, back.1)) in
    ap (λ t. le_bytes 1 (length t) ++ t) cut ∙ ap (λ s. s ++ text.now) back.0 ∙ sym front
u8_text_law (Owned text) input are eaten read = absurd read

pub u8_text_again : {Y Z : Type 0} (part : Y → CowSlice ℕ Z)
    → Again (λ input. Borrows part (Leaves (TextBehind (NumberOrEof (IsFixed 1) 0)) input))
    (λ y. u8_text_bytes (part y))
u8_text_again part = record {
  law = λ input are y eaten read. u8_text_law (part y) input are eaten read;
}

-- a text of this many bytes, which stand elsewhere, and of which no more than these are written
bare_there : (count : ℕ) (input text : List ℕ) (eaten : ℕ) → count ≤ length input
    → Answers (front_at count input) (Ok text) eaten → text ≡ take eaten input
bare_there count input text eaten there read =
    let (answered, all) = rw (le-ltb (length input) count there) at read in
    let same : text ≡ take count input = cc answered in
    same ∙ ap (λ n. take n input) (sym all)

bare_short : (count : ℕ) (input text : List ℕ) (eaten : ℕ) → length input < count
    → Answers (front_at count input) (Ok text) eaten → ⊥
bare_short count input text eaten short read =
    let (answered, all) = rw (lt-ltb (length input) count short) at read in
    let failed : ◌≡◌ {A = Result (List ℕ) WireError} (Ok text) (Err UnexpectedEof) = answered in
    cc failed

bare_is : (count : ℕ) (input text : List ℕ) (eaten : ℕ)
    → Answers (front_at count input) (Ok text) eaten → text ≡ take eaten input
bare_is count input text eaten read = elim (cases_lt (length input) count) [
  | inl short ↦ absurd (bare_short count input text eaten short read)
  | inr there ↦ bare_there count input text eaten there read
]

bare_law : {Z : Type 0} (most count : ℕ) (text : CowSlice ℕ Z) (input : List ℕ) (eaten : ℕ)
    → Borrows (λ (c : CowSlice ℕ Z). c) (Answers (front_at count input)) (Ok text) eaten
    → IsNoLonger (take most (cow_slice_items text)) (take eaten input)
bare_law most count (Borrowed text) input eaten read =
    subst (IsNoLonger (take most text.now)) (bare_is count input text.now eaten read)
    (told_cut most text.now)
bare_law most count (Owned text) input eaten read = absurd read

pub bare_of : {Y Z : Type 0} (part : Y → CowSlice ℕ Z) (most count : ℕ)
    → Shortest (λ input. Borrows part (Answers (front_at count input)))
    (λ y. take most (cow_slice_items (part y)))
bare_of part most count = record {
  law = λ input are y eaten read. bare_law most count (part y) input eaten read;
}

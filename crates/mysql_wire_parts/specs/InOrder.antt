-- Fields one after another, and a packet that is made of them: what is written is read back.
use Rattle.std.specs.Prelude.{take, min, replicate, ℕ, ◌≡◌, ◌<◌, ◌^◌, ◌%◌, List, [], ◌∷◌, ◌++◌, length, ◌⊎◌, Some, Result, Ok, Err}
use Rattle.std.proofs.Common.{refl, inl, inr, arith}
use Rattle.std.specs.Cow.{cow_slice_items}
use Rattle.std.specs.declared.borrow.CowSlice.{CowSlice}
use Rattle.wire_buf.specs.declared.error.WireError.{WireError}
use Rattle.wire_repr.specs.Law.{ComesBack, array-back, ReadsFixed, Through-back, ReadsFixed-back, Parses-back, size-is}
use Rattle.wire_buf.specs.Reading.{Answers, Parses, Through, front_at}
use Rattle.wire_buf.specs.Numbers.{le_number, le_bytes}
use Rattle.wire_buf.specs.NumberLemmas.{length-le_bytes, le_number-le_bytes, le_number-le_bytes_fits}
use Rattle.wire_forms.specs.Constants.{ReadsConst, ReadsAny, ReadsConst-back, ReadsAny-back, length-zeros}
use Rattle.wire_field.specs.declared.row.Both.{Both}
use Rattle.wire_field.specs.Rows.{ReadsBoth, both-back}
use Rattle.wire_repr.specs.Texts.{IsText, Borrows, IsBorrowedText, Borrows-back}
use Rattle.wire_forms.specs.BareTexts.{all-back, front-back}
use Rattle.wire_forms.specs.PrefixedTexts.{lenenc_text-back, fixed_text-back_1}
use Rattle.wire_ext.specs.Texts.{u8_max}
use Rattle.wire_buf.specs.Spelling.{IsFixed}
use Rattle.wire_forms.specs.Spelled.{Leaves, NumberOrEof, TextBehind, Leaves-back, NumberOrEof-back}
use Rattle.wire_buf.specs.Lenenc.{IsLenencOrMark, lenenc_bytes}
use Rattle.wire_buf.specs.LenencLemmas.{IsLenencOrMark-free}
use Rattle.wire_buf.specs.LenencWritten.{lenenc_bytes-is}

-- a text after its length, as a length-encoded integer
abbrev pub text_bytes : {Z : Type 0} → CowSlice ℕ Z → List ℕ
text_bytes text = lenenc_bytes (length (cow_slice_items text)) ++ cow_slice_items text

-- of a longer text its first 255 bytes
abbrev pub u8_cut : {Z : Type 0} → CowSlice ℕ Z → List ℕ
u8_cut text = take u8_max (cow_slice_items text)

-- a text after one byte of length
abbrev pub u8_text_bytes : {Z : Type 0} → CowSlice ℕ Z → List ℕ
u8_text_bytes text = le_bytes 1 (length (u8_cut text)) ++ u8_cut text

-- What was written as these bytes comes back where it is read before this rest, and memory is not
-- asked for.
pub record Back {X : Type 0} (reads : List ℕ → Result X WireError → ℕ → Type 0) (kept : X → Type 0)
    (bytes rest : List ℕ) : Type 0 where
  pub law : (answer : Result X WireError) (eaten : ℕ) → reads (bytes ++ rest) answer eaten
      → ComesBack kept ⊥ (length bytes) answer eaten

-- a field whose context is made of what is read
pub at_input : {C X : Type 0} {kept : X → Type 0} {bytes rest : List ℕ} (ctx : List ℕ → C)
    (reads : C → List ℕ → Result X WireError → ℕ → Type 0)
    → Back (reads (ctx (bytes ++ rest))) kept bytes rest
    → Back (λ input. reads (ctx input) input) kept bytes rest
at_input ctx reads back = record { law = back.law }

-- without the premise of memory
no_memory : {X : Type 0} (kept : X → Type 0) (len : ℕ) (answer : Result X WireError) (eaten : ℕ)
    → ComesBack kept (⊥ ⊎ ⊥) len answer eaten → ComesBack kept ⊥ len answer eaten
no_memory kept len (Ok value) eaten back = back
no_memory kept len (Err error) eaten (is, inl none) = absurd none
no_memory kept len (Err error) eaten (is, inr none) = absurd none

-- one field, and what stands after it
pub both : {A B : Type 0} {reads_a : List ℕ → Result A WireError → ℕ → Type 0}
    {reads_b : List ℕ → Result B WireError → ℕ → Type 0}
    {kept_a : A → Type 0} {kept_b : B → Type 0} {bytes_a bytes_b rest : List ℕ}
    → Back reads_a kept_a bytes_a (bytes_b ++ rest) → Back reads_b kept_b bytes_b rest
    → Back (ReadsBoth {Y = Both A B} (λ both. both.0) (λ both. both.1) reads_a reads_b)
    (λ back. kept_a back.0 × kept_b back.1) (bytes_a ++ bytes_b) rest
both {A = A} {B = B} {reads_a = reads_a} {reads_b = reads_b} {kept_a = kept_a}
    {kept_b = kept_b} {bytes_a = bytes_a} {bytes_b = bytes_b} {rest = rest} back_a back_b =
    record {
      law = λ answer eaten read. no_memory _ _ answer eaten (both-back {Y = Both A B}
          (λ both. both.0) (λ both. both.1) reads_a reads_b kept_a kept_b ⊥ ⊥ bytes_a bytes_b rest
          back_a.law back_b.law answer eaten read);
    }

-- a packet whose fields these are, of which this follows
pub packet : {X Y : Type 0} {kept : X → Type 0} {bytes rest : List ℕ}
    (reads : List ℕ → Result X WireError → ℕ → Type 0) (part : Y → X) (kept_packet : Y → Type 0)
    → ((y : Y) → kept (part y) → kept_packet y) → Back reads kept bytes rest
    → (answer : Result Y WireError) (eaten : ℕ) → Through part (reads (bytes ++ rest)) answer eaten
    → ComesBack kept_packet ⊥ (length bytes) answer eaten
packet reads part kept_packet follows back (Ok y) eaten read =
    let came = back.law (Ok (part y)) eaten read in
    (follows y came.0, came.1)
packet reads part kept_packet follows back (Err error) eaten read = back.law (Err error) eaten read

-- ---- the fields

-- a byte that is always the same
pub const_u8 : {X : Type 0} {byte : ℕ} {rest : List ℕ}
    → Back {X = X} (Parses (Some 1) (ReadsConst 1 (byte ∷ []))) (λ _. Unit {0}) (byte ∷ []) rest
const_u8 {X = X} {byte = byte} {rest = rest} = record {
  law = Parses-back (Some 1) (ReadsConst 1 (byte ∷ [])) (λ (x : X). Unit {0}) ⊥ (byte ∷ []) rest
      (λ size stated. cc) (ReadsConst-back 1 (byte ∷ []) [] refl);
}

-- a text up to the end
pub eof_text : {Y Z : Type 0} {rest : List ℕ} (part : Y → CowSlice ℕ Z) (text : List ℕ) → rest ≡ []
    → Back (λ input. Borrows part (Answers (Ok input, length input)))
    (λ y. IsBorrowedText (part y) text) text rest
eof_text {rest = rest} part text none = record {
  law = Borrows-back part (Answers (Ok (text ++ rest), length (text ++ rest))) text (length text)
      (all-back text rest none);
}

-- any number by a representation of a fixed size that has this half of the law
pub number_by : {Y : Type 0} {rest : List ℕ} (part : Y → ℕ) (count : ℕ) (value : List ℕ → ℕ)
    (bytes : List ℕ) (n : ℕ) → length bytes ≡ count → value bytes ≡ n
    → Back (Parses (Some count) (λ input. Through part (ReadsFixed count value input)))
    (λ y. part y ≡ n) bytes rest
number_by {rest = rest} part count value bytes n len is = record {
  law = Parses-back (Some count) (λ input. Through part (ReadsFixed count value input))
      (λ y. part y ≡ n) ⊥ bytes rest (λ size stated. size-is count size (length bytes) stated len)
      (Through-back part (ReadsFixed count value (bytes ++ [])) n (length bytes)
      (ReadsFixed-back count value bytes [] n len is));
}

-- a number of this many bytes, the least significant first
pub number : {Y : Type 0} {rest : List ℕ} (part : Y → ℕ) (count n : ℕ) → n < 256 ^ count
    → Back (Parses (Some count) (λ input. Through part (ReadsFixed count le_number input)))
    (λ y. part y ≡ n) (le_bytes count n) rest
number part count n fits = number_by part count le_number (le_bytes count n) n
    (length-le_bytes count n) (le_number-le_bytes_fits count n fits)

-- the low bytes of a number
pub cut_number : {Y : Type 0} {rest : List ℕ} (part : Y → ℕ) (count n : ℕ)
    → Back (Parses (Some count) (λ input. Through part (ReadsFixed count le_number input)))
    (λ y. part y ≡ n % 256 ^ count) (le_bytes count n) rest
cut_number part count n = number_by part count le_number (le_bytes count n) (n % 256 ^ count)
    (length-le_bytes count n) (le_number-le_bytes count n)

-- bytes that say nothing
pub skip : {Y : Type 0} {rest : List ℕ} (count : ℕ)
    → Back {X = Y} (Parses (Some count) (ReadsAny count)) (λ _. Unit {0}) (replicate count 0) rest
skip {Y = Y} {rest = rest} count =
    let len = length-zeros count in
    record {
      law = Parses-back (Some count) (ReadsAny count) (λ (y : Y). Unit {0}) ⊥ (replicate count 0)
          rest (λ size stated. size-is count size (length (replicate count 0)) stated len)
          (ReadsAny-back count (length (replicate count 0)) (replicate count 0 ++ []) len);
    }

-- one byte
pub byte : {Y : Type 0} {rest : List ℕ} (part : Y → ℕ) (n : ℕ)
    → Back (Parses (Some 1) (λ input. Through part (ReadsFixed 1 le_number input)))
    (λ y. part y ≡ n) (n ∷ []) rest
byte part n = number_by part 1 le_number (n ∷ []) n refl (omega arith)

-- a length-encoded integer
pub lenenc_int : {Y : Type 0} {rest : List ℕ} (part : Y → ℕ) (n : ℕ) → n < 2 ^ 64
    → Back (λ input. Through part (Leaves (NumberOrEof IsLenencOrMark 1) input)) (λ y. part y ≡ n)
    (lenenc_bytes n) rest
lenenc_int {rest = rest} part n fits =
    let tells = NumberOrEof IsLenencOrMark 1 in
    let told = NumberOrEof-back IsLenencOrMark IsLenencOrMark-free 1 n (lenenc_bytes n)
    (inl (lenenc_bytes-is n fits)) in
    record {
      law = Through-back part (Leaves tells (lenenc_bytes n ++ rest)) n (length (lenenc_bytes n))
          (Leaves-back tells (lenenc_bytes n) n told rest);
    }

-- a text after its length
pub lenenc_text : {Y Z : Type 0} {rest : List ℕ} (part : Y → CowSlice ℕ Z) (text : List ℕ)
    → IsText text
    → Back (λ input. Borrows part (Leaves (TextBehind (NumberOrEof IsLenencOrMark 1)) input))
    (λ y. IsBorrowedText (part y) text) (lenenc_bytes (length text) ++ text) rest
lenenc_text {rest = rest} part text is =
    let bytes = lenenc_bytes (length text) ++ text in
    record {
      law = Borrows-back part (Leaves (TextBehind (NumberOrEof IsLenencOrMark 1)) (bytes ++ rest))
          text (length bytes) (lenenc_text-back text rest is);
    }

-- an array of bytes
pub array : {rest : List ℕ} (count : ℕ) (bytes : List ℕ) → length bytes ≡ count
    → Back (Parses (Some count) (λ input. Answers (Ok (take count input), count)))
    (λ back. back ≡ bytes) bytes rest
array {rest = rest} count bytes len = record {
  law = Parses-back (Some count) (λ input. Answers (Ok (take count input), count))
      (λ back. back ≡ bytes) ⊥ bytes rest
      (λ size stated. size-is count size (length bytes) stated len)
      (array-back count bytes [] len);
}

-- a text of this many bytes, which stand elsewhere
pub bare_text : {Y Z : Type 0} {rest : List ℕ} (part : Y → CowSlice ℕ Z) (most count : ℕ)
    (text : List ℕ) → count ≡ min (length text) most
    → Back (λ input. Borrows part (Answers (front_at count input)))
    (λ y. IsBorrowedText (part y) (take most text)) (take most text) rest
bare_text {rest = rest} part most count text is = record {
  law = Borrows-back part (Answers (front_at count (take most text ++ rest))) (take most text)
      (length (take most text)) (front-back most count text rest is);
}

-- a text after one byte of length
pub u8_text : {Y Z : Type 0} {rest : List ℕ} (part : Y → CowSlice ℕ Z) (text : List ℕ)
    → Back (λ input. Borrows part (Leaves (TextBehind (NumberOrEof (IsFixed 1) 0)) input))
    (λ y. IsBorrowedText (part y) (take u8_max text))
    (le_bytes 1 (length (take u8_max text)) ++ take u8_max text) rest
u8_text {rest = rest} part text =
    let bytes = le_bytes 1 (length (take u8_max text)) ++ take u8_max text in
    record {
      law = Borrows-back part (Leaves (TextBehind (NumberOrEof (IsFixed 1) 0)) (bytes ++ rest))
          (take u8_max text) (length bytes) (fixed_text-back_1 text rest);
    }

-- Values in their binary form are read back, and written as they stood.
use Rattle.std.specs.Prelude.{ℕ, ◌≡◌, ◌≢◌, ◌≤◌, ◌<◌, ◌+◌, ◌*◌, ◌⊎◌, List, [], ◌∷◌, ◌++◌, length, take, drop, Option, Some, None, Result, Ok, Err}
use Rattle.std.proofs.Common.{inl, inr, refl, sym, ap, subst, ◌∙◌, arith}
use Rattle.std.proofs.lemmas.Bool.{cases_lt, le-ltb, lt-ltb}
use Rattle.std.proofs.lemmas.List.{append_assoc, length-append, length-drop, length-take-le, take_at}
use Rattle.wire_buf.specs.declared.error.WireError.{WireError}
use Rattle.wire_buf.specs.declared.error.WireError.TheVariants.{UnexpectedEof, InvalidData, Other}
use Rattle.wire_buf.specs.declared.error.InvalidReason.TheVariants.{UnknownValue}
use Rattle.wire_repr.specs.Law.{ComesBack}
use Rattle.wire_buf.specs.Lenenc.{IsLenenc, IsLenencOrMark, lenenc_bytes}
use Rattle.wire_buf.specs.LenencWritten.{lenenc_bytes-is}
use Rattle.wire_buf.specs.Numbers.{le_number, le_bytes, IsBytes}
use Rattle.wire_buf.specs.NumberLemmas.{le_bytes-le_number, le_number-le_bytes_fits, length-le_bytes}
use Rattle.wire_forms.specs.PrefixedTexts.{lenenc_text-back}
use Rattle.wire_repr.specs.Texts.{IsText}
use Rattle.wire_buf.specs.Reading.{Answers}
use Rattle.wire_forms.specs.Spelled.{Leaves, NumberOrEof, TextBehind}
use Rattle.mysql_wire_statements.specs.Fronts.{take_are}
use Rattle.mysql_wire_statements.specs.TemporalValues.{date_bytes, time_bytes, ReadsDate, ReadsTime}
use Rattle.mysql_wire_statements.specs.TemporalValuesBack.{date-back, date_law, time-back, time_law}
use Rattle.mysql_wire_statements.specs.Values.{date_of, HasShortLength, IsShortest, number_at, text_of, time_of, value_bytes, written_form, IsValue, OnPart, ReadsForm, ReadsText, SameValue}
use Rattle.mysql_wire_statements.specs.declared.binary_value.BinaryValue.{BinaryValue}
use Rattle.mysql_wire_statements.specs.declared.binary_value.BinaryValue.TheVariants as value
use Rattle.mysql_wire_statements.specs.declared.binary_value.ValueForm.{ValueForm}
use Rattle.mysql_wire_statements.specs.declared.binary_value.ValueForm.TheVariants as form
use Rattle.mysql_wire_statements.specs.declared.temporal.BinaryDate.{BinaryDate}
use Rattle.mysql_wire_statements.specs.declared.temporal.BinaryTime.{BinaryTime}

-- ---- lemmas

-- a number comes back
number_answers : (count n : ℕ) (of : ℕ → BinaryValue) (bytes rest : List ℕ) → length bytes ≡ count
    → le_number bytes ≡ n → (answer : Result BinaryValue WireError) (eaten : ℕ)
    → Answers (number_at count of (bytes ++ rest)) answer eaten
    → Answers (Ok (of n), length bytes) answer eaten
number_answers count n of bytes rest len is answer eaten read =
    let there : count ≤ length (bytes ++ rest) = omega (arith, len, length-append bytes rest) in
    let (answered, ate) = rw (
      le-ltb (length (bytes ++ rest)) count there,
      take_at bytes rest count len,
    ) at read in
    (answered ∙ ap (λ n. Ok (of n)) is, ate ∙ sym len)

-- a value that is no text comes back as it was
plain_back : (x : BinaryValue) (len : ℕ) (answer : Result BinaryValue WireError) (eaten : ℕ)
    → SameValue x x → Answers (Ok x, len) answer eaten
    → ComesBack (SameValue x) ⊥ len answer eaten
plain_back x len (Ok back) eaten same (answered, ate) =
    let is : back ≡ x = cc answered in
    (subst (SameValue x) (sym is) same, ate)
plain_back x len (Err error) eaten same (answered, ate) =
    let is : ◌≡◌ {A = Result BinaryValue WireError} (Err error) (Ok x) = answered in
    cc is

-- a date and a time
date_part : (x : BinaryDate) (len : ℕ) (says : Result BinaryDate WireError → ℕ → Type 0)
    → ((answer : Result BinaryDate WireError) (eaten : ℕ) → says answer eaten
    → ComesBack (λ back. back ≡ x) ⊥ len answer eaten)
    → (answer : Result BinaryValue WireError) (eaten : ℕ) → OnPart date_of says answer eaten
    → ComesBack (SameValue (value.Date x)) ⊥ len answer eaten
date_part x len says law (Ok (value.Date back)) eaten read =
    let came = law (Ok back) eaten read in
    (ap value.Date came.0, came.1)
date_part x len says law (Ok value.Null) eaten read = absurd read
date_part x len says law (Ok (value.Tiny n)) eaten read = absurd read
date_part x len says law (Ok (value.Short n)) eaten read = absurd read
date_part x len says law (Ok (value.Long n)) eaten read = absurd read
date_part x len says law (Ok (value.LongLong n)) eaten read = absurd read
date_part x len says law (Ok (value.Float n)) eaten read = absurd read
date_part x len says law (Ok (value.Double n)) eaten read = absurd read
date_part x len says law (Ok (value.Time n)) eaten read = absurd read
date_part x len says law (Ok (value.Text n)) eaten read = absurd read
date_part x len says law (Err error) eaten read = law (Err error) eaten read

time_part : (x : BinaryTime) (len : ℕ) (says : Result BinaryTime WireError → ℕ → Type 0)
    → ((answer : Result BinaryTime WireError) (eaten : ℕ) → says answer eaten
    → ComesBack (λ back. back ≡ x) ⊥ len answer eaten)
    → (answer : Result BinaryValue WireError) (eaten : ℕ) → OnPart time_of says answer eaten
    → ComesBack (SameValue (value.Time x)) ⊥ len answer eaten
time_part x len says law (Ok (value.Time back)) eaten read =
    let came = law (Ok back) eaten read in
    (ap value.Time came.0, came.1)
time_part x len says law (Ok value.Null) eaten read = absurd read
time_part x len says law (Ok (value.Tiny n)) eaten read = absurd read
time_part x len says law (Ok (value.Short n)) eaten read = absurd read
time_part x len says law (Ok (value.Long n)) eaten read = absurd read
time_part x len says law (Ok (value.LongLong n)) eaten read = absurd read
time_part x len says law (Ok (value.Float n)) eaten read = absurd read
time_part x len says law (Ok (value.Double n)) eaten read = absurd read
time_part x len says law (Ok (value.Date n)) eaten read = absurd read
time_part x len says law (Ok (value.Text n)) eaten read = absurd read
time_part x len says law (Err error) eaten read = law (Err error) eaten read

none_is : (text : List ℕ) → ◌≡◌ {A = Option (List ℕ)} None (Some text) → ⊥
none_is text is = cc is

text_part : (r : BinaryValue) (text : List ℕ) → text_of r ≡ Some text → (len : ℕ)
    (says : Result (List ℕ) WireError → ℕ → Type 0)
    → ((answer : Result (List ℕ) WireError) (eaten : ℕ) → says answer eaten
    → Answers (Ok text, len) answer eaten)
    → (answer : Result BinaryValue WireError) (eaten : ℕ) → OnPart text_of says answer eaten
    → ComesBack (SameValue r) ⊥ len answer eaten
text_part value.Null text is len says law answer eaten read = absurd (none_is text is)
text_part (value.Tiny n) text is len says law answer eaten read = absurd (none_is text is)
text_part (value.Short n) text is len says law answer eaten read = absurd (none_is text is)
text_part (value.Long n) text is len says law answer eaten read = absurd (none_is text is)
text_part (value.LongLong n) text is len says law answer eaten read = absurd (none_is text is)
text_part (value.Float n) text is len says law answer eaten read = absurd (none_is text is)
text_part (value.Double n) text is len says law answer eaten read = absurd (none_is text is)
text_part (value.Date n) text is len says law answer eaten read = absurd (none_is text is)
text_part (value.Time n) text is len says law answer eaten read = absurd (none_is text is)
text_part (value.Text r) text is len says law (Ok (value.Text back)) eaten read =
    let came = law (Ok back.now) eaten read in
    let same : back.now ≡ text = cc came.0 in
    let own : r.now ≡ text = cc is in
    (same ∙ sym own, came.1)
text_part (value.Text r) text is len says law (Ok value.Null) eaten read = absurd read
text_part (value.Text r) text is len says law (Ok (value.Tiny n)) eaten read = absurd read
text_part (value.Text r) text is len says law (Ok (value.Short n)) eaten read = absurd read
text_part (value.Text r) text is len says law (Ok (value.Long n)) eaten read = absurd read
text_part (value.Text r) text is len says law (Ok (value.LongLong n)) eaten read = absurd read
text_part (value.Text r) text is len says law (Ok (value.Float n)) eaten read = absurd read
text_part (value.Text r) text is len says law (Ok (value.Double n)) eaten read = absurd read
text_part (value.Text r) text is len says law (Ok (value.Date n)) eaten read = absurd read
text_part (value.Text r) text is len says law (Ok (value.Time n)) eaten read = absurd read
text_part (value.Text r) text is len says law (Err error) eaten read =
    let answered : ◌≡◌ {A = Result (List ℕ) WireError} (Err error) (Ok text) =
    (law (Err error) eaten read).0 in
    cc answered

-- no length begins with a mark
head_same : (first mark : ℕ) (bytes rest more : List ℕ) → bytes ≡ first ∷ rest
    → take 1 (bytes ++ more) ≡ mark ∷ [] → first ≡ mark
head_same first mark bytes rest more is at =
    let shown : first ∷ [] ≡ mark ∷ [] = subst (λ b. take 1 (b ++ more) ≡ mark ∷ []) is at in
    cc shown

apart : (first mark : ℕ) → (mark ≡ 0xfb) ⊎ (mark ≡ 0xff)
    → (first < 251) ⊎ ((251 < first) × (first < 255)) → first ≢ mark
apart first mark (inl fb) (inl below) same = omega (arith, fb, below, same)
apart first mark (inl fb) (inr (above, below)) same = omega (arith, fb, above, same)
apart first mark (inr ff) (inl below) same = omega (arith, ff, below, same)
apart first mark (inr ff) (inr (above, below)) same = omega (arith, ff, below, same)

no_mark : (n mark : ℕ) (bytes more : List ℕ) → (mark ≡ 0xfb) ⊎ (mark ≡ 0xff) → IsLenenc n bytes
    → take 1 (bytes ++ more) ≢ mark ∷ []
no_mark n mark bytes more marks (inl (is, below)) at =
    apart n mark marks (inl below) (head_same n mark bytes [] more is at)
no_mark n mark bytes more marks (inr (inl (rest, is, _, _))) at = apart 0xfc mark marks
    (inr (omega arith, omega arith)) (head_same 0xfc mark bytes rest more is at)
no_mark n mark bytes more marks (inr (inr (inl (rest, is, _, _)))) at = apart 0xfd mark marks
    (inr (omega arith, omega arith)) (head_same 0xfd mark bytes rest more is at)
no_mark n mark bytes more marks (inr (inr (inr (rest, is, _, _)))) at = apart 0xfe mark marks
    (inr (omega arith, omega arith)) (head_same 0xfe mark bytes rest more is at)

text_mark : (text rest : List ℕ) (mark : ℕ) → (mark ≡ 0xfb) ⊎ (mark ≡ 0xff) → IsText text
    → take 1 ((lenenc_bytes (length text) ++ text) ++ rest) ≢ mark ∷ []
text_mark text rest mark marks is at = no_mark (length text) mark (lenenc_bytes (length text))
    (text ++ rest) marks (lenenc_bytes-is (length text) is.1) (subst (λ b. take 1 b ≡ mark ∷ [])
    (append_assoc (lenenc_bytes (length text)) text rest) at)

-- a text comes back
text_answers : (text rest : List ℕ) → IsText text
    → (answer : Result (List ℕ) WireError) (eaten : ℕ)
    → ReadsText ((lenenc_bytes (length text) ++ text) ++ rest) answer eaten
    → Answers (Ok text, length (lenenc_bytes (length text) ++ text)) answer eaten
text_answers text rest is answer eaten (inl (at, _)) =
    absurd (text_mark text rest 0xfb (inl refl) is at)
text_answers text rest is answer eaten (inr (inl (at, _))) =
    absurd (text_mark text rest 0xff (inr refl) is at)
text_answers text rest is answer eaten (inr (inr (_, _, read))) =
    lenenc_text-back text rest is answer eaten read

-- a value comes back in its form
pub value-back : (x : BinaryValue) (rest : List ℕ) → IsValue x
    → (answer : Result BinaryValue WireError) (eaten : ℕ)
    → ReadsForm (written_form x) (value_bytes x ++ rest) answer eaten
    → ComesBack (SameValue x) ⊥ (length (value_bytes x)) answer eaten
value-back value.Null rest is answer eaten read = plain_back value.Null 0 answer eaten refl read
value-back (value.Tiny n) rest is answer eaten read = plain_back (value.Tiny n) 1 answer eaten refl
    (number_answers 1 n value.Tiny (n ∷ []) rest refl (omega arith) answer eaten read)
value-back (value.Short n) rest is answer eaten read = plain_back (value.Short n) _ answer eaten
    refl (number_answers 2 n value.Short (le_bytes 2 n) rest (length-le_bytes 2 n)
    (le_number-le_bytes_fits 2 n is) answer eaten read)
value-back (value.Long n) rest is answer eaten read = plain_back (value.Long n) _ answer eaten
    refl (number_answers 4 n value.Long (le_bytes 4 n) rest (length-le_bytes 4 n)
    (le_number-le_bytes_fits 4 n is) answer eaten read)
value-back (value.LongLong n) rest is answer eaten read = plain_back (value.LongLong n) _ answer
    eaten refl (number_answers 8 n value.LongLong (le_bytes 8 n) rest (length-le_bytes 8 n)
    (le_number-le_bytes_fits 8 n is) answer eaten read)
value-back (value.Float n) rest is answer eaten read = plain_back (value.Float n) _ answer eaten
    refl (number_answers 4 n value.Float (le_bytes 4 n) rest (length-le_bytes 4 n)
    (le_number-le_bytes_fits 4 n is) answer eaten read)
value-back (value.Double n) rest is answer eaten read = plain_back (value.Double n) _ answer eaten
    refl (number_answers 8 n value.Double (le_bytes 8 n) rest (length-le_bytes 8 n)
    (le_number-le_bytes_fits 8 n is) answer eaten read)
value-back (value.Date date) rest is answer eaten read = date_part date _
    (ReadsDate (date_bytes date ++ rest)) (date-back date rest is) answer eaten read
value-back (value.Time time) rest is answer eaten read = time_part time _
    (ReadsTime (time_bytes time ++ rest)) (time-back time rest is) answer eaten read
value-back (value.Text text) rest is answer eaten read =
    text_part (value.Text text) text.now refl _
    (ReadsText ((lenenc_bytes (length text.now) ++ text.now) ++ rest))
    (text_answers text.now rest is) answer eaten read

-- ---- what was read is written as it stood

number_short : (count : ℕ) (of : ℕ → BinaryValue) (input : List ℕ) (x : BinaryValue) (eaten : ℕ)
    → length input < count → Answers (number_at count of input) (Ok x) eaten → ⊥
number_short count of input x eaten short read =
    let (answered, ate) = rw (lt-ltb (length input) count short) at read in
    let is : ◌≡◌ {A = Result BinaryValue WireError} (Ok x) (Err UnexpectedEof) = answered in
    cc is

number_there : (count : ℕ) (of : ℕ → BinaryValue) (input : List ℕ) (x : BinaryValue) (eaten : ℕ)
    → ((bytes : List ℕ) → length bytes ≡ count → IsBytes bytes
    → value_bytes (of (le_number bytes)) ≡ bytes)
    → IsBytes input → count ≤ length input → Answers (number_at count of input) (Ok x) eaten
    → value_bytes x ≡ take eaten input
number_there count of input x eaten law are there read =
    let (answered, ate) = rw (le-ltb (length input) count there) at read in
    let is : x ≡ of (le_number (take count input)) = cc answered in
    ap value_bytes is ∙ (law (take count input) (length-take-le count input there)
    (take_are count input are) ∙ ap (λ n. take n input) (sym ate))

number_law : (count : ℕ) (of : ℕ → BinaryValue) (input : List ℕ) (x : BinaryValue) (eaten : ℕ)
    → ((bytes : List ℕ) → length bytes ≡ count → IsBytes bytes
    → value_bytes (of (le_number bytes)) ≡ bytes)
    → IsBytes input → Answers (number_at count of input) (Ok x) eaten
    → value_bytes x ≡ take eaten input
number_law count of input x eaten law are read = elim (cases_lt (length input) count) [
  | inl short ↦ absurd (number_short count of input x eaten short read)
  | inr there ↦ number_there count of input x eaten law are there read
]

le_again : (count : ℕ) (bytes : List ℕ) → length bytes ≡ count → IsBytes bytes
    → le_bytes count (le_number bytes) ≡ bytes
le_again count bytes len are =
    subst (λ n. le_bytes n (le_number bytes) ≡ bytes) len (le_bytes-le_number bytes are)

byte_again : (bytes : List ℕ) → length bytes ≡ 1 → IsBytes bytes → le_number bytes ∷ [] ≡ bytes
byte_again [] len are = absurd (omega (arith, len))
byte_again (byte ∷ []) len are =
    let same : byte + 256 * 0 ≡ byte = omega arith in
    ap (λ n. n ∷ []) same
byte_again (byte ∷ other ∷ more) len are = absurd (omega (arith, len))

date_again : (input : List ℕ) (x : BinaryValue) (eaten : ℕ) → IsBytes input
    → OnPart date_of (ReadsDate input) (Ok x) eaten → value_bytes x ≡ take eaten input
date_again input (value.Date date) eaten are read = date_law input date eaten are read
date_again input value.Null eaten are read = absurd read
date_again input (value.Tiny n) eaten are read = absurd read
date_again input (value.Short n) eaten are read = absurd read
date_again input (value.Long n) eaten are read = absurd read
date_again input (value.LongLong n) eaten are read = absurd read
date_again input (value.Float n) eaten are read = absurd read
date_again input (value.Double n) eaten are read = absurd read
date_again input (value.Time n) eaten are read = absurd read
date_again input (value.Text n) eaten are read = absurd read

time_again : (input : List ℕ) (x : BinaryValue) (eaten : ℕ) → IsBytes input
    → OnPart time_of (ReadsTime input) (Ok x) eaten → value_bytes x ≡ take eaten input
time_again input (value.Time time) eaten are read = time_law input time eaten are read
time_again input value.Null eaten are read = absurd read
time_again input (value.Tiny n) eaten are read = absurd read
time_again input (value.Short n) eaten are read = absurd read
time_again input (value.Long n) eaten are read = absurd read
time_again input (value.LongLong n) eaten are read = absurd read
time_again input (value.Float n) eaten are read = absurd read
time_again input (value.Double n) eaten are read = absurd read
time_again input (value.Date n) eaten are read = absurd read
time_again input (value.Text n) eaten are read = absurd read

text_behind : (input text : List ℕ) (eaten : ℕ) → HasShortLength input
    → Leaves (TextBehind (NumberOrEof IsLenencOrMark 1)) input (Ok text) eaten
    → lenenc_bytes (length text) ++ text ≡ take eaten input
text_behind input text eaten short (there, (mid, told, parts)) =
    let front = lenenc_bytes (length text) ++ text in
    let spelled : input ≡ lenenc_bytes (length text) ++ mid = short (length text) mid told in
    let whole : input ≡ front ++ drop eaten input =
    spelled ∙ (ap (λ rest. lenenc_bytes (length text) ++ rest) parts
    ∙ sym (append_assoc (lenenc_bytes (length text)) text (drop eaten input))) in
    let len : length front ≡ eaten = omega (
      arith,
      there,
      ap length whole,
      length-append front (drop eaten input),
      length-drop eaten input,
    ) in
    sym (ap (take eaten) whole ∙ take_at front (drop eaten input) eaten len)

text_law : (input text : List ℕ) (eaten : ℕ) → HasShortLength input
    → ReadsText input (Ok text) eaten → lenenc_bytes (length text) ++ text ≡ take eaten input
text_law input text eaten short (inl (_, (answered, _))) =
    let is : ◌≡◌ {A = Result (List ℕ) WireError} (Ok text) (Err (Other (record {}))) = answered in
    cc is
text_law input text eaten short (inr (inl (_, (answered, _)))) =
    let is : ◌≡◌ {A = Result (List ℕ) WireError} (Ok text) (Err (Other (record {}))) = answered in
    cc is
text_law input text eaten short (inr (inr (_, _, read))) = text_behind input text eaten short read

text_again : (input : List ℕ) (x : BinaryValue) (eaten : ℕ) → HasShortLength input
    → OnPart text_of (ReadsText input) (Ok x) eaten → value_bytes x ≡ take eaten input
text_again input (value.Text text) eaten short read = text_law input text.now eaten short read
text_again input value.Null eaten short read = absurd read
text_again input (value.Tiny n) eaten short read = absurd read
text_again input (value.Short n) eaten short read = absurd read
text_again input (value.Long n) eaten short read = absurd read
text_again input (value.LongLong n) eaten short read = absurd read
text_again input (value.Float n) eaten short read = absurd read
text_again input (value.Double n) eaten short read = absurd read
text_again input (value.Date n) eaten short read = absurd read
text_again input (value.Time n) eaten short read = absurd read

null_again : (input : List ℕ) (x : BinaryValue) (eaten : ℕ)
    → Answers {X = BinaryValue} (Ok value.Null, 0) (Ok x) eaten → value_bytes x ≡ take eaten input
null_again input x eaten (answered, ate) =
    let is : x ≡ value.Null = cc answered in
    ap value_bytes is ∙ ap (λ n. take n input) (sym ate)

unsent_again : (input : List ℕ) (x : BinaryValue) (eaten : ℕ)
    → Answers {X = BinaryValue} (Err (InvalidData UnknownValue), 0) (Ok x) eaten
    → value_bytes x ≡ take eaten input
unsent_again input x eaten (answered, ate) =
    let is : ◌≡◌ {A = Result BinaryValue WireError} (Ok x) (Err (InvalidData UnknownValue)) =
    answered in
    cc is

pub value_law : (form : ValueForm) (input : List ℕ) (x : BinaryValue) (eaten : ℕ) → IsBytes input
    → IsShortest form input → ReadsForm form input (Ok x) eaten → value_bytes x ≡ take eaten input
value_law form.Null input x eaten are short read = null_again input x eaten read
value_law form.Tiny input x eaten are short read =
    number_law 1 value.Tiny input x eaten byte_again are read
value_law form.Short input x eaten are short read =
    number_law 2 value.Short input x eaten (le_again 2) are read
value_law form.Long input x eaten are short read =
    number_law 4 value.Long input x eaten (le_again 4) are read
value_law form.LongLong input x eaten are short read =
    number_law 8 value.LongLong input x eaten (le_again 8) are read
value_law form.Float input x eaten are short read =
    number_law 4 value.Float input x eaten (le_again 4) are read
value_law form.Double input x eaten are short read =
    number_law 8 value.Double input x eaten (le_again 8) are read
value_law form.Date input x eaten are short read = date_again input x eaten are read
value_law form.Time input x eaten are short read = time_again input x eaten are read
value_law form.Text input x eaten are short read = text_again input x eaten short read
value_law form.Unsent input x eaten are short read = unsent_again input x eaten read

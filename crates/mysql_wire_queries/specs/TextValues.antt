-- A value of a row: NULL is the byte fb, and others are texts after their length.
use Rattle.std.specs.Prelude.{ℕ, ◌≡◌, ◌≢◌, ◌<◌, ◌^◌, ◌⊎◌, List, [], ◌∷◌, ◌++◌, length, take, Option, Some, None, Result, Ok, Err}
use Rattle.std.proofs.Common.{inl, inr, refl, ap, subst, arith}
use Rattle.std.proofs.lemmas.List.{append_assoc, take_all}
use Rattle.std.specs.Cow.{cow_slice_items}
use Rattle.std.specs.List.{flat_map, All}
use Rattle.std.specs.declared.borrow.CowSlice.{CowSlice}
use Rattle.wire_buf.specs.declared.error.WireError.{WireError}
use Rattle.wire_buf.specs.declared.error.WireError.TheVariants.{Other}
use Rattle.wire_buf.specs.Lenenc.{IsLenenc, IsLenencOrMark, lenenc_bytes}
use Rattle.wire_buf.specs.LenencWritten.{lenenc_bytes-is}
use Rattle.wire_forms.specs.PrefixedTexts.{lenenc_text-back}
use Rattle.wire_repr.specs.Law.{ComesBack, Through-back}
use Rattle.wire_list.specs.Counted.{ReadsCounted, each-laws, seq-back, unknown-back, at_most}
use Rattle.wire_list.specs.ElementLaws.{AllKept}
use Rattle.wire_values.specs.Elements.{ReadsAll}
use Rattle.mysql_wire_parts.specs.Optional.{OnIf}
use Rattle.wire_repr.specs.Texts.{IsText}
use Rattle.wire_buf.specs.Reading.{Answers, Through}
use Rattle.wire_forms.specs.Spelled.{Leaves, NumberOrEof, TextBehind}
use Rattle.mysql_wire_queries.specs.declared.text_row.TextValue.{TextValue}
use Rattle.mysql_wire_queries.specs.declared.text_row.TextValue.TheVariants.{Null, Text}

-- the value: a text, or NULL
abbrev pub value_of : TextValue → Option (List ℕ)
value_of Null = None
value_of (Text text) = Some text.now

-- what is written of a value
abbrev pub value_bytes : Option (List ℕ) → List ℕ
value_bytes None = 0xfb ∷ []
value_bytes (Some text) = lenenc_bytes (length text) ++ text

-- what is said of a text, said of a value
abbrev pub OfText : (Result (List ℕ) WireError → ℕ → Type 0) → Result (Option (List ℕ)) WireError
    → ℕ → Type 0
OfText says (Ok None) eaten = ⊥
OfText says (Ok (Some text)) eaten = says (Ok text) eaten
OfText says (Err error) eaten = says (Err error) eaten

-- fb is NULL; ff is refused, and nothing is eaten; else a length is read, and the text after it
abbrev pub ReadsValue : List ℕ → Result (Option (List ℕ)) WireError → ℕ → Type 0
ReadsValue input answer eaten =
    ((take 1 input ≡ 0xfb ∷ []) × Answers (Ok None, 1) answer eaten)
    ⊎ ((take 1 input ≡ 0xff ∷ []) × Answers (Err (Other (record {})), 0) answer eaten)
    ⊎ ((take 1 input ≢ 0xfb ∷ []) × (take 1 input ≢ 0xff ∷ [])
    × OfText (Leaves (TextBehind (NumberOrEof IsLenencOrMark 1)) input) answer eaten)

-- the values of a row, one after another
abbrev pub row_bytes : List TextValue → List ℕ
row_bytes values = flat_map (λ value. value_bytes (value_of value)) values

-- the same text, or both NULL
abbrev pub SameValue : TextValue → TextValue → Type 0
SameValue value back = value_of back ≡ value_of value

-- ---- lemmas

head_same : (first mark : ℕ) (bytes rest more : List ℕ) → bytes ≡ first ∷ rest
    → take 1 (bytes ++ more) ≡ mark ∷ [] → first ≡ mark
head_same first mark bytes rest more is at =
    let shown : first ∷ [] ≡ mark ∷ [] = subst (λ b. take 1 (b ++ more) ≡ mark ∷ []) is at in
    cc shown

-- no length begins with a mark
apart : (first mark : ℕ) → (mark ≡ 0xfb) ⊎ (mark ≡ 0xff)
    → (first < 251) ⊎ ((251 < first) × (first < 255)) → first ≢ mark
apart first mark (inl fb) (inl below) same = omega (arith, fb, below, same)
apart first mark (inl fb) (inr (above, below)) same = omega (arith, fb, above, same)
apart first mark (inr ff) (inl below) same = omega (arith, ff, below, same)
apart first mark (inr ff) (inr (above, below)) same = omega (arith, ff, below, same)

no_mark : (n mark : ℕ) (bytes more : List ℕ) → (mark ≡ 0xfb) ⊎ (mark ≡ 0xff) → IsLenenc n bytes
    → take 1 (bytes ++ more) ≢ mark ∷ []
no_mark n mark bytes more marks (inl (is, below)) at =
    apart n mark marks (inl below) (head_same n mark bytes [] more is at)
no_mark n mark bytes more marks (inr (inl (rest, is, _, _))) at = apart 0xfc mark marks
    (inr (omega arith, omega arith)) (head_same 0xfc mark bytes rest more is at)
no_mark n mark bytes more marks (inr (inr (inl (rest, is, _, _)))) at = apart 0xfd mark marks
    (inr (omega arith, omega arith)) (head_same 0xfd mark bytes rest more is at)
no_mark n mark bytes more marks (inr (inr (inr (rest, is, _, _)))) at = apart 0xfe mark marks
    (inr (omega arith, omega arith)) (head_same 0xfe mark bytes rest more is at)

text_mark : (text rest : List ℕ) (mark : ℕ) → (mark ≡ 0xfb) ⊎ (mark ≡ 0xff) → IsText text
    → take 1 (value_bytes (Some text) ++ rest) ≢ mark ∷ []
text_mark text rest mark marks is at = no_mark (length text) mark (lenenc_bytes (length text))
    (text ++ rest) marks (lenenc_bytes-is (length text) is.1) (subst (λ b. take 1 b ≡ mark ∷ [])
    (append_assoc (lenenc_bytes (length text)) text rest) at)

OfText-back : (text : List ℕ) (len : ℕ) (says : Result (List ℕ) WireError → ℕ → Type 0)
    → ((answer : Result (List ℕ) WireError) (eaten : ℕ) → says answer eaten
    → Answers (Ok text, len) answer eaten)
    → (answer : Result (Option (List ℕ)) WireError) (eaten : ℕ) → OfText says answer eaten
    → Answers (Ok (Some text), len) answer eaten
OfText-back text len says law (Ok None) eaten read = absurd read
OfText-back text len says law (Ok (Some back)) eaten read =
    let came = law (Ok back) eaten read in
    let same : back ≡ text = cc came.0 in
    (ap (λ text. Ok (Some text)) same, came.1)
OfText-back text len says law (Err error) eaten read =
    let answered : ◌≡◌ {A = Result (List ℕ) WireError} (Err error) (Ok text) =
    (law (Err error) eaten read).0 in
    cc answered

-- a value comes back
ReadsValue-back : (value : Option (List ℕ)) (rest : List ℕ) → OnIf IsText value
    → (answer : Result (Option (List ℕ)) WireError) (eaten : ℕ)
    → ReadsValue (value_bytes value ++ rest) answer eaten
    → Answers (Ok value, length (value_bytes value)) answer eaten
ReadsValue-back None rest is answer eaten (inl (_, read)) = read
ReadsValue-back None rest is answer eaten (inr (inl (at, _))) =
    let same : ◌≡◌ {A = ℕ} 0xfb 0xff = cc at in
    absurd (omega (arith, same))
ReadsValue-back None rest is answer eaten (inr (inr (differs, _, _))) = absurd (differs refl)
ReadsValue-back (Some text) rest is answer eaten (inl (at, _)) =
    absurd (text_mark text rest 0xfb (inl refl) is at)
ReadsValue-back (Some text) rest is answer eaten (inr (inl (at, _))) =
    absurd (text_mark text rest 0xff (inr refl) is at)
ReadsValue-back (Some text) rest is answer eaten (inr (inr (_, _, read))) =
    OfText-back text (length (value_bytes (Some text)))
    (Leaves (TextBehind (NumberOrEof IsLenencOrMark 1)) (value_bytes (Some text) ++ rest))
    (lenenc_text-back text rest is) answer eaten read

pub value-back : (value : TextValue) (rest : List ℕ) → OnIf IsText (value_of value)
    → (answer : Result TextValue WireError) (eaten : ℕ)
    → Through value_of (ReadsValue (value_bytes (value_of value) ++ rest)) answer eaten
    → ComesBack (SameValue value) ⊥ (length (value_bytes (value_of value))) answer eaten
value-back value rest is answer eaten read = Through-back value_of
    (ReadsValue (value_bytes (value_of value) ++ rest)) (value_of value)
    (length (value_bytes (value_of value))) (ReadsValue-back (value_of value) rest is) answer eaten
    read

-- a list in memory is written whole
pub whole-row : (values : List TextValue) → length values < 2 ^ 64
    → row_bytes (take 0xffff_ffff_ffff_ffff values) ≡ row_bytes values
whole-row values few =
    ap row_bytes (take_all 0xffff_ffff_ffff_ffff values (at_most (length values) few))

-- and a row
pub row-back : {V Z : Type 0} (seq : V → CowSlice TextValue Z) (count : ℕ) (values : List TextValue)
    (rest : List ℕ) → count ≡ length values → length values < 2 ^ 64
    → All (λ value. OnIf IsText (value_of value)) values
    → (answer : Result V WireError) (eaten : ℕ)
    → ReadsCounted seq (Ok count, 0) (ReadsAll None (λ input. Through value_of (ReadsValue input)))
    (row_bytes values ++ rest) answer eaten
    → ComesBack (λ back. AllKept SameValue values (cow_slice_items (seq back))) (Unit {0})
    (length (row_bytes values)) answer eaten
row-back seq count values rest is few texts answer eaten =
    let bytes : TextValue → List ℕ = λ value. value_bytes (value_of value) in
    let reads : List ℕ → Result TextValue WireError → ℕ → Type 0 =
    λ input. Through value_of (ReadsValue input) in
    let whole = whole-row values few in
    let laws = each-laws None reads bytes SameValue ⊥ (λ value. OnIf IsText (value_of value))
    (λ _ _. Unit {0}) (λ value size is stated. cc)
    (λ value rest answer eaten is good read. value-back value rest is answer eaten read) values
    texts (λ index default below rest. tt) in
    subst (λ written. ReadsCounted seq (Ok count, 0) (ReadsAll None reads) (written ++ rest) answer
    eaten → ComesBack (λ back. AllKept SameValue values (cow_slice_items (seq back))) (Unit {0})
    (length written) answer eaten) whole
    (seq-back seq None reads bytes SameValue ⊥ 0xffff_ffff_ffff_ffff (λ _. []) (λ _. (Ok count, 0))
    values rest (λ size stated. cc) laws (at_most (length values) few)
    (λ more. unknown-back count (length values) is) answer eaten)

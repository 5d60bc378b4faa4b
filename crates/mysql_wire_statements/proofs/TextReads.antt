-- A text after its length, read.
use Rattle.std.specs.Prelude.{ℕ, ◌≡◌, ◌≢◌, ◌≤◌, List, [], ◌∷◌, ◌++◌, length, drop, take, Option, Some, None, Result, Ok, Err}
use Rattle.std.proofs.Common.{refl, sym, ◌∙◌, arith, inl, inr}
use Rattle.std.proofs.lemmas.Bool.{cases_lt}
use Rattle.std.proofs.lemmas.List.{append_assoc, drop_all}
use Rattle.wire_buf.specs.declared.error.WireError.{WireError}
use Rattle.wire_buf.specs.declared.error.WireError.TheVariants.{UnexpectedEof}
use Rattle.wire_buf.specs.Lenenc.{IsLenencOrMark}
use Rattle.wire_buf.specs.Reading.{Reads}
use Rattle.wire_buf.specs.Spelling as spelling
use Rattle.wire_forms.specs.Spelled.{Leaves, NumberOrEof, Reads-left, TextBehind}
use Rattle.mysql_wire_statements.specs.Values.{ReadsText}

-- where there is no text, the input ends early
abbrev or_eof : Option (List ℕ) → Result (List ℕ) WireError
or_eof (Some text) = Ok text
or_eof None = Err UnexpectedEof

abbrev ReadsLenenc : List ℕ → Result (List ℕ) WireError → ℕ → Type 0
ReadsLenenc = Leaves (TextBehind (NumberOrEof IsLenencOrMark 1))

lost_none : (old new : List ℕ) → length old ≤ 1 → new ≡ drop 1 old
    → TextBehind (NumberOrEof IsLenencOrMark 1) old (Err UnexpectedEof) new
    → Reads ReadsLenenc old (Err UnexpectedEof) new
lost_none old new short is told =
    let all : drop 1 old ≡ drop (length old) old = drop_all 1 old short ∙ sym (drop_all (length old) old (omega arith)) in
    (length old, omega arith, is ∙ all, (omega arith, rw (is ∙ all) at told))

lenenc_read : (old : List ℕ) (answer : Option (List ℕ)) (new : List ℕ)
    → spelling.ReadsText IsLenencOrMark 1 old answer new
    → Reads ReadsLenenc old (or_eof answer) new
lenenc_read old (Some text) new (spelling, spells, is) =
    Reads-left (TextBehind (NumberOrEof IsLenencOrMark 1)) old (Ok text) new (spelling ++ text) (is ∙ sym (append_assoc spelling text new))
    (text ++ new, (spelling, spells, is), refl)
lenenc_read old None new (inl (nothing, is)) =
    let told : TextBehind (NumberOrEof IsLenencOrMark 1) old (Err UnexpectedEof) new = inl (refl, (nothing, is)) in
    elim (cases_lt 1 (length old)) [
      | inl more ↦ (1, omega (arith, more), is, (omega (arith, more), rw is at told))
      | inr short ↦ lost_none old new (omega (arith, short)) is told
    ]
lenenc_read old None new (inr (len, (spelling, spells, is), short)) =
    Reads-left (TextBehind (NumberOrEof IsLenencOrMark 1)) old (Err UnexpectedEof) new spelling is
    (inr (len, (spelling, spells, is), short, refl))

-- where neither mark stands in front
pub text_read : (old text new : List ℕ) → take 1 old ≢ 0xfb ∷ [] → take 1 old ≢ 0xff ∷ []
    → spelling.ReadsText IsLenencOrMark 1 old (Some text) new → Reads ReadsText old (Ok text) new
text_read old text new null refused told =
    let (eaten, fits, left, read) = lenenc_read old (Some text) new told in
    (eaten, fits, left, inr (inr (null, refused, read)))

pub no_text : (old new : List ℕ) → take 1 old ≢ 0xfb ∷ [] → take 1 old ≢ 0xff ∷ []
    → spelling.ReadsText IsLenencOrMark 1 old None new → Reads ReadsText old (Err UnexpectedEof) new
no_text old new null refused told =
    let (eaten, fits, left, read) = lenenc_read old None new told in
    (eaten, fits, left, inr (inr (null, refused, read)))

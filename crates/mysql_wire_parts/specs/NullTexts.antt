-- A text that a zero ends is read back.
use Rattle.std.specs.Prelude.{ℕ, ◌≡◌, ◌<◌, true, false, List, [], ◌∷◌, ◌++◌, length, take, slice_index, Ok, Err}
use Rattle.std.proofs.Common.{zero, suc, refl, sym, ap, subst, ◌∙◌, arith}
use Rattle.std.proofs.lemmas.List.{append_assoc}
use Rattle.std.proofs.lemmas.List.Sums.{fails_before_first}
use Rattle.std.specs.Cow.{cow_slice_items}
use Rattle.std.specs.List.{before_first, position_or_len}
use Rattle.std.specs.declared.borrow.CowSlice.{CowSlice}
use Rattle.wire_buf.specs.NullText.{is_zero}
use Rattle.wire_forms.specs.NullTexts.{HasNoZero, ReadsNull}
use Rattle.wire_repr.specs.Texts.{Borrows, IsBorrowedText, Borrows-back}
use Rattle.wire_forms.specs.Spelled.{Leaves, TellsBack, Leaves-back}
use Rattle.mysql_wire_parts.specs.InOrder.{Back}

-- the text before its first zero
abbrev pub clean : {Z : Type 0} → CowSlice ℕ Z → List ℕ
clean text = before_first is_zero (cow_slice_items text)

-- ---- lemmas

zero_is : (byte : ℕ) → byte ≡ 0 → is_zero byte ≡ true
zero_is byte is = rw is refl

no_zero_in : (count : ℕ) (bytes : List ℕ)
    → ((k : ℕ) → k < count → is_zero (slice_index bytes k) ≡ false) → HasNoZero (take count bytes)
no_zero_in zero bytes fails = tt
no_zero_in (suc count) [] fails = tt
no_zero_in (suc count) (byte ∷ bytes) fails = (
  λ is. (let both : true ≡ false = sym (zero_is byte is) ∙ fails 0 (omega arith) in cc both),
  no_zero_in count bytes (λ k below. fails (suc k) (omega (arith, below))),
)

no_zero : (text : List ℕ) → HasNoZero (before_first is_zero text)
no_zero text = no_zero_in (position_or_len is_zero text) text
    (λ k below. fails_before_first is_zero text k 0 below)

heads_same : (a b : ℕ) (x y : List ℕ) → a ∷ x ≡ b ∷ y → (a ≡ b) × (x ≡ y)
heads_same a b x y is = (cc is, cc is)

-- of two texts before a zero, neither has one
texts_same : (a b x y : List ℕ) → HasNoZero a → HasNoZero b → a ++ 0 ∷ x ≡ b ++ 0 ∷ y
    → (a ≡ b) × (x ≡ y)
texts_same [] [] x y left right is = (refl, (heads_same 0 0 x y is).1)
texts_same [] (head ∷ b) x y left right is =
    absurd (right.0 (sym (heads_same 0 head x (b ++ 0 ∷ y) is).0))
texts_same (head ∷ a) [] x y left right is =
    absurd (left.0 (heads_same head 0 (a ++ 0 ∷ x) y is).0)
texts_same (head ∷ a) (other ∷ b) x y left right is =
    let same = heads_same head other (a ++ 0 ∷ x) (b ++ 0 ∷ y) is in
    let more = texts_same a b x y left.1 right.1 same.1 in
    (ap (λ first. first ∷ a) same.0 ∙ ap (λ rest. other ∷ rest) more.0, more.1)

zero_there : (a x : List ℕ) → HasNoZero (a ++ 0 ∷ x) → ⊥
zero_there [] x none = none.0 refl
zero_there (head ∷ a) x none = zero_there a x none.1

null_told : (text : List ℕ) → HasNoZero text → TellsBack ReadsNull (text ++ 0 ∷ []) text
null_told text none rest (Ok read) new (parts, clean) =
    let whole : (text ++ 0 ∷ []) ++ rest ≡ text ++ 0 ∷ rest = append_assoc text (0 ∷ []) rest in
    let same = texts_same read text new rest clean none (sym parts ∙ whole) in
    (ap Ok same.0, same.1)
null_told text none rest (Err error) new (_, clean, _) =
    absurd (zero_there text rest (subst HasNoZero (append_assoc text (0 ∷ []) rest) clean))

-- a text up to its first zero
pub null_text : {Y Z : Type 0} {rest : List ℕ} (part : Y → CowSlice ℕ Z) (text : List ℕ)
    → Back (λ input. Borrows part (Leaves ReadsNull input))
    (λ y. IsBorrowedText (part y) (before_first is_zero text))
    (before_first is_zero text ++ 0 ∷ []) rest
null_text {rest = rest} part text =
    let front = before_first is_zero text in
    let bytes = front ++ 0 ∷ [] in
    record {
      law = Borrows-back part (Leaves ReadsNull (bytes ++ rest)) front (length bytes)
          (Leaves-back ReadsNull bytes front (null_told front (no_zero text)) rest);
    }

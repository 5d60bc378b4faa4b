-- Texts that a zero ends are read back.
use Rattle.std.proofs.Common.{ℕ, zero, suc, ◌≡◌, ◌≢◌, ◌<◌, Bool, true, false, not, List, [], ◌∷◌, ◌++◌, length, take, drop, slice_index, Some, None, Result, Ok, Err, refl, sym, ap, subst, ◌∙◌, arith}
use Rattle.std.specs.List.{position_or_len, before_first}
use Rattle.std.proofs.lemmas.Bool.{eqb-true}
use Rattle.std.proofs.lemmas.List.{take_all, append_assoc}
use Rattle.std.proofs.lemmas.List.Sums.{prefix_len_is, fails_before_first}
use Rattle.memchr.specs.Find.{IsFirstByte, is_byte}
use Rattle.wire_buf.specs.declared.error.WireError.{WireError}
use Rattle.wire_buf.specs.NullText.{is_zero}
use Rattle.wire_buf.specs.Reading.{Answers}
use Rattle.wire_forms.specs.NullTexts.{HasNoZero, ReadsNull}
use Rattle.wire_forms.specs.Spelled.{Leaves, TellsBack, Leaves-back}

-- by places
pub HasNoZero-all : (bytes : List ℕ) → ((k : ℕ) → k < length bytes → slice_index bytes k ≢ 0)
    → HasNoZero bytes
HasNoZero-all [] none = tt
HasNoZero-all (byte ∷ bytes) none =
    (none 0 (omega arith), HasNoZero-all bytes (λ k below. none (suc k) (omega (arith, below))))

pub HasNoZero-take : (count : ℕ) (bytes : List ℕ) → ((k : ℕ) → k < count → slice_index bytes k ≢ 0)
    → HasNoZero (take count bytes)
HasNoZero-take zero bytes none = tt
HasNoZero-take (suc count) [] none = tt
HasNoZero-take (suc count) (byte ∷ bytes) none = (
  none 0 (omega arith),
  HasNoZero-take count bytes
      (λ k below. none (suc k) (omega (arith, below))),
)

pub split_place : (place : ℕ) (bytes : List ℕ) → place < length bytes
    → bytes ≡ take place bytes ++ slice_index bytes place ∷ drop 1 (drop place bytes)
split_place place [] below = absurd (omega (arith, below))
split_place zero (byte ∷ bytes) below = refl
split_place (suc place) (byte ∷ bytes) below =
    ap (λ l. byte ∷ l) (split_place place bytes (omega (arith, below)))

zero_is : (byte : ℕ) → byte ≡ 0 → is_zero byte ≡ true
zero_is byte is = rw is refl

not_true : (b : Bool) → ¬ (b ≡ true) → not b ≡ true
not_true true h = absurd (h refl)
not_true false h = refl

-- what a search for a zero tells
pub found_none : (bytes : List ℕ) → IsFirstByte (is_byte 0) bytes None
    → HasNoZero bytes × (before_first is_zero bytes ≡ bytes)
found_none bytes none =
    let place : position_or_len is_zero bytes ≡ length bytes =
    prefix_len_is (λ x. not (is_zero x)) bytes (length bytes) 0 (omega arith)
    (λ k below. not_true _ (none k (omega arith) below)) (λ past. absurd (omega arith)) in (
      HasNoZero-all bytes (λ k below is.
          none k (omega arith) below (zero_is (slice_index bytes k) is)),
      ap (λ n. take n bytes) place ∙ take_all (length bytes) bytes (omega arith),
    )

pub found_at : (bytes : List ℕ) (end : ℕ) → IsFirstByte (is_byte 0) bytes (Some end)
    → (end < length bytes) × HasNoZero (take end bytes)
    × (bytes ≡ take end bytes ++ 0 ∷ drop 1 (drop end bytes))
    × (before_first is_zero bytes ≡ take end bytes)
found_at bytes end (first, found) =
    let place : position_or_len is_zero bytes ≡ end =
    prefix_len_is (λ x. not (is_zero x)) bytes end 0 (omega (arith, first.high))
    (λ k below. not_true _ (first.before k (omega arith) below)) (λ _. ap not found) in
    let zero_there : slice_index bytes end ≡ 0 = eqb-true (slice_index bytes end) 0 found in (
      first.high,
      HasNoZero-take end bytes (λ k below is.
          first.before k (omega arith) below (zero_is (slice_index bytes k) is)),
      split_place end bytes first.high
          ∙ ap (λ b. take end bytes ++ b ∷ drop 1 (drop end bytes)) zero_there,
      ap (λ n. take n bytes) place,
    )

-- ---- what is written

zero_fails : (byte : ℕ) → is_zero byte ≡ false → byte ≢ 0
zero_fails byte fails is =
    (let holds = zero_is byte is in let both : true ≡ false = sym holds ∙ fails in cc both)

pub HasNoZero-before : (text : List ℕ) → HasNoZero (before_first is_zero text)
HasNoZero-before text = HasNoZero-take (position_or_len is_zero text) text
    (λ k below. zero_fails (slice_index text k) (fails_before_first is_zero text k 0 below))

split_same : (f g : ℕ) (r s : List ℕ) → f ∷ r ≡ g ∷ s → (f ≡ g) × (r ≡ s)
split_same f g r s e = (cc e, cc e)

first_zero_same : (a b x y : List ℕ) → HasNoZero a → HasNoZero b → a ++ 0 ∷ x ≡ b ++ 0 ∷ y
    → (a ≡ b) × (x ≡ y)
first_zero_same [] [] x y left right e = (refl, (split_same 0 0 x y e).1)
first_zero_same [] (g ∷ b) x y left right e =
    absurd (right.0 (sym (split_same 0 g x (b ++ 0 ∷ y) e).0))
first_zero_same (f ∷ a) [] x y left right e = absurd (left.0 (split_same f 0 (a ++ 0 ∷ x) y e).0)
first_zero_same (f ∷ a) (g ∷ b) x y left right e =
    let same = split_same f g (a ++ 0 ∷ x) (b ++ 0 ∷ y) e in
    let more = first_zero_same a b x y left.1 right.1 same.1 in
    (λ j. same.0 j ∷ more.0 j, more.1)

has_zero : (a x : List ℕ) → HasNoZero (a ++ 0 ∷ x) → ⊥
has_zero [] x none = none.0 refl
has_zero (f ∷ a) x none = has_zero a x none.1

whole_is : (text rest : List ℕ) → (text ++ 0 ∷ []) ++ rest ≡ text ++ 0 ∷ rest
whole_is text rest = append_assoc text (0 ∷ []) rest

pub null-told : (text : List ℕ) → HasNoZero text → TellsBack ReadsNull (text ++ 0 ∷ []) text
null-told text none rest (Ok read) new (parts, clean) =
    let same = first_zero_same read text new rest clean none (sym parts ∙ whole_is text rest) in
    (ap Ok same.0, same.1)
null-told text none rest (Err error) new (_, clean, _) =
    absurd (has_zero text rest (subst HasNoZero (whole_is text rest) clean))

pub null-back : (text rest : List ℕ) → (answer : Result (List ℕ) WireError) (eaten : ℕ)
    → Leaves ReadsNull ((before_first is_zero text ++ 0 ∷ []) ++ rest) answer eaten
    → Answers (Ok (before_first is_zero text), length (before_first is_zero text ++ 0 ∷ [])) answer
    eaten
null-back text rest =
    let front = before_first is_zero text in
    Leaves-back ReadsNull (front ++ 0 ∷ []) front (null-told front (HasNoZero-before text)) rest

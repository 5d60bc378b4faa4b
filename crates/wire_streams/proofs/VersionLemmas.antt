-- A version's pieces.
use Rattle.std.proofs.Common.{◌≡◌, ◌≤◌, ◌<◌, ℕ, suc, ◌+◌, ◌*◌, Bool, true, false, not, cond, List, [], ◌∷◌, length, take, drop, Option, Some, None, inl, inr, refl, sym, ap, subst, ◌∙◌, arith, MatchOption, get_or, unwrap_or}
use Rattle.std.specs.List.{slice_split, onto_first, position_or_len, before_first, after_first, position}
use Rattle.std.specs.Char.{digit_value}
use Rattle.std.specs.Str.Parse.{AllDigits, digits_value, digits_value_after}
use Rattle.std.proofs.lemmas.List.{drop_more, drop_all}
use Rattle.std.proofs.lemmas.List.Splits.{slice_split_first, slice_split-cons_yes, slice_split-cons_no}
use Rattle.std.proofs.lemmas.Bool.{eqb-true, cases_lt, lt-ltb}
use Rattle.std.proofs.lemmas.List.Sums.{prefix_len-le-length}
use Rattle.wire_streams.specs.Version.{is_dot, is_no_digit, IsPart, IsSignedPart, IsVersion, ReadsVersion}

-- a search that finds nothing
pub position-none : (p : ℕ → Bool) (xs : List ℕ) → None ≡ position p xs
    → position_or_len p xs ≡ length xs
position-none p xs none = elim (cases_lt (position_or_len p xs) (length xs)) [
  | inr past ↦ let most = prefix_len-le-length (λ x. not (p x)) xs in omega (arith, past, most)
  | inl found ↦
      let e : ◌≡◌ {A = Option ℕ} None (Some (position_or_len p xs)) =
      none ∙ ap (λ b. cond b (Some (position_or_len p xs)) None)
      (lt-ltb (position_or_len p xs) (length xs) found) in
      cc e
]

-- ---- pieces between dots

whole_step : (x : ℕ) (xs : List ℕ)
    → (position_or_len is_dot xs ≡ length xs → slice_split is_dot xs ≡ xs ∷ []) → (b : Bool)
    → is_dot x ≡ b
    → position_or_len is_dot (x ∷ xs) ≡ length (x ∷ xs)
    → slice_split is_dot (x ∷ xs) ≡ (x ∷ xs) ∷ []
whole_step x xs more true is none =
    let zero : position_or_len is_dot (x ∷ xs) ≡ 0 = rw is refl in
    absurd (omega (arith, zero, none))
whole_step x xs more false is none =
    let later : position_or_len is_dot (x ∷ xs) ≡ 1 + position_or_len is_dot xs = rw is refl in
    let rest = more (omega (arith, later, none)) in
    slice_split-cons_no is_dot x xs is ∙ ap (onto_first x) rest

-- a text without a dot is one piece
pub slice_split-whole : (xs : List ℕ) → position_or_len is_dot xs ≡ length xs
    → slice_split is_dot xs ≡ xs ∷ []
slice_split-whole [] none = refl
slice_split-whole (x ∷ xs) none = whole_step x xs (slice_split-whole xs) (is_dot x) refl none

-- one with a dot is its first piece and those of the rest
pub slice_split-cut : (xs before after : List ℕ) → position_or_len is_dot xs < length xs
    → before ≡ before_first is_dot xs → after ≡ after_first is_dot xs
    → slice_split is_dot xs ≡ before ∷ slice_split is_dot after
slice_split-cut xs before after there front rest =
    slice_split_first is_dot xs 0 there
    ∙ ap (λ l. l ∷ slice_split is_dot (after_first is_dot xs)) (sym front)
    ∙ ap (λ l. before ∷ slice_split is_dot l) (sym rest)

-- the digits at the front of a text are those of its first piece
abbrev pub FirstPiece : List ℕ → Type 0
FirstPiece xs = (piece : List ℕ) × (more : List (List ℕ)) × (slice_split is_dot xs ≡ piece ∷ more)
    × (before_first is_no_digit xs ≡ before_first is_no_digit piece)

before_no_digit : (x : ℕ) (xs : List ℕ) → is_no_digit x ≡ true
    → before_first is_no_digit (x ∷ xs) ≡ []
before_no_digit x xs is = rw is refl

before_digit : (x : ℕ) (xs : List ℕ) → is_no_digit x ≡ false
    → before_first is_no_digit (x ∷ xs) ≡ x ∷ before_first is_no_digit xs
before_digit x xs is =
    let place : position_or_len is_no_digit (x ∷ xs) ≡ suc (position_or_len is_no_digit xs) =
    rw is (omega arith) in
    ap (λ n. take n (x ∷ xs)) place

piece_step : (x : ℕ) (xs : List ℕ) → FirstPiece xs → (b d : Bool) → is_dot x ≡ b → is_no_digit x ≡ d
    → FirstPiece (x ∷ xs)
piece_step x xs (piece, more, split, same) true d is_b is_d =
    let dot : x ≡ 46 = eqb-true x 46 is_b in
    let none : is_no_digit x ≡ true = ap is_no_digit dot in
    ([], slice_split is_dot xs, slice_split-cons_yes is_dot x xs is_b, before_no_digit x xs none)
piece_step x xs (piece, more, split, same) false true is_b is_d = (
  x ∷ piece,
  more,
  slice_split-cons_no is_dot x xs is_b ∙ ap (onto_first x) split,
  before_no_digit x xs is_d ∙ sym (before_no_digit x piece is_d),
)
piece_step x xs (piece, more, split, same) false false is_b is_d = (
  x ∷ piece,
  more,
  slice_split-cons_no is_dot x xs is_b ∙ ap (onto_first x) split,
  before_digit x xs is_d ∙ ap (λ l. x ∷ l) same ∙ sym (before_digit x piece is_d),
)

pub first_piece : (xs : List ℕ) → FirstPiece xs
first_piece [] = ([], [], refl, refl)
first_piece (x ∷ xs) = piece_step x xs (first_piece xs) (is_dot x) (is_no_digit x) refl refl

-- ---- versions

-- a text after two cuts
abbrev pub IsCut : List ℕ → List ℕ → List ℕ → List ℕ → Type 0
IsCut text first second third = slice_split is_dot text ≡ first ∷ second ∷ slice_split is_dot third

pub version_from : (text first second third : List ℕ) (a b c : ℕ) → IsCut text first second third
    → IsSignedPart first a → IsSignedPart second b → IsPart (before_first is_no_digit third) c
    → IsVersion text (a, b, c)
version_from text first second third a b c cut is_a is_b is_c =
    let (piece, more, split, same) = first_piece third in (
      first,
      second,
      piece,
      more,
      cut ∙ ap (λ l. first ∷ second ∷ l) split,
      is_a,
      is_b,
      subst (λ l. IsPart l c) same is_c,
    )

pub version_parts : (text first second third : List ℕ) (v : ℕ × ℕ × ℕ)
    → IsCut text first second third → IsVersion text v
    → IsSignedPart first v.0 × IsSignedPart second v.1 × IsPart (before_first is_no_digit third) v.2
version_parts text first second third v cut (f, s, t, m, pieces, is_a, is_b, is_c) =
    let (piece, more, split, same) = first_piece third in
    let e : first ∷ second ∷ piece ∷ more ≡ f ∷ s ∷ t ∷ m =
    sym (cut ∙ ap (λ l. first ∷ second ∷ l) split) ∙ pieces in
    let e1 : f ≡ first = sym (cc e) in
    let e2 : s ≡ second = sym (cc e) in
    let e3 : t ≡ piece = sym (cc e) in (
      subst (λ l. IsSignedPart l v.0) e1 is_a,
      subst (λ l. IsSignedPart l v.1) e2 is_b,
      subst (λ l. IsPart l v.2) (ap (before_first is_no_digit) e3 ∙ sym same) is_c,
    )

-- fewer than two dots
pub no_version-one : (text : List ℕ) (v : ℕ × ℕ × ℕ) → slice_split is_dot text ≡ text ∷ []
    → ¬ IsVersion text v
no_version-one text v one (f, s, t, m, pieces, _, _, _) =
    let e : text ∷ [] ≡ f ∷ s ∷ t ∷ m = sym one ∙ pieces in
    let rest : ◌≡◌ {A = List (List ℕ)} [] (s ∷ t ∷ m) = cc e in
    cc rest

pub no_version-two : (text first rest : List ℕ) (v : ℕ × ℕ × ℕ)
    → slice_split is_dot text ≡ first ∷ slice_split is_dot rest
    → slice_split is_dot rest ≡ rest ∷ [] → ¬ IsVersion text v
no_version-two text first rest v cut one (f, s, t, m, pieces, _, _, _) =
    let e : first ∷ rest ∷ [] ≡ f ∷ s ∷ t ∷ m = sym (cut ∙ ap (λ l. first ∷ l) one) ∙ pieces in
    let more : ◌≡◌ {A = List (List ℕ)} [] (t ∷ m) = cc e in
    cc more

-- ---- digits

-- more digits make no smaller number
pub digits_value_after-le : (n : ℕ) (digits : List ℕ) → n ≤ digits_value_after 10 n digits
digits_value_after-le n [] = omega arith
digits_value_after-le n (digit ∷ digits) =
    let more = digits_value_after-le (n * 10 + digit_value digit) digits in
    omega arith

-- a text that is cut twice
pub cut_twice : (text first rest second third : List ℕ)
    → (position_or_len is_dot text < length text) × (first ≡ before_first is_dot text)
    × (rest ≡ after_first is_dot text)
    → (position_or_len is_dot rest < length rest) × (second ≡ before_first is_dot rest)
    × (third ≡ after_first is_dot rest)
    → IsCut text first second third
cut_twice text first rest second third (one, front, left) (two, next, last) =
    slice_split-cut text first rest one front left
    ∙ ap (λ l. first ∷ l) (slice_split-cut rest second third two next last)

-- and nor do those from a place on
pub digits_value-from : (n i : ℕ) (digits : List ℕ) → i < length digits
    → digits_value_after 10 n (drop i digits) ≡ digits_value 10 digits
    → n * 10 + digit_value (get_or digits i 0) ≤ digits_value 10 digits
digits_value-from n i digits below value =
    let more = digits_value_after-le (n * 10 + digit_value (get_or digits i 0))
    (drop (i + 1) digits) in
    let step = ap (digits_value_after 10 n) (drop_more digits i 0 below) in
    omega (arith, more, step, value)

-- the digits are read
pub digits-end : (n i : ℕ) (digits : List ℕ) → length digits ≤ i
    → digits_value_after 10 n (drop i digits) ≡ digits_value 10 digits
    → (AllDigits 10 (drop i digits) → AllDigits 10 digits)
    → (n ≡ digits_value 10 digits) × AllDigits 10 digits
digits-end n i digits past value from =
    let none = drop_all i digits past in
    (sym (ap (digits_value_after 10 n) none) ∙ value, from (subst (AllDigits 10) (sym none) tt))

-- three zeros where there is no version
pub ReadsVersion-unwrap_or : (text : List ℕ) (found : Option (ℕ × ℕ × ℕ)) (answer : ℕ × ℕ × ℕ)
    → MatchOption found ((v : ℕ × ℕ × ℕ) → ¬ IsVersion text v) (λ v. IsVersion text v)
    → answer ≡ unwrap_or found (0, 0, 0) → ReadsVersion text answer
ReadsVersion-unwrap_or text None answer none is = inr (is, none)
ReadsVersion-unwrap_or text (Some v) answer version is =
    inl (subst (IsVersion text) (sym is) version)

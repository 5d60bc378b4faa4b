-- Length-encoded integers are read back, and from the fewest bytes.
use Rattle.std.proofs.Common.{◌≡◌, ◌≤◌, ◌<◌, ℕ, ◌+◌, List, [], ◌∷◌, ◌++◌, length, take, drop, Option, Some, None, inl, inr, refl, sym, ap, subst, ◌∙◌, arith, nat_eq, if◌then◌else◌, ◌⊎◌}
use Rattle.std.proofs.lemmas.List.{length-append, length-take-le, take-append-drop}
use Rattle.std.proofs.lemmas.Bool.{ne_eqb}
use Rattle.wire_buf.specs.Numbers.{le_number}
use Rattle.wire_buf.specs.Reading.{Eats, EatsIfThere}
use Rattle.wire_buf.specs.Spelling.{IsBehind, EatsSpelling, HoldsNumber, SpellsNothing, ReadsNumber}
use Rattle.wire_buf.specs.SpellingLemmas.{IsPrefixFree, same_parts}
use Rattle.wire_buf.specs.Lenenc.{IsLenenc, IsLenencOrMark}

-- how many bytes stand after a first byte
abbrev pub count_behind : ℕ → ℕ
count_behind first =
    if nat_eq first 0xfc then 2 else
    (if nat_eq first 0xfd then 3 else (if nat_eq first 0xfe then 8 else 0))

-- and what they spell together
abbrev pub number_behind : ℕ → List ℕ → ℕ
number_behind first rest =
    if nat_eq first 0xfc then le_number rest
    else (if nat_eq first 0xfd then le_number rest
    else (if nat_eq first 0xfe then le_number rest
    else (if nat_eq first 0xfb then 0 else (if nat_eq first 0xff then 0 else first))))

-- a spelling by its first byte
abbrev pub ByFirst : ℕ → List ℕ → Type 0
ByFirst n bytes = (first : ℕ) × (rest : List ℕ) × (bytes ≡ first ∷ rest)
    × (length rest ≡ count_behind first) × (n ≡ number_behind first rest)

by_low : (n : ℕ) (bytes : List ℕ) → bytes ≡ n ∷ [] → n < 251 → ByFirst n bytes
by_low n bytes is low =
    let a = ne_eqb n 0xfc (λ e. omega arith) in
    let b = ne_eqb n 0xfd (λ e. omega arith) in
    let c = ne_eqb n 0xfe (λ e. omega arith) in
    let d = ne_eqb n 0xfb (λ e. omega arith) in
    let f = ne_eqb n 0xff (λ e. omega arith) in
    (n, [], is, rw (a, b, c) refl, rw (a, b, c, d, f) refl)

pub by_first : (n : ℕ) (bytes : List ℕ) → IsLenencOrMark n bytes → ByFirst n bytes
by_first n bytes (inl (inl (is, low))) = by_low n bytes is low
by_first n bytes (inl (inr (inl (rest, is, len, value)))) = (0xfc, rest, is, len, value)
by_first n bytes (inl (inr (inr (inl (rest, is, len, value))))) = (0xfd, rest, is, len, value)
by_first n bytes (inl (inr (inr (inr (rest, is, len, value))))) = (0xfe, rest, is, len, value)
by_first n bytes (inr (zero_is, inl is)) = (0xfb, [], is, refl, zero_is)
by_first n bytes (inr (zero_is, inr is)) = (0xff, [], is, refl, zero_is)

-- two of one list
same_first : (f g : ℕ) (r s a b x y : List ℕ) → a ≡ f ∷ r → b ≡ g ∷ s → a ++ x ≡ b ++ y
    → (f ≡ g) × (r ++ x ≡ s ++ y)
same_first f g r s a b x y left right whole =
    let e : f ∷ (r ++ x) ≡ g ∷ (s ++ y) =
    sym (ap (λ l. l ++ x) left) ∙ whole ∙ ap (λ l. l ++ y) right in
    (cc e, cc e)

pub IsLenencOrMark-free : IsPrefixFree IsLenencOrMark
IsLenencOrMark-free n m a b x y is_a is_b whole =
    let (f, r, left, r_len, r_value) = by_first n a is_a in
    let (g, s, right, s_len, s_value) = by_first m b is_b in
    let heads = same_first f g r s a b x y left right whole in
    let tails = same_parts r s x y heads.1 (r_len ∙ ap count_behind heads.0 ∙ sym s_len) in (
      r_value ∙ ap (λ h. number_behind h r) heads.0 ∙ ap (number_behind g) tails.0 ∙ sym s_value,
      tails.1,
    )

pub IsLenenc-free : IsPrefixFree IsLenenc
IsLenenc-free n m a b x y is_a is_b whole =
    IsLenencOrMark-free n m a b x y (inl is_a) (inl is_b) whole

-- ---- by a reader

pub nothing_in-nil : SpellsNothing IsLenencOrMark []
nothing_in-nil n rest (spelling, is, whole) =
    let (f, r, left, _, _) = by_first n spelling is in
    let e : [] ≡ f ∷ (r ++ rest) = whole ∙ ap (λ l. l ++ rest) left in
    cc e

-- too few bytes stand after the first
pub nothing_in_short : (first : ℕ) (mid : List ℕ) → length mid < count_behind first
    → SpellsNothing IsLenencOrMark (first ∷ mid)
nothing_in_short first mid short n rest (spelling, is, whole) =
    let (f, r, left, len, _) = by_first n spelling is in
    let e : first ∷ mid ≡ f ∷ (r ++ rest) = whole ∙ ap (λ l. l ++ rest) left in
    let same : first ≡ f = cc e in
    let parts : mid ≡ r ++ rest = cc e in
    let more : length mid ≡ length r + length rest = ap length parts ∙ length-append r rest in
    omega (arith, short, more, len, ap count_behind same)

-- an integer after its first byte
pub reads_behind : (first count : ℕ) (old mid : List ℕ) (answer : Option ℕ) (new : List ℕ)
    → old ≡ first ∷ mid
    → count_behind first ≡ count
    → ((n : ℕ) (bytes : List ℕ) → IsBehind first count n bytes → IsLenenc n bytes)
    → EatsIfThere count le_number mid answer new → ReadsNumber IsLenencOrMark 1 old answer new
reads_behind first count old mid None new whole behind form (short, kept) = (
  subst (SpellsNothing IsLenencOrMark) (sym whole)
      (nothing_in_short first mid (omega (arith, short, behind))),
  kept ∙ sym (ap (drop 1) whole),
)
reads_behind first count old mid (Some n) new whole behind form (there, value, left) = (
  first ∷ take count mid,
  inl (form n (first ∷ take count mid)
      (take count mid, refl, length-take-le count mid there, value)),
  whole ∙ ap (λ l. first ∷ l)
      (sym (ap (λ l. take count mid ++ l) left ∙ take-append-drop count mid)),
)

-- the first byte, and what is left
pub first_byte : (old : List ℕ) (byte : ℕ) (mid : List ℕ)
    → EatsIfThere 1 le_number old (Some byte) mid → old ≡ byte ∷ mid
first_byte [] byte mid (there, value, left) = absurd (omega arith)
first_byte (x ∷ xs) byte mid (there, value, left) =
    let same : byte ≡ x = omega (arith, value) in
    λ j. sym same j ∷ sym left j

-- an integer of one byte
pub reads_byte : (old : List ℕ) (byte : ℕ) (new : List ℕ) → old ≡ byte ∷ new → byte < 251
    → EatsSpelling IsLenencOrMark old byte new
reads_byte old byte new whole low = (byte ∷ [], inl (inl (refl, low)), whole)

-- a byte that begins none
pub reads_mark : (old : List ℕ) (byte : ℕ) (new : List ℕ) → old ≡ byte ∷ new
    → (byte ≡ 0xfb) ⊎ (byte ≡ 0xff) → EatsSpelling IsLenencOrMark old 0 new
reads_mark old byte new whole (inl mark) =
    (byte ∷ [], inr (refl, inl (ap (λ b. b ∷ []) mark)), whole)
reads_mark old byte new whole (inr mark) =
    (byte ∷ [], inr (refl, inr (ap (λ b. b ∷ []) mark)), whole)

-- ---- by a reader that knows an integer to be there

pub there_behind : (first : ℕ) (mid : List ℕ) → HoldsNumber IsLenencOrMark (first ∷ mid)
    → count_behind first ≤ length mid
there_behind first mid (n, rest, (spelling, is, whole)) =
    let (f, r, left, len, _) = by_first n spelling is in
    let e : first ∷ mid ≡ f ∷ (r ++ rest) = whole ∙ ap (λ l. l ++ rest) left in
    let same : first ≡ f = cc e in
    let parts : mid ≡ r ++ rest = cc e in
    omega (arith, ap length parts, length-append r rest, len, ap count_behind same)

pub eaten_byte : (old : List ℕ) (byte : ℕ) (mid : List ℕ) → HoldsNumber IsLenencOrMark old
    → Eats 1 le_number old byte mid → old ≡ byte ∷ mid
eaten_byte [] byte mid (n, rest, read) eaten = absurd (nothing_in-nil n rest read)
eaten_byte (x ∷ xs) byte mid holds (value, left) =
    first_byte (x ∷ xs) byte mid (omega arith, value, left)

pub eats_behind : (first count : ℕ) (old mid : List ℕ) (n : ℕ) (new : List ℕ)
    → HoldsNumber IsLenencOrMark old → old ≡ first ∷ mid
    → count_behind first ≡ count
    → ((n : ℕ) (bytes : List ℕ) → IsBehind first count n bytes → IsLenenc n bytes)
    → Eats count le_number mid n new → EatsSpelling IsLenencOrMark old n new
eats_behind first count old mid n new holds whole behind form (value, left) =
    let there = there_behind first mid (subst (HoldsNumber IsLenencOrMark) whole holds) in
    reads_behind first count old mid (Some n) new whole behind form
    (omega (arith, there, behind), value, left)

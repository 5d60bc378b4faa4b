-- Numbers in groups of seven bits are read back, and from the fewest bytes.
use Rattle.std.proofs.Common.{◌≡◌, ◌≤◌, ◌<◌, ℕ, zero, suc, ◌+◌, ◌*◌, ◌/◌, ◌%◌, ◌^◌, List, [], ◌∷◌, ◌++◌, length, Result, Ok, Err, inl, inr, refl, sym, ap, subst, ◌∙◌, arith}
use Rattle.std.proofs.Math.Nat.{pow-succ', pow-le-pow_right, mul-le-mul_right}
use Rattle.std.proofs.lemmas.Bool.{cases_lt, lt-ltb, le-ltb}
use Rattle.std.proofs.lemmas.List.{length-append, append_assoc}
use Rattle.wire_buf.specs.declared.error.WireError.{WireError}
use Rattle.wire_buf.specs.Numbers.{IsBytes}
use Rattle.wire_buf.specs.NumberLemmas.{IsBytes-nil, IsBytes-cons}
use Rattle.wire_buf.specs.Spelling.{IsShortest}
use Rattle.wire_buf.specs.SpellingLemmas.{IsPrefixFree, EatsSpelling-same, IsSpelling-from}
use Rattle.wire_forms.specs.Groups.{groups_number, GoOn, IsWhole, IsGroups, ReadsGroups, groups_within, groups_bytes}
use Rattle.wire_buf.specs.Reading.{Reads, Answers}
use Rattle.wire_forms.specs.Spelled.{Leaves, TellsBack, Leaves-back, Reads-left}

-- a byte without the high bit ends them, so at most one front of any bytes is whole
split_same : (f g : ℕ) (r s : List ℕ) → f ∷ r ≡ g ∷ s → (f ≡ g) × (r ≡ s)
split_same f g r s e = (cc e, cc e)

pub whole_same : (front other : List ℕ) (last end : ℕ) (x y : List ℕ) → GoOn front → last < 128
    → GoOn other → end < 128
    → front ++ last ∷ x ≡ other ++ end ∷ y → (front ++ last ∷ [] ≡ other ++ end ∷ []) × (x ≡ y)
whole_same [] [] last end x y go low on small e =
    let same = split_same last end x y e in
    (ap (λ b. b ∷ []) same.0, same.1)
whole_same [] (b ∷ other) last end x y go low on small e =
    let same = split_same last b x (other ++ end ∷ y) e in
    absurd (omega (arith, same.0, on.0, low))
whole_same (a ∷ front) [] last end x y go low on small e =
    let same = split_same a end (front ++ last ∷ x) y e in
    absurd (omega (arith, same.0, go.0, small))
whole_same (a ∷ front) (b ∷ other) last end x y go low on small e =
    let same = split_same a b (front ++ last ∷ x) (other ++ end ∷ y) e in
    let more = whole_same front other last end x y go.1 low on.1 small same.1 in
    (λ j. same.0 j ∷ more.0 j, more.1)

-- bytes that go on hold no whole front
pub never_whole : (front : List ℕ) (last : ℕ) (x bytes rest : List ℕ) → last < 128 → GoOn bytes
    → front ++ last ∷ x ≡ bytes ++ rest → length front < length bytes → ⊥
never_whole [] last x [] rest low on e few = omega (arith, few)
never_whole [] last x (b ∷ bytes) rest low on e few =
    let same = split_same last b x (bytes ++ rest) e in
    omega (arith, same.0, on.0, low)
never_whole (a ∷ front) last x [] rest low on e few = omega (arith, few)
never_whole (a ∷ front) last x (b ∷ bytes) rest low on e few =
    let same = split_same a b (front ++ last ∷ x) (bytes ++ rest) e in
    never_whole front last x bytes rest low on.1 same.1 (omega (arith, few))

-- a whole number and what follows it
unfold_whole : (bytes front : List ℕ) (last : ℕ) (x : List ℕ) → bytes ≡ front ++ last ∷ []
    → bytes ++ x ≡ front ++ last ∷ x
unfold_whole bytes front last x is = ap (λ b. b ++ x) is ∙ append_assoc front (last ∷ []) x

pub IsWhole-same : (a b x y : List ℕ) → IsWhole a → IsWhole b → a ++ x ≡ b ++ y → (a ≡ b) × (x ≡ y)
IsWhole-same a b x y (front, last, is, go, low) (other, end, has, on, small) e =
    let same = whole_same front other last end x y go low on small
    (sym (unfold_whole a front last x is) ∙ e ∙ unfold_whole b other end y has) in
    (is ∙ same.0 ∙ sym has, same.1)

pub IsGroups-free : IsPrefixFree IsGroups
IsGroups-free n m a b x y is_a is_b whole =
    let same = IsWhole-same a b x y is_a.0 is_b.0 whole in
    (is_a.2 ∙ ap groups_number same.0 ∙ sym is_b.2, same.1)

-- what is read of a spelling, whatever follows it
pub ReadsGroups-back : (n : ℕ) (bytes : List ℕ) → IsGroups n bytes → TellsBack ReadsGroups bytes n
ReadsGroups-back n bytes is rest (Ok m) new told =
    let same = EatsSpelling-same IsGroups IsGroups-free (bytes ++ rest) m n new rest told
    (bytes, is, refl) in
    (ap Ok same.0, same.1)
ReadsGroups-back n bytes ((front, last, form, go, low), few, value, small) rest (Err error) new
    (eaten, parts, inl (_, on, len)) =
    let long : length bytes ≡ length front + 1 = ap length form ∙ length-append front (last ∷ []) in
    absurd (never_whole front last rest eaten new low on
    (sym (unfold_whole bytes front last rest form) ∙ parts) (omega (arith, few, len, long)))
ReadsGroups-back n bytes (whole, few, value, small) rest (Err error) new
    (eaten, parts, inr (inl (_, is, _, large))) =
    let same = IsWhole-same bytes eaten rest new whole is parts in
    absurd (omega (arith, large, value, small, ap groups_number same.0))
ReadsGroups-back n bytes ((front, last, form, go, low), few, value, small) rest (Err error) new
    (eaten, parts, inr (inr (_, on, len, none))) =
    let long : length bytes ≡ length front + 1 = ap length form ∙ length-append front (last ∷ []) in
    let all : length bytes + length rest ≡ length eaten + length new =
    sym (length-append bytes rest) ∙ ap length parts ∙ length-append eaten new in
    let left : length new ≡ 0 = ap length none in
    absurd (never_whole front last rest eaten new low on
    (sym (unfold_whole bytes front last rest form) ∙ parts) (omega (arith, all, left, long)))

-- ---- what is written

pub groups_within-whole : (more n : ℕ) → n < 128 ^ suc more
    → IsWhole (groups_within more n) × (groups_number (groups_within more n) ≡ n)
    × (length (groups_within more n) ≤ suc more) × IsBytes (groups_within more n)
groups_within-whole zero n fits =
    let low : n < 128 = omega (arith, fits) in
    (([], n, refl, tt, low), omega arith, omega arith, IsBytes-cons n [] (omega arith) IsBytes-nil)
groups_within-whole (suc more) n fits = elim (cases_lt n 128) [
  | inl low ↦ rw (lt-ltb n 128 low) (
    ([], n, refl, tt, low),
    omega arith,
    omega arith,
    IsBytes-cons n [] (omega arith) IsBytes-nil,
  )
  | inr high ↦
      let next : n / 128 < 128 ^ suc more = omega (arith, fits, pow-succ' 128 (suc more)) in
      let ((front, last, form, go, small), value, len, bytes) =
      groups_within-whole more (n / 128) next in
      rw (le-ltb n 128 high) (
        (
          (128 + n % 128) ∷ front,
          last,
          ap (λ b. (128 + n % 128) ∷ b) form,
          (omega arith, go),
          small,
        ),
        omega (arith, value),
        omega (arith, len),
        IsBytes-cons (128 + n % 128) (groups_within more (n / 128)) (omega arith) bytes,
      )
]

pub groups_bytes-is : (n : ℕ) → n < 2 ^ 32 → IsGroups n (groups_bytes n)
groups_bytes-is n fits =
    let (whole, value, len, _) = groups_within-whole 4 n (omega arith) in
    (whole, len, sym value, omega arith)

-- no whole number has fewer bytes
pub groups_within-fewest : (more n : ℕ) (front : List ℕ) (last : ℕ)
    → n ≡ groups_number (front ++ last ∷ [])
    → length (groups_within more n) ≤ length (front ++ last ∷ [])
groups_within-fewest zero n front last value = omega (arith, length-append front (last ∷ []))
groups_within-fewest (suc more) n [] last value =
    let low : n < 128 = omega (arith, value) in
    rw (lt-ltb n 128 low) (omega arith)
groups_within-fewest (suc more) n (byte ∷ front) last value = elim (cases_lt n 128) [
  | inl low ↦ rw (lt-ltb n 128 low) (omega arith)
  | inr high ↦
      let next : n / 128 ≡ groups_number (front ++ last ∷ []) = omega (arith, value) in
      let few = groups_within-fewest more (n / 128) front last next in
      rw (le-ltb n 128 high) (omega (arith, few))
]

pub groups_bytes-shortest : (n : ℕ) → n < 2 ^ 32 → IsShortest IsGroups n (groups_bytes n)
groups_bytes-shortest n fits =
    let (_, _, _, bytes) = groups_within-whole 4 n (omega arith) in (
      bytes,
      IsSpelling-from IsGroups IsGroups-free n (groups_bytes n) (groups_bytes-is n fits),
      λ other are is. (let (front, last, form, _, _) = is.0 in
          subst (λ b. length (groups_bytes n) ≤ length b) (sym form)
          (groups_within-fewest 4 n front last (is.2 ∙ ap groups_number form))),
    )

pub groups_bytes-told : (val : ℕ) → val < 2 ^ 32 → TellsBack ReadsGroups (groups_bytes val) val
groups_bytes-told val value = ReadsGroups-back val (groups_bytes val) (groups_bytes-is val value)

pub groups_bytes-back : (val : ℕ) (rest : List ℕ) → val < 2 ^ 32
    → (answer : Result ℕ WireError) (eaten : ℕ)
    → Leaves ReadsGroups (groups_bytes val ++ rest) answer eaten
    → Answers (Ok val, length (groups_bytes val)) answer eaten
groups_bytes-back val rest value =
    Leaves-back ReadsGroups (groups_bytes val) val (groups_bytes-told val value) rest

-- a reader that tells this of a number has read it so
pub ReadsGroups-left : (old : List ℕ) (answer : Result ℕ WireError) (new : List ℕ)
    → ReadsGroups old answer new → Reads (Leaves ReadsGroups) old answer new
ReadsGroups-left old (Ok n) new told = Reads-left ReadsGroups old (Ok n) new told.0 told.2 told
ReadsGroups-left old (Err error) new told =
    Reads-left ReadsGroups old (Err error) new told.0 told.1 told

-- ---- by a reader

-- one byte more
pub groups_number-append : (front : List ℕ) (last : ℕ)
    → groups_number (front ++ last ∷ []) ≡ groups_number front + last % 128 * 128 ^ length front
groups_number-append [] last = omega arith
groups_number-append (byte ∷ front) last =
    let more = groups_number-append front last in
    rw (more, pow-succ' 128 (length front)) (omega arith)

pub GoOn-append : (front : List ℕ) (last : ℕ) → GoOn front → 128 ≤ last → GoOn (front ++ last ∷ [])
GoOn-append [] last on high = (high, tt)
GoOn-append (byte ∷ front) last on high = (on.0, GoOn-append front last on.1 high)

-- this many bytes were read, and none is the last
abbrev pub SoFar : List ℕ → ℕ → ℕ → List ℕ → Type 0
SoFar old place number new = (front : List ℕ) × (old ≡ front ++ new) × GoOn front
    × (length front ≡ place) × (number ≡ groups_number front)

-- what the next group adds is below the next weight
pub bounded : (place weight number byte : ℕ) → place < 5 → weight ≡ 128 ^ place → number < weight
    → (weight ≤ 128 ^ 4) × (number + byte % 128 * weight < 128 * weight)
bounded place weight number byte few is low =
    let most : 128 ^ place ≤ 128 ^ 4 =
    pow-le-pow_right {n = 128} (omega arith) {i = place} {j = 4} (omega (arith, few)) in
    let part : byte % 128 * weight ≤ 127 * weight =
    mul-le-mul_right {m = byte % 128} {n = 127} weight (omega arith) in
    (omega (arith, is, most), omega (arith, low, part))

next_value : (front : List ℕ) (place number weight byte : ℕ) → length front ≡ place
    → number ≡ groups_number front → weight ≡ 128 ^ place
    → number + byte % 128 * weight ≡ groups_number (front ++ byte ∷ [])
next_value front place number weight byte len value is =
    ap (λ n. n + byte % 128 * weight) value
    ∙ ap (λ w. groups_number front + byte % 128 * w) (is ∙ ap (λ k. 128 ^ k) (sym len))
    ∙ sym (groups_number-append front byte)

next_whole : (old front mid new : List ℕ) (byte : ℕ) → old ≡ front ++ mid → mid ≡ byte ∷ new
    → old ≡ (front ++ byte ∷ []) ++ new
next_whole old front mid new byte whole head =
    whole ∙ ap (λ l. front ++ l) head ∙ sym (append_assoc front (byte ∷ []) new)

-- another byte, and it goes on
pub SoFar-more : (old : List ℕ) (place number weight byte : ℕ) (mid new : List ℕ)
    → SoFar old place number mid → weight ≡ 128 ^ place → mid ≡ byte ∷ new → 128 ≤ byte
    → SoFar old (place + 1) (number + byte % 128 * weight) new
SoFar-more old place number weight byte mid new (front, whole, on, len, value) is head high = (
  front ++ byte ∷ [],
  next_whole old front mid new byte whole head,
  GoOn-append front byte on high,
  length-append front (byte ∷ []) ∙ ap (λ n. n + 1) len,
  next_value front place number weight byte len value is,
)

-- or it is the last
pub SoFar-last : (old : List ℕ) (place number weight byte : ℕ) (mid new : List ℕ)
    → SoFar old place number mid → weight ≡ 128 ^ place → mid ≡ byte ∷ new → byte < 128 → place < 5
    → (eaten : List ℕ) × (old ≡ eaten ++ new) × IsWhole eaten × (length eaten ≤ 5)
    × (number + byte % 128 * weight ≡ groups_number eaten)
SoFar-last old place number weight byte mid new (front, whole, on, len, value) is head low few = (
  front ++ byte ∷ [],
  next_whole old front mid new byte whole head,
  (front, byte, refl, on, low),
  omega (arith, length-append front (byte ∷ []), len, few),
  next_value front place number weight byte len value is,
)

pub next_weight : (place weight : ℕ) → weight ≡ 128 ^ place → weight * 128 ≡ 128 ^ (place + 1)
next_weight place weight is =
    let next : place + 1 ≡ suc place = omega arith in
    let power : 128 ^ (place + 1) ≡ 128 ^ suc place = ap (λ k. 128 ^ k) next in
    omega (arith, is, power, pow-succ' 128 place)

-- The spelling of a length-encoded integer that is written, and that none is shorter.
use Rattle.std.proofs.Common.{◌≡◌, ◌≤◌, ◌<◌, ℕ, suc, ◌+◌, ◌^◌, List, [], length, inl, inr, refl, sym, ap, ◌∙◌, arith, nat_lt, slice_index, if◌then◌else◌}
use Rattle.std.proofs.lemmas.Bool.{cases_lt, lt-ltb, le-ltb}
use Rattle.wire_buf.specs.Numbers.{le_bytes, IsBytes}
use Rattle.wire_buf.specs.NumberLemmas.{length-le_bytes, le_number-le_bytes_fits, le_number-lt, IsBytes-nil, IsBytes-cons, IsBytes-le_bytes}
use Rattle.wire_buf.specs.Spelling.{IsBehind, IsShortest}
use Rattle.wire_buf.specs.SpellingLemmas.{IsSpelling-from}
use Rattle.wire_buf.specs.Lenenc.{IsLenenc, IsLenencOrMark, lenenc_bytes}
use Rattle.wire_buf.specs.LenencLemmas.{IsLenenc-free, IsLenencOrMark-free}

-- it is a spelling
pub lenenc_bytes-is : (n : ℕ) → n < 2 ^ 64 → IsLenenc n (lenenc_bytes n)
lenenc_bytes-is n fits = elim (cases_lt n 251) [
  | inl a ↦ rw (lt-ltb n 251 a) (inl (refl, a))
  | inr a ↦ elim (cases_lt n (256 ^ 2)) [
    | inl b ↦ rw (le-ltb n 251 a, lt-ltb n (256 ^ 2) b)
        (inr (inl (le_bytes 2 n, refl, length-le_bytes 2 n, sym (le_number-le_bytes_fits 2 n b))))
    | inr b ↦ elim (cases_lt n (256 ^ 3)) [
      | inl c ↦ rw (le-ltb n 251 a, le-ltb n (256 ^ 2) b, lt-ltb n (256 ^ 3) c)
          (inr (inr
          (inl (le_bytes 3 n, refl, length-le_bytes 3 n, sym (le_number-le_bytes_fits 3 n c)))))
      | inr c ↦ rw (le-ltb n 251 a, le-ltb n (256 ^ 2) b, le-ltb n (256 ^ 3) c)
          (inr (inr
          (inr (le_bytes 8 n, refl, length-le_bytes 8 n, sym (le_number-le_bytes_fits 8 n fits)))))
    ]
  ]
]

-- of this many bytes
pub length-lenenc_bytes : (n : ℕ)
    → length (lenenc_bytes n)
    ≡ (if nat_lt n 251 then 1 else
    (if nat_lt n (256 ^ 2) then 3 else (if nat_lt n (256 ^ 3) then 4 else 9)))
length-lenenc_bytes n = elim (cases_lt n 251) [
  | inl a ↦ rw (lt-ltb n 251 a) refl
  | inr a ↦ elim (cases_lt n (256 ^ 2)) [
    | inl b ↦ rw (le-ltb n 251 a, lt-ltb n (256 ^ 2) b) refl
    | inr b ↦ elim (cases_lt n (256 ^ 3)) [
      | inl c ↦ rw (le-ltb n 251 a, le-ltb n (256 ^ 2) b, lt-ltb n (256 ^ 3) c) refl
      | inr c ↦ rw (le-ltb n 251 a, le-ltb n (256 ^ 2) b, le-ltb n (256 ^ 3) c) refl
    ]
  ]
]

IsBytes-lenenc_bytes : (n : ℕ) → IsBytes (lenenc_bytes n)
IsBytes-lenenc_bytes n = elim (cases_lt n 251) [
  | inl a ↦ rw (lt-ltb n 251 a) (IsBytes-cons n [] (omega arith) IsBytes-nil)
  | inr a ↦ elim (cases_lt n (256 ^ 2)) [
    | inl b ↦ rw (le-ltb n 251 a, lt-ltb n (256 ^ 2) b)
        (IsBytes-cons 0xfc (le_bytes 2 n) (omega arith) (IsBytes-le_bytes 2 n))
    | inr b ↦ elim (cases_lt n (256 ^ 3)) [
      | inl c ↦ rw (le-ltb n 251 a, le-ltb n (256 ^ 2) b, lt-ltb n (256 ^ 3) c)
          (IsBytes-cons 0xfd (le_bytes 3 n) (omega arith) (IsBytes-le_bytes 3 n))
      | inr c ↦ rw (le-ltb n 251 a, le-ltb n (256 ^ 2) b, le-ltb n (256 ^ 3) c)
          (IsBytes-cons 0xfe (le_bytes 8 n) (omega arith) (IsBytes-le_bytes 8 n))
    ]
  ]
]

-- this many bytes after a first one hold no larger number
behind_below : (first count n : ℕ) (bytes : List ℕ) → IsBytes bytes → IsBehind first count n bytes
    → (length bytes ≡ 1 + count) × (n < 256 ^ count)
behind_below first count n bytes are (rest, is, len, value) =
    let rest_are : IsBytes rest = λ i.
    (let byte = are (suc i) in let same : slice_index bytes (suc i) ≡ slice_index rest i =
    ap (λ l. slice_index l (suc i)) is in omega arith) in
    let below = le_number-lt rest rest_are in
    (ap length is ∙ omega (arith, len), omega (arith, value, below, ap (λ k. 256 ^ k) len))

at_most : (n most : ℕ) → (n < 251 → 1 ≤ most) → (n < 256 ^ 2 → 251 ≤ n → 3 ≤ most)
    → (n < 256 ^ 3 → 256 ^ 2 ≤ n → 4 ≤ most) → (256 ^ 3 ≤ n → 9 ≤ most)
    → length (lenenc_bytes n) ≤ most
at_most n most one three four nine = elim (cases_lt n 251) [
  | inl a ↦ let few = one a in rw (length-lenenc_bytes n, lt-ltb n 251 a) few
  | inr a ↦ elim (cases_lt n (256 ^ 2)) [
    | inl b ↦ let few = three b a in
        rw (length-lenenc_bytes n, le-ltb n 251 a, lt-ltb n (256 ^ 2) b) few
    | inr b ↦ elim (cases_lt n (256 ^ 3)) [
      | inl c ↦ let few = four c b in
          rw (length-lenenc_bytes n, le-ltb n 251 a, le-ltb n (256 ^ 2) b, lt-ltb n (256 ^ 3) c) few
      | inr c ↦ let few = nine c in rw
          (length-lenenc_bytes n, le-ltb n 251 a, le-ltb n (256 ^ 2) b, le-ltb n (256 ^ 3) c) few
    ]
  ]
]

-- no spelling has fewer
fewest : (n : ℕ) (other : List ℕ) → IsBytes other → IsLenencOrMark n other
    → length (lenenc_bytes n) ≤ length other
fewest n other are (inl (inl (is, low))) =
    at_most n (length other) (λ _. omega (arith, ap length is)) (λ _ high. omega (arith, low, high))
    (λ _ high. omega (arith, low, high)) (λ high. omega (arith, low, high))
fewest n other are (inl (inr (inl form))) =
    let (len, below) = behind_below 0xfc 2 n other are form in
    at_most n (length other) (λ _. omega (arith, len)) (λ _ _. omega (arith, len))
    (λ _ high. omega (arith, below, high)) (λ high. omega (arith, below, high))
fewest n other are (inl (inr (inr (inl form)))) =
    let (len, below) = behind_below 0xfd 3 n other are form in
    at_most n (length other) (λ _. omega (arith, len)) (λ _ _. omega (arith, len))
    (λ _ _. omega (arith, len)) (λ high. omega (arith, below, high))
fewest n other are (inl (inr (inr (inr form)))) =
    let (len, below) = behind_below 0xfe 8 n other are form in
    at_most n (length other) (λ _. omega (arith, len)) (λ _ _. omega (arith, len))
    (λ _ _. omega (arith, len)) (λ _. omega (arith, len))
fewest n other are (inr (zero_is, inl is)) =
    at_most n (length other) (λ _. omega (arith, ap length is))
    (λ _ high. omega (arith, zero_is, high)) (λ _ high. omega (arith, zero_is, high))
    (λ high. omega (arith, zero_is, high))
fewest n other are (inr (zero_is, inr is)) =
    at_most n (length other) (λ _. omega (arith, ap length is))
    (λ _ high. omega (arith, zero_is, high)) (λ _ high. omega (arith, zero_is, high))
    (λ high. omega (arith, zero_is, high))

-- what is written is read back from whatever follows it, and is shortest for both kinds of readers
pub lenenc_bytes-shortest : (n : ℕ) → n < 2 ^ 64 → IsShortest IsLenenc n (lenenc_bytes n)
lenenc_bytes-shortest n fits = (
  IsBytes-lenenc_bytes n,
  IsSpelling-from IsLenenc IsLenenc-free n (lenenc_bytes n)
      (lenenc_bytes-is n fits),
  λ other are is. fewest n other are (inl is),
)

pub lenenc_bytes-shortest_in_a_buffer : (n : ℕ) → n < 2 ^ 64
    → IsShortest IsLenencOrMark n (lenenc_bytes n)
lenenc_bytes-shortest_in_a_buffer n fits = (
  IsBytes-lenenc_bytes n,
  IsSpelling-from IsLenencOrMark IsLenencOrMark-free n (lenenc_bytes n)
      (inl (lenenc_bytes-is n fits)),
  λ other are is. fewest n other are is,
)

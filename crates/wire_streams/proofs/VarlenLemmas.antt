-- Integers of the serialization library are read back, and from the fewest bytes.
use Rattle.std.proofs.Common.{◌≡◌, ◌≤◌, ◌<◌, ℕ, zero, suc, ◌+◌, ◌-◌, ◌*◌, ◌/◌, ◌%◌, ◌^◌, List, [], ◌∷◌, ◌++◌, length, take, drop, min, max, bit_or, inl, inr, refl, sym, ap, subst, ◌∙◌, arith}
use Rattle.std.proofs.Math.Nat.{pow-suc, pow-le-pow_right, mul-le-mul_right, lt_of_mul-lt-mul_right}
use Rattle.std.proofs.lemmas.Bool.{cases_eq, ne_eqb, cases_lt}
use Rattle.std.proofs.lemmas.List.{length-append, length-take-le, take_all}
use Rattle.std.proofs.lemmas.Nat.{pow_pos, pow-add, shr_high, shl_whole, one_shl, or_shifted}
use Rattle.std.specs.Int.{div_ceil}
use Rattle.byteorder.specs.Endian.{little_from}
use Rattle.byteorder.proofs.Bytes.{pow256}
use Rattle.wire_buf.specs.Numbers.{le_number, le_bytes, IsBytes}
use Rattle.wire_buf.specs.NumberLemmas.{little_from-is, length-le_bytes, le_number-le_bytes_fits, le_number-lt, IsBytes-cons, IsBytes-le_bytes}
use Rattle.wire_buf.specs.Spelling.{SpellsNothing, IsShortest}
use Rattle.wire_buf.specs.SpellingLemmas.{IsPrefixFree, IsSpelling-from, same_parts}
use Rattle.wire_streams.specs.Varlen.{IsVarlenUint, IsMark, IsMarked, IsVarlenSize, varlen_bytes}
use Rattle.wire_streams.proofs.MarkLemmas.{IsMark-same, IsMark-number, IsMark-byte, number_over-mark}

-- this many bits are held by this many bytes
pub IsVarlenSize-from_bits : (value bits size : ℕ) → value < 2 ^ bits → 2 ^ bits ≤ 2 * value + 1
    → size ≡ max 1 (min (div_ceil bits 7) 9) → IsVarlenSize value size
IsVarlenSize-from_bits value bits size above below is = record {
  low = omega (arith, is);
  high = omega (arith, is);
  holds = λ few.
      let more : 2 ^ bits ≤ 2 ^ (7 * size) =
      pow-le-pow_right (omega arith) (omega (arith, is, few)) in
      omega (arith, above, more);
  needed = λ many.
      let place : suc (7 * (size - 1)) ≤ bits = omega (arith, is, many) in
      let more : 2 ^ suc (7 * (size - 1)) ≤ 2 ^ bits = pow-le-pow_right (omega arith) place in
      let double : 2 ^ suc (7 * (size - 1)) ≡ 2 ^ (7 * (size - 1)) * 2 =
      pow-suc 2 (7 * (size - 1)) in
      omega (arith, below, more, double);
}

-- the first byte of a spelling says how long it is
abbrev ByMark : List ℕ → Type 0
ByMark bytes = (first : ℕ) × (rest : List ℕ) × (bytes ≡ first ∷ rest) × (1 ≤ length bytes)
    × IsMark (length bytes) first

by_mark_below : (value : ℕ) (bytes : List ℕ) → 1 ≤ length bytes → length bytes ≤ 8
    → le_number bytes ≡ value * 2 ^ length bytes + (2 ^ (length bytes - 1) - 1) → ByMark bytes
by_mark_below value [] low high number = absurd (omega arith)
by_mark_below value (first ∷ rest) low high number =
    let count = length (first ∷ rest) in
    let mark : (first + 256 * le_number rest + 1) % 2 ^ count ≡ 2 ^ (count - 1) =
    ap (λ n. (n + 1) % 2 ^ count) number ∙ IsMark-number count value low in
    (first, rest, refl, low, sym (IsMark-byte count first (le_number rest) high) ∙ mark)

by_mark : (value : ℕ) (bytes : List ℕ) → IsVarlenUint value bytes → ByMark bytes
by_mark value bytes (inl (low, high, number)) = by_mark_below value bytes low high number
by_mark value bytes (inr (rest, is, len, number)) =
    let nine : length bytes ≡ 9 = ap length is ∙ omega (arith, len) in
    (255, rest, is, omega (arith, nine), subst (λ n. IsMark n 255) (sym nine) refl)

-- so two in one place are as long
same_length : (v w : ℕ) (a b x y : List ℕ) → IsVarlenUint v a → IsVarlenUint w b → a ++ x ≡ b ++ y
    → length a ≡ length b
same_length v w a b x y is_a is_b whole =
    let (f, r, left, low_a, mark_a) = by_mark v a is_a in
    let (g, s, right, low_b, mark_b) = by_mark w b is_b in
    let e : f ∷ (r ++ x) ≡ g ∷ (s ++ y) =
    sym (ap (λ l. l ++ x) left) ∙ whole ∙ ap (λ l. l ++ y) right in
    let same : g ≡ f = sym (cc e) in
    IsMark-same (length a) (length b) f low_a low_b mark_a (subst (IsMark (length b)) same mark_b)

-- and of one value
same_value : (v w : ℕ) (a b : List ℕ) → IsVarlenUint v a → IsVarlenUint w b → a ≡ b → v ≡ w
same_value v w a b (inl (low, high, left)) (inl (_, _, right)) same =
    let n = length a in
    let below = pow_pos (n - 1) in
    let half : 2 ^ (n - 1) ≤ 2 ^ n = pow-le-pow_right (omega arith) (omega arith) in
    let fits : 2 ^ (n - 1) - 1 < 2 ^ n = omega arith in
    let numbers : v * 2 ^ n + (2 ^ (n - 1) - 1) ≡ w * 2 ^ n + (2 ^ (n - 1) - 1) =
    sym left ∙ ap le_number same ∙ right
    ∙ ap (λ l. w * 2 ^ l + (2 ^ (l - 1) - 1)) (sym (ap length same)) in
    sym (shr_high v n (2 ^ (n - 1) - 1) fits) ∙ ap (λ m. m / 2 ^ n) numbers
    ∙ shr_high w n (2 ^ (n - 1) - 1) fits
same_value v w a b (inl (low, high, left)) (inr (rest, is, len, right)) same =
    absurd (omega (arith, high, ap length same, ap length is, len))
same_value v w a b (inr (rest, is, len, left)) (inl (low, high, right)) same =
    absurd (omega (arith, high, ap length same, ap length is, len))
same_value v w a b (inr (r, is_a, _, left)) (inr (s, is_b, _, right)) same =
    let e : 255 ∷ r ≡ 255 ∷ s = sym is_a ∙ same ∙ is_b in
    let parts : r ≡ s = cc e in
    left ∙ ap le_number parts ∙ sym right

pub IsVarlenUint-free : IsPrefixFree IsVarlenUint
IsVarlenUint-free v w a b x y is_a is_b whole =
    let same = same_parts a b x y whole (same_length v w a b x y is_a is_b whole) in
    (same_value v w a b is_a is_b same.0, same.1)

-- ---- by a reader

-- too few bytes
pub nothing_in_short : (size first : ℕ) (old mid : List ℕ) → old ≡ first ∷ mid → 1 ≤ size
    → IsMark size first → length old < size → SpellsNothing IsVarlenUint old
nothing_in_short size first old mid is low mark short v rest (spelling, spells, whole) =
    let (f, r, left, low_f, mark_f) = by_mark v spelling spells in
    let e : first ∷ mid ≡ f ∷ (r ++ rest) = sym is ∙ whole ∙ ap (λ l. l ++ rest) left in
    let same : f ≡ first = sym (cc e) in
    let len : length spelling ≡ size =
    IsMark-same (length spelling) size first low_f low
    (subst (IsMark (length spelling)) same mark_f) mark in
    omega (arith, len, short, ap length whole, length-append spelling rest)

pub nothing_in-nil : SpellsNothing IsVarlenUint []
nothing_in-nil v rest (spelling, spells, whole) =
    let (f, r, left, _, _) = by_mark v spelling spells in
    let e : [] ≡ f ∷ (r ++ rest) = whole ∙ ap (λ l. l ++ rest) left in
    cc e

-- enough bytes
pub IsMarked-take : (size first : ℕ) (old mid : List ℕ) → old ≡ first ∷ mid → 1 ≤ size
    → IsMark size first → size ≤ length old → IsMarked (take size old)
IsMarked-take zero first old mid is low mark there = absurd (omega arith)
IsMarked-take (suc size) first old mid is low mark there =
    let enough : size ≤ length mid = omega (arith, there, ap length is) in
    let len : length (first ∷ take size mid) ≡ suc size = ap suc (length-take-le size mid enough) in
    subst (λ l. IsMarked (take (suc size) l)) (sym is) (subst (λ n. IsMark n first) (sym len) mark)

-- eight of them after ff
ends_in_ones : (first : ℕ) → first < 256 → IsMark 9 first → first ≡ 255
ends_in_ones first small mark = omega arith

pub IsVarlenUint-marked_nine : (bytes : List ℕ) (number : ℕ) → IsBytes bytes → length bytes ≡ 9
    → IsMarked bytes → number ≡ little_from 0 8 (drop 1 bytes) → IsVarlenUint number bytes
IsVarlenUint-marked_nine [] number are len mark value = absurd (omega arith)
IsVarlenUint-marked_nine (first ∷ rest) number are len mark value =
    let eight : length rest ≡ 8 = omega (arith, len) in
    let nine : length (first ∷ rest) ≡ 9 = len in
    let last = ends_in_ones first (are 0) (subst (λ n. IsMark n first) nine mark) in
    let read : number ≡ le_number rest =
    value ∙ little_from-is 8 rest (omega (arith, eight))
    ∙ ap le_number (take_all 8 rest (omega (arith, eight))) in
    inr (rest, ap (λ b. b ∷ rest) last, eight, read)

-- or a mark and the value over it
pub IsVarlenUint-marked : (bytes : List ℕ) (number : ℕ) → length bytes ≤ 8 → IsMarked bytes
    → number ≡ little_from 0 (length bytes) bytes → IsVarlenUint (number / 2 ^ length bytes) bytes
IsVarlenUint-marked [] number high mark value = absurd mark
IsVarlenUint-marked (first ∷ rest) number high mark value =
    let size = length (first ∷ rest) in
    let read : number ≡ le_number (first ∷ rest) =
    value ∙ little_from-is size (first ∷ rest) (omega arith)
    ∙ ap le_number (take_all size (first ∷ rest) (omega arith)) in
    let whole : IsMark size (le_number (first ∷ rest)) =
    IsMark-byte size first (le_number rest) high ∙ mark in
    let over : le_number (first ∷ rest) ≡ number / 2 ^ size * 2 ^ size + (2 ^ (size - 1) - 1) =
    sym read ∙ number_over-mark size number (omega arith) (subst (IsMark size) (sym read) whole) in
    inl (omega arith, high, over)

-- ---- what is written

-- a value that this many bytes hold leaves room for its mark
number_fits : (size value : ℕ) → 1 ≤ size → value < 2 ^ (7 * size)
    → value * 2 ^ size + (2 ^ (size - 1) - 1) < 256 ^ size
number_fits size value low holds =
    let half : 2 ^ (size - 1) ≤ 2 ^ size = pow-le-pow_right (omega arith) (omega arith) in
    let some = pow_pos (size - 1) in
    let most : suc value * 2 ^ size ≤ 2 ^ (7 * size) * 2 ^ size =
    mul-le-mul_right (2 ^ size) holds in
    let expand : suc value * 2 ^ size ≡ value * 2 ^ size + 2 ^ size = omega arith in
    let place : 7 * size + size ≡ 8 * size = omega arith in
    let power : 2 ^ (7 * size) * 2 ^ size ≡ 256 ^ size =
    sym (pow-add 2 (7 * size) size) ∙ ap (λ e. 2 ^ e) place ∙ sym (pow256 size) in
    omega (arith, half, some, most, expand, power)

varlen_bytes-nine : (value : ℕ) → varlen_bytes 9 value ≡ 255 ∷ le_bytes 8 value
varlen_bytes-nine value = refl

pub varlen_bytes-below : (size value : ℕ) → size ≤ 8
    → varlen_bytes size value ≡ le_bytes size (value * 2 ^ size + (2 ^ (size - 1) - 1))
varlen_bytes-below size value high = rw (ne_eqb size 9 (λ e. omega (arith, e))) refl

-- at nine bytes, and below
IsVarlenUint-nine : (value : ℕ) → value < 2 ^ 64 → IsVarlenUint value (255 ∷ le_bytes 8 value)
IsVarlenUint-nine value fits =
    inr (
      le_bytes 8 value,
      refl,
      length-le_bytes 8 value,
      sym (le_number-le_bytes_fits 8 value fits),
    )

IsVarlenUint-below : (size value : ℕ) → 1 ≤ size → size ≤ 8 → value < 2 ^ (7 * size)
    → IsVarlenUint value (le_bytes size (value * 2 ^ size + (2 ^ (size - 1) - 1)))
IsVarlenUint-below size value low high holds =
    let number = value * 2 ^ size + (2 ^ (size - 1) - 1) in
    let len = length-le_bytes size number in
    inl (
      omega (arith, len, low),
      omega (arith, len, high),
      le_number-le_bytes_fits size number (number_fits size value low holds)
          ∙ ap (λ l. value * 2 ^ l + (2 ^ (l - 1) - 1)) (sym len),
    )

-- no spelling has fewer bytes
fewest : (size value : ℕ) (other : List ℕ) → IsVarlenSize value size → IsBytes other
    → IsVarlenUint value other → size ≤ length other
fewest size value other sized are (inr (rest, is, len, number)) =
    omega (arith, sized.high, ap length is, len)
fewest size value other sized are (inl (low, high, number)) =
    let n = length other in
    let below = le_number-lt other are in
    let place : 7 * n + n ≡ 8 * n = omega arith in
    let power : 256 ^ n ≡ 2 ^ (7 * n) * 2 ^ n =
    pow256 n ∙ sym (ap (λ e. 2 ^ e) place) ∙ pow-add 2 (7 * n) n in
    let over : value * 2 ^ n < 2 ^ (7 * n) * 2 ^ n = omega (arith, below, number, power) in
    let held : value < 2 ^ (7 * n) = lt_of_mul-lt-mul_right (2 ^ n) over in
    elim (cases_lt n size) [
      | inr enough ↦ enough
      | inl few ↦
          let more : 2 ^ (7 * n) ≤ 2 ^ (7 * (size - 1)) =
          pow-le-pow_right (omega arith) (omega arith) in
          let needed = sized.needed (omega arith) in
          absurd (omega (arith, held, more, needed))
    ]

shortest : (size value : ℕ) (bytes : List ℕ) → IsVarlenSize value size → IsBytes bytes
    → length bytes ≡ size → IsVarlenUint value bytes → IsShortest IsVarlenUint value bytes
shortest size value bytes sized are len is = (
  are,
  IsSpelling-from IsVarlenUint IsVarlenUint-free value bytes is,
  λ other other_are other_is. (let few = fewest size value other sized other_are other_is in
      omega (arith, few, len)),
)

pub varlen_bytes-shortest : (size value : ℕ) → value < 2 ^ 64 → IsVarlenSize value size
    → IsShortest IsVarlenUint value (varlen_bytes size value)
    × (length (varlen_bytes size value) ≡ size)
varlen_bytes-shortest size value fits sized = elim (cases_eq size 9) [
  | inl nine ↦
      let bytes = 255 ∷ le_bytes 8 value in
      let is : varlen_bytes size value ≡ bytes =
      ap (λ n. varlen_bytes n value) nine ∙ varlen_bytes-nine value in
      let len : length bytes ≡ size = omega (arith, length-le_bytes 8 value, nine) in (
        subst (IsShortest IsVarlenUint value) (sym is)
            (shortest size value bytes sized
            (IsBytes-cons 255 (le_bytes 8 value) (omega arith) (IsBytes-le_bytes 8 value)) len
            (IsVarlenUint-nine value fits)),
        ap length is ∙ len,
      )
  | inr other ↦
      let high : size ≤ 8 = omega (arith, sized.high, other) in
      let number = value * 2 ^ size + (2 ^ (size - 1) - 1) in
      let bytes = le_bytes size number in
      let is : varlen_bytes size value ≡ bytes = varlen_bytes-below size value high in
      let len : length bytes ≡ size = length-le_bytes size number in (
        subst (IsShortest IsVarlenUint value) (sym is)
            (shortest size value bytes sized (IsBytes-le_bytes size number) len
            (IsVarlenUint-below size value sized.low high (sized.holds high))),
        ap length is ∙ len,
      )
]

-- what the shifts make of a value
pub marked : (size value : ℕ) → 1 ≤ size → size ≤ 8 → value < 2 ^ (7 * size)
    → bit_or ((value * 2 ^ size) % 2 ^ 64) ((1 * 2 ^ (size - 1)) % 2 ^ 64 - 1)
    ≡ value * 2 ^ size + (2 ^ (size - 1) - 1)
marked size value low high holds =
    let some = pow_pos (size - 1) in
    let half : 2 ^ (size - 1) ≤ 2 ^ size = pow-le-pow_right (omega arith) (omega arith) in
    let whole : (value * 2 ^ size) % 2 ^ 64 ≡ value * 2 ^ size =
    shl_whole value (7 * size) size 64 holds (omega arith) in
    let one : (1 * 2 ^ (size - 1)) % 2 ^ 64 ≡ 2 ^ (size - 1) =
    one_shl (size - 1) 64 (omega arith) in
    ap (λ a. bit_or a ((1 * 2 ^ (size - 1)) % 2 ^ 64 - 1)) whole
    ∙ ap (λ b. bit_or (value * 2 ^ size) (b - 1)) one
    ∙ or_shifted value size (2 ^ (size - 1) - 1) (omega (arith, some, half))

-- The low bits of a first byte that say how many bytes there are.
use Rattle.std.proofs.Common.{◌≡◌, ◌≤◌, ◌<◌, ℕ, zero, suc, ◌+◌, ◌-◌, ◌*◌, ◌/◌, ◌%◌, ◌^◌, refl, sym, ap, subst, ◌∙◌, arith, inl, inr}
use Rattle.std.proofs.Math.Nat.{pow-suc, pow-le-pow_right, mul_assoc, mul-add-mod_self_right}
use Rattle.std.proofs.Math.Pow.{mod-mod-pow}
use Rattle.std.proofs.lemmas.Nat.{pow_pos, mod-pow-add, mod_low, shr_high, pow-add, div-add-mod'}
use Rattle.std.proofs.lemmas.Nat.Bits.{bit_at_lowest, bit_at-suc, bit_at-trailing_ones}
use Rattle.std.proofs.lemmas.Bool.{cases_lt, cases_order}
use Rattle.std.specs.Int.{bit_at, trailing_ones, w8}
use lib.Count.{count_trailing_zeros}
use Rattle.wire_streams.specs.Varlen.{IsMark}

-- the marks of two counts differ
apart : (count more n : ℕ) → 1 ≤ count → IsMark count n → IsMark (more + 1 + count) n → ⊥
apart count more n low one two =
    let short : (n + 1) % 2 ^ (more + 1 + count) % 2 ^ count ≡ (n + 1) % 2 ^ count =
    mod-mod-pow (n + 1) (more + 1) count in
    let place : more + 1 + count - 1 ≡ more + count = omega arith in
    let power : 2 ^ (more + 1 + count - 1) ≡ 2 ^ more * 2 ^ count =
    ap (λ e. 2 ^ e) place ∙ pow-add 2 more count in
    let whole : (2 ^ more * 2 ^ count + 0) % 2 ^ count ≡ 0 =
    mod_low (2 ^ more) count 0 (pow_pos count) in
    let sum : 2 ^ more * 2 ^ count + 0 ≡ 2 ^ more * 2 ^ count = omega arith in
    let none : (n + 1) % 2 ^ count ≡ 0 =
    sym short ∙ ap (λ m. m % 2 ^ count) (two ∙ power ∙ sym sum) ∙ whole in
    let some = pow_pos (count - 1) in
    omega (arith, none, one, some)

pub IsMark-same : (a b n : ℕ) → 1 ≤ a → 1 ≤ b → IsMark a n → IsMark b n → a ≡ b
IsMark-same a b n low_a low_b is_a is_b = elim (cases_order a b) [
  | inl same ↦ same
  | inr (inl less) ↦
      let e : b ≡ b - a - 1 + 1 + a = omega arith in
      absurd (apart a (b - a - 1) n low_a is_a (subst (λ m. IsMark m n) e is_b))
  | inr (inr more) ↦
      let e : a ≡ a - b - 1 + 1 + b = omega arith in
      absurd (apart b (a - b - 1) n low_b is_b (subst (λ m. IsMark m n) e is_a))
]

-- ones up to a zero
IsMark-ones : (count n : ℕ) → ((i : ℕ) → i < count → bit_at n i ≡ 1) → bit_at n count ≡ 0
    → IsMark (suc count) n
IsMark-ones zero n ones none = let lowest = bit_at_lowest n in omega (arith, none, lowest)
IsMark-ones (suc count) n ones none =
    let more : IsMark (suc count) (n / 2) =
    IsMark-ones count (n / 2) (λ i below. sym (bit_at-suc n i) ∙ ones (suc i) (omega arith))
    (sym (bit_at-suc n count) ∙ none) in
    let odd : n % 2 ≡ 1 = sym (bit_at_lowest n) ∙ ones 0 (omega arith) in
    let split : (n + 1) % 2 ^ (suc count + 1)
    ≡ ((n + 1) / 2 ^ 1 % 2 ^ suc count) * 2 ^ 1 + (n + 1) % 2 ^ 1 =
    mod-pow-add (n + 1) (suc count) 1 in
    let half : (n + 1) / 2 ≡ n / 2 + 1 = omega arith in
    let even : (n + 1) % 2 ≡ 0 = omega arith in
    let high : (n + 1) / 2 ^ 1 % 2 ^ suc count ≡ 2 ^ count =
    ap (λ m. m % 2 ^ suc count) half ∙ more
    ∙ ap (λ e. 2 ^ e) (let e : suc count - 1 ≡ count = omega arith in e) in
    let power : 2 ^ suc count ≡ 2 ^ count * 2 = pow-suc 2 count in
    let place : suc count + 1 ≡ suc (suc count) = omega arith in
    let last : 2 ^ (suc (suc count) - 1) ≡ 2 ^ suc count =
    ap (λ e. 2 ^ e) (let e : suc (suc count) - 1 ≡ suc count = omega arith in e) in
    let sum : ((n + 1) / 2 ^ 1 % 2 ^ suc count) * 2 ^ 1 + (n + 1) % 2 ^ 1 ≡ 2 ^ suc count =
    omega (arith, high, even, power) in
    sym (ap (λ e. (n + 1) % 2 ^ e) place) ∙ split ∙ sum ∙ sym last

-- are the ones that a byte ends in
mark_below : (byte : ℕ) → byte < 255
    → IsMark (trailing_ones w8 byte + 1) byte × (trailing_ones w8 byte < 8)
mark_below byte small =
    let (below, none, ones) = bit_at-trailing_ones w8 byte (omega arith) in
    let place : trailing_ones w8 byte + 1 ≡ suc (trailing_ones w8 byte) = omega arith in (
      subst (λ m. IsMark m byte) (sym place) (IsMark-ones (trailing_ones w8 byte) byte ones none),
      below,
    )

pub IsMark-trailing_ones : (byte size : ℕ) → byte < 256 → size ≡ trailing_ones w8 byte + 1
    → (1 ≤ size) × (size ≤ 9) × IsMark size byte
unfolding count_trailing_zeros
IsMark-trailing_ones byte size small is = elim (cases_lt byte 255) [
  | inl below ↦
      let (mark, high) = mark_below byte below in
      (omega (arith, is), omega (arith, is, high), subst (λ n. IsMark n byte) (sym is) mark)
  | inr above ↦
      let last : byte ≡ 255 = omega arith in
      let nine : size ≡ 9 = is ∙ ap (λ b. trailing_ones w8 b + 1) last in (
        omega (arith, nine),
        omega (arith, nine),
        subst (λ n. IsMark n byte) (sym nine) (subst (IsMark 9) (sym last) refl),
      )
]

-- a number under its mark
pub number_over-mark : (count n : ℕ) → 1 ≤ count → IsMark count n
    → n ≡ n / 2 ^ count * 2 ^ count + (2 ^ (count - 1) - 1)
number_over-mark count n low is =
    let some = pow_pos (count - 1) in
    let half : 2 ^ (count - 1) ≤ 2 ^ count = pow-le-pow_right (omega arith) (omega arith) in
    let split = div-add-mod' (n + 1) (2 ^ count) in
    let q = (n + 1) / 2 ^ count in
    let whole : n ≡ q * 2 ^ count + (2 ^ (count - 1) - 1) = omega (arith, split, is, some) in
    let high : n / 2 ^ count ≡ q =
    ap (λ m. m / 2 ^ count) whole ∙ shr_high q count (2 ^ (count - 1) - 1)
    (omega (arith, some, half)) in
    whole ∙ sym (ap (λ m. m * 2 ^ count + (2 ^ (count - 1) - 1)) high)

pub IsMark-number : (count value : ℕ) → 1 ≤ count
    → IsMark count (value * 2 ^ count + (2 ^ (count - 1) - 1))
IsMark-number count value low =
    let some = pow_pos (count - 1) in
    let place : suc (count - 1) ≡ count = omega arith in
    let double : 2 ^ count ≡ 2 ^ (count - 1) * 2 =
    sym (ap (λ e. 2 ^ e) place) ∙ pow-suc 2 (count - 1) in
    let sum : value * 2 ^ count + (2 ^ (count - 1) - 1) + 1 ≡ value * 2 ^ count + 2 ^ (count - 1) =
    omega (arith, some) in
    ap (λ m. m % 2 ^ count) sum ∙ mod_low value count (2 ^ (count - 1))
    (omega (arith, some, double))

-- it stands in the lowest byte
pub IsMark-byte : (count byte rest : ℕ) → count ≤ 8
    → (byte + 256 * rest + 1) % 2 ^ count ≡ (byte + 1) % 2 ^ count
IsMark-byte count byte rest high =
    let power : 2 ^ (8 - count) * 2 ^ count ≡ 256 =
    sym (pow-add 2 (8 - count) count)
    ∙ ap (λ e. 2 ^ e) (let e : 8 - count + count ≡ 8 = omega arith in e) in
    let product : rest * 2 ^ (8 - count) * 2 ^ count ≡ rest * 256 =
    mul_assoc rest (2 ^ (8 - count)) (2 ^ count) ∙ ap (λ m. rest * m) power in
    let sum : byte + 256 * rest + 1 ≡ rest * 2 ^ (8 - count) * 2 ^ count + (byte + 1) =
    omega (arith, product) in
    ap (λ m. m % 2 ^ count) sum ∙ mul-add-mod_self_right (rest * 2 ^ (8 - count)) (2 ^ count)
    (byte + 1)

-- Keys of different numbers, or texts, are different, and a key is found by its number or text.
use Rattle.std.proofs.Common.{◌≡◌, ◌≢◌, ℕ, List, Bool, true, false, ◌&&◌, nat_eq, refl, sym, ap, arith}
use Rattle.std.proofs.lemmas.Map.Lookups.{exact_bytes}
use Rattle.std.specs.Cmp.Lexicographic.{slice_cmp}
use Rattle.std.specs.Ordering.{nat_cmp, is_eq, ordering_then}
use Rattle.std.specs.declared.cmp.Ordering.{Ordering}
use Rattle.std.specs.declared.cmp.Ordering.TheVariants.{Less, Equal, Greater}

and_true : (b : Bool) → (b && true) ≡ b
and_true true = refl
and_true false = refl

then_equal : (order : Ordering) → ordering_then order Equal ≡ order
then_equal Less = refl
then_equal Equal = refl
then_equal Greater = refl

pub one_test : {K : Type 0} (test : K → Bool) → (λ key. test key && true) ≡ test
one_test test = λ i key. and_true (test key) i

pub one_order : {K : Type 0} (order : K → Ordering) → (λ key. ordering_then (order key) Equal) ≡ order
one_order order = λ i key. then_equal (order key) i

unequal : (number other : ℕ) → other ≢ number → nat_eq number other ≡ false
unequal number other apart = grind (arith, apart)

pub numbers_apart : (number other : ℕ) → other ≢ number → (nat_eq number other && true) ≡ false
numbers_apart number other apart = ap (λ b. b && true) (unequal number other apart)

not_equal : (order : Ordering) → order ≢ Equal → is_eq (ordering_then order Equal) ≡ false
not_equal Less apart = refl
not_equal Equal apart = absurd (apart refl)
not_equal Greater apart = refl

pub texts_apart : (text other : List ℕ) → other ≢ text
    → is_eq (ordering_then (slice_cmp nat_cmp text other) Equal) ≡ false
texts_apart text other apart =
    not_equal (slice_cmp nat_cmp text other) (λ is. apart (sym (exact_bytes text other is)))

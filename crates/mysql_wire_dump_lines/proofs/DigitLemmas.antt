-- Numbers of up to two digits, as their letters are made.
use Rattle.std.proofs.Common.{◌≡◌, ◌∙◌, ℕ, ◌+◌, ◌/◌, ◌%◌, ◌<◌, ◌≤◌, [], ◌∷◌, ap, arith, sym}
use Rattle.std.proofs.lemmas.Fmt.{decimal_digit}
use Rattle.std.specs.Fmt.{decimal}
use Rattle.wire_text.proofs.FieldLemmas.{two_digits}

pub one_digit : (n : ℕ) → n < 10 → decimal n ≡ (48 + n % 10) ∷ []
one_digit n small =
    let same : n % 10 ≡ n = omega (arith, small) in
    decimal_digit n small ∙ ap (λ (d : ℕ). (48 + d) ∷ []) (sym same)

pub tens_of : (n : ℕ) → 10 ≤ n → n < 100 → decimal n ≡ (48 + n / 10 % 10) ∷ (48 + n % 10) ∷ []
tens_of n more less =
    let same : n / 10 % 10 ≡ n / 10 = omega (arith, less) in
    two_digits n more less ∙ ap (λ (d : ℕ). (48 + d) ∷ (48 + n % 10) ∷ []) (sym same)

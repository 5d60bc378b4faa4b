use Rattle.std.proofs.Common.{◌≡◌, ℕ, [], ◌∷◌, ◌%◌, List, length, map, replicate, bit_and, refl, ap₂, ◌∙◌, arith}
use Rattle.std.proofs.lemmas.Nat.{and_mask}
use Rattle.std.proofs.lemmas.Simd.{zip2_splat}
use Rattle.hex.specs.Hex.{lower_digits}
use lib.Lanes.{zip2}
use Rattle.wire_text.proofs.DigitLemmas.{places_fit, looked_up}
use Rattle.wire_text.proofs.digits.low_digits.Goals as goal

masked : (v : List ℕ) → map (λ x. bit_and x 15) v ≡ map (λ x. x % 16) v
masked [] = refl
masked (x ∷ xs) = ap₂ (λ (a : ℕ) (b : List ℕ). a ∷ b) (and_mask x 4) (masked xs)

low : (v : List ℕ) → length v ≡ 16 → zip2 bit_and v (replicate 16 15) ≡ map (λ x. x % 16) v
low v long = zip2_splat bit_and v 16 15 long ∙ masked v

pub swizzle : goal.swizzle
swizzle c = places_fit (λ x. x % 16) c.args.bytes _ c.fits-bytes (low c.args.bytes c.fits-bytes.0) (λ x h. omega arith)

pub returns : goal.returns
returns c = looked_up lower_digits (λ x. x % 16) c.args.bytes _ c.fits-bytes (low c.args.bytes c.fits-bytes.0) (λ x h. omega arith)

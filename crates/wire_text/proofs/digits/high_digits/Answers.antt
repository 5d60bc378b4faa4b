use Rattle.std.proofs.Common.{ℕ, ◌/◌, ◌^◌, arith}
use Rattle.std.proofs.lemmas.Simd.{zip2_splat}
use Rattle.hex.specs.Hex.{lower_digits}
use Rattle.wire_text.proofs.DigitLemmas.{places_fit, looked_up}
use Rattle.wire_text.proofs.digits.high_digits.Goals as goal

abbrev down : ℕ → ℕ → ℕ
down a b = a / 2 ^ b

pub swizzle : goal.swizzle
swizzle c = places_fit (λ x. x / 16) c.args.bytes _ c.fits-bytes (zip2_splat down c.args.bytes 16 4 c.fits-bytes.0) (λ x h. omega arith)

pub returns : goal.returns
returns c = looked_up lower_digits (λ x. x / 16) c.args.bytes _ c.fits-bytes (zip2_splat down c.args.bytes 16 4 c.fits-bytes.0) (λ x h. omega arith)

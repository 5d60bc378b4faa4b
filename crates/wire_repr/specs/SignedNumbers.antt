-- Signed numbers that fit their bytes are read back.
use Rattle.std.proofs.Common.{ℕ, List, suc, ◌≡◌, ◌≤◌, ◌<◌, ◌+◌, ◌-◌, ◌*◌, ◌^◌, refl, arith, ℤ, pos, negsuc, ◌-ℤ◌}
use Rattle.std.specs.Int.{Width, w8, w16, w32, w64, cast_unsigned}
use Rattle.std.specs.Int.RustNames.{FitsSigned}
use Rattle.std.proofs.lemmas.Bool.{lt-ltb, le-ltb}
use Rattle.std.proofs.lemmas.Int.{ints}
use Rattle.wire_buf.specs.Numbers.{le_bytes, signed_number}

-- the low bytes of a number in two's complement
abbrev pub signed_bytes : ℕ → Width → ℤ → List ℕ
signed_bytes count width z = le_bytes count (cast_unsigned width z)

-- ---- lemmas

less : (a b n : ℕ) → a + suc n ≡ b → pos a -ℤ pos b ≡ negsuc n
less a b n e = omega (arith, ints)

-- by the width in bytes, the bits of a number are those of its own
fits_low : (count n : ℕ) → 2 * n < 256 ^ count → (n < 256 ^ count) × (signed_number count n ≡ pos n)
fits_low count n low = (omega (arith, low), rw (lt-ltb (2 * n) (256 ^ count) low) refl)

fits_high : (count n : ℕ) → 2 * suc n ≤ 256 ^ count
    → (256 ^ count - suc n < 256 ^ count) × (signed_number count (256 ^ count - suc n) ≡ negsuc n)
fits_high count n low =
    let high : 256 ^ count ≤ 2 * (256 ^ count - suc n) = omega (arith, low) in (
      omega (arith, low),
      rw (le-ltb (2 * (256 ^ count - suc n)) (256 ^ count) high)
          (less (256 ^ count - suc n) (256 ^ count) n (omega (arith, low))),
    )

pub signed_1 : (z : ℤ) → FitsSigned w8 z
    → (cast_unsigned w8 z < 256 ^ 1) × (signed_number 1 (cast_unsigned w8 z) ≡ z)
signed_1 (pos n) fits = fits_low 1 n (omega (arith, fits.sfits))
signed_1 (negsuc n) fits = fits_high 1 n (omega (arith, fits.sfits))

pub signed_2 : (z : ℤ) → FitsSigned w16 z
    → (cast_unsigned w16 z < 256 ^ 2) × (signed_number 2 (cast_unsigned w16 z) ≡ z)
signed_2 (pos n) fits = fits_low 2 n (omega (arith, fits.sfits))
signed_2 (negsuc n) fits = fits_high 2 n (omega (arith, fits.sfits))

pub signed_4 : (z : ℤ) → FitsSigned w32 z
    → (cast_unsigned w32 z < 256 ^ 4) × (signed_number 4 (cast_unsigned w32 z) ≡ z)
signed_4 (pos n) fits = fits_low 4 n (omega (arith, fits.sfits))
signed_4 (negsuc n) fits = fits_high 4 n (omega (arith, fits.sfits))

pub signed_8 : (z : ℤ) → FitsSigned w64 z
    → (cast_unsigned w64 z < 256 ^ 8) × (signed_number 8 (cast_unsigned w64 z) ≡ z)
signed_8 (pos n) fits = fits_low 8 n (omega (arith, fits.sfits))
signed_8 (negsuc n) fits = fits_high 8 n (omega (arith, fits.sfits))

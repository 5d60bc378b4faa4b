-- Which of sixteen bytes are no plain letters, by three comparisons.
use Rattle.std.proofs.Common.{◌≡◌, ℕ, ◌<◌, ◌%◌, ◌^◌, ltb, eqb, bit_or, bit_xor, replicate, List, [], ◌∷◌, Bool, true, false, refl, ap, ap₂, ◌∙◌, arith, map, cond, w8, Fits}
use Rattle.std.proofs.lemmas.Bool.{eqb-true}
use Rattle.std.proofs.lemmas.List.{length-map}
use Rattle.std.proofs.lemmas.Simd.{map-map, mask_l-mod, zip2_of_maps, zip2_splat}
use lib.Lanes.{Each1, mask_l, top, zip2}
use Rattle.wire_text.specs.Plain.{is_other, others_mask}
use Rattle.wire_text.proofs.DigitLemmas.{IsBlock}
use Rattle.wire_text.proofs.EscapeLemmas.{upto_holds}

abbrev below : ℕ → ℕ → ℕ
below a b = cond (ltb a b) 255 0

abbrev hit : ℕ → ℕ → ℕ
hit a b = cond (eqb a b) 255 0

-- a lane of the comparisons together
abbrev lane : ℕ → ℕ
lane byte = bit_or (bit_or (below (bit_xor byte 128) 160) (hit byte 34)) (hit byte 92)

abbrev bit : Bool → ℕ
bit is = cond is 1 0

same_bit : (a b : Bool) → bit a ≡ bit b → a ≡ b
same_bit true true is = refl
same_bit true false is = absurd (omega (arith, is))
same_bit false true is = absurd (omega (arith, is))
same_bit false false is = refl

lane_other : (byte : ℕ) → byte < 256 → top 7 (lane byte) ≡ is_other byte
lane_other byte small =
    same_bit _ _ (eqb-true _ _ (upto_holds (λ (k : ℕ). eqb (bit (top 7 (lane k))) (bit (is_other k))) 256 byte refl small))

lanes_other : (bytes : List ℕ) → Each1 (Fits w8) bytes → map (top 7) (map lane bytes) ≡ map is_other bytes
lanes_other [] fits = refl
lanes_other (byte ∷ bytes) fits =
    ap₂ (λ (a : Bool) (b : List Bool). a ∷ b) (lane_other byte fits.0.fits) (lanes_other bytes fits.1)

-- of sixteen bytes
pub compared : (v : List ℕ) → IsBlock v
    → mask_l (map (top 7) (zip2 bit_or (zip2 bit_or (zip2 below (zip2 bit_xor v (replicate 16 128)) (replicate 16 160)) (zip2 hit v (replicate 16 34)))
    (zip2 hit v (replicate 16 92)))) % 2 ^ 64 ≡ others_mask v
compared v fits =
    let long = fits.0 in
    let turned = zip2_splat bit_xor v 16 128 long in
    let low =
    ap (λ (z : List ℕ). zip2 below z (replicate 16 160)) turned
    ∙ zip2_splat below (map (λ x. bit_xor x 128) v) 16 160 (length-map v (λ x. bit_xor x 128) ∙ long) ∙ map-map (λ x. below x 160) (λ x. bit_xor x 128) v in
    let quote = zip2_splat hit v 16 34 long in
    let backslash = zip2_splat hit v 16 92 long in
    let all = zip2_of_maps bit_or _ _ v (zip2_of_maps bit_or _ _ v low quote) backslash in
    ap (λ (z : List ℕ). mask_l (map (top 7) z) % 2 ^ 64) all
    ∙ ap (λ (z : List Bool). mask_l z % 2 ^ 64) (lanes_other v fits.1)
    ∙ mask_l-mod (map is_other v) 64 (omega (arith, length-map v is_other, long))

-- Where a search for a zero stops, a text ends.
use Rattle.std.proofs.Common.{◌≡◌, ℕ, ◌+◌, ◌<◌, ◌≤◌, ◌%◌, ◌^◌, cond, eqb, Bool, true, false, not, List, [], ◌∷◌, map, replicate, length, take, drop, Option, Some, None, MatchOption, refl, sym, ap, ap₂, ◌∙◌, arith, inl, inr}
use Rattle.std.specs.List.{position_or_len, before_first, after_first}
use Rattle.std.specs.Prelude.{slice_index}
use Rattle.std.proofs.lemmas.Bool.{cases_eq, true≢false}
use Rattle.std.proofs.lemmas.List.{take_all, drop_all, drop-drop, length-map}
use Rattle.std.proofs.lemmas.Simd.{mask_l-mod, run_in_chunk_fails, run_in_chunk_stops, trailing_mask_l, zip2_splat}
use lib.Count.{count_trailing_zeros}
use lib.Lanes.{mask_l, top, zip2}
use Rattle.std.proofs.lemmas.List.Sums.{prefix_len_is}
use Rattle.memchr.specs.Find.{IsFirstByte, is_byte}
use Rattle.wire_buf.specs.NullText.{is_zero}

not_true : (b : Bool) → ¬ (b ≡ true) → not b ≡ true
not_true true h = absurd (h refl)
not_true false h = refl

-- the place of the first zero, or the length
position_or_len-found : (bytes : List ℕ) (found : Option ℕ) → IsFirstByte (is_byte 0) bytes found
    → MatchOption found (position_or_len is_zero bytes ≡ length bytes)
    (λ end. position_or_len is_zero bytes ≡ end)
position_or_len-found bytes None none =
    prefix_len_is (λ x. not (is_zero x)) bytes (length bytes) 0 (omega arith)
    (λ k below. not_true _ (none k (omega arith) below)) (λ past. absurd (omega arith))
position_or_len-found bytes (Some end) (first, zero) =
    prefix_len_is (λ x. not (is_zero x)) bytes end 0 (omega (arith, first.high))
    (λ k below. not_true _ (first.before k (omega arith) below)) (λ _. ap not zero)

-- what is eaten up to the zero, and what is left after it
pub parts-found : (bytes : List ℕ) (found : Option ℕ) → IsFirstByte (is_byte 0) bytes found
    → MatchOption found ((before_first is_zero bytes ≡ bytes) × (after_first is_zero bytes ≡ []))
    (λ end. (before_first is_zero bytes ≡ take end bytes)
    × (after_first is_zero bytes ≡ drop 1 (drop end bytes)))
parts-found bytes None none =
    let place = position_or_len-found bytes None none in (
      ap (λ n. take n bytes) place ∙ take_all (length bytes) bytes (omega arith),
      ap (λ n. drop (n + 1) bytes) place ∙ drop_all (length bytes + 1) bytes (omega arith),
    )
parts-found bytes (Some end) first =
    let place = position_or_len-found bytes (Some end) first in (
      ap (λ n. take n bytes) place,
      ap (λ n. drop (n + 1) bytes) place ∙ sym (drop-drop 1 end bytes),
    )

-- ---- of sixteen bytes at once

top_of : (b : Bool) → top 7 (cond b 255 0) ≡ b
top_of true = refl
top_of false = refl

abbrev lane : ℕ → ℕ → ℕ
lane byte other = cond (eqb byte other) 255 0

lanes_zero : (bytes : List ℕ) → map (top 7) (map (λ byte. lane byte 0) bytes) ≡ map is_zero bytes
lanes_zero [] = refl
lanes_zero (byte ∷ bytes) = ap₂ (λ (a : Bool) (b : List Bool). a ∷ b) (top_of (eqb byte 0)) (lanes_zero bytes)

abbrev zeros_of : List ℕ → ℕ
zeros_of block = mask_l (map (top 7) (zip2 lane block (replicate 16 0))) % 2 ^ 64

zeros_are : (block : List ℕ) → length block ≡ 16 → zeros_of block ≡ mask_l (map is_zero block)
zeros_are block long =
    ap (λ (z : List ℕ). mask_l (map (top 7) z) % 2 ^ 64) (zip2_splat lane block 16 0 long)
    ∙ ap (λ (z : List Bool). mask_l z % 2 ^ 64) (lanes_zero block)
    ∙ mask_l-mod (map is_zero block) 64 (omega (arith, length-map block is_zero, long))

positive : (n : ℕ) → ¬ (n ≡ 0) → 0 < n
positive n some = elim (cases_eq n 0) [ inl none ↦ absurd (some none) | inr other ↦ omega (arith, other) ]

-- the lowest bit of the mask tells the first zero
pub zero_of_lanes : (block : List ℕ) → length block ≡ 16 → ¬ (zeros_of block ≡ 0)
    → count_trailing_zeros 64 (zeros_of block) ≡ position_or_len is_zero block
zero_of_lanes block long some =
    ap (count_trailing_zeros 64) (zeros_are block long)
    ∙ trailing_mask_l is_zero 64 block (omega (arith, long)) (positive (mask_l (map is_zero block)) (λ none. some (zeros_are block long ∙ none)))

-- the first zero of the first bytes is that of all
pub zero_in_front : (bytes : List ℕ) (n place : ℕ) → n ≤ length bytes → place ≡ position_or_len is_zero (take n bytes) → place < n
    → IsFirstByte (is_byte 0) bytes (Some place)
zero_in_front bytes n place room is short = (
  record {
    low = omega arith;
    high = omega (arith, room, short);
    before = λ k from to found. true≢false (sym found ∙ run_in_chunk_fails is_zero bytes 0 n place 0 (omega (arith, room)) is k from (omega (arith, to)));
  },
  ap (λ (k : ℕ). is_zero (slice_index bytes k)) (omega arith) ∙ run_in_chunk_stops is_zero bytes 0 n place 0 (omega (arith, room)) is short,
)

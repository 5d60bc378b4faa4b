-- Bytes that need no escape, and bytes of ASCII, seen sixteen at a time through a mask of the others.
use Rattle.std.proofs.Common.{◌≡◌, ℕ, zero, suc, ◌+◌, ◌-◌, ◌*◌, ◌≤◌, ◌/◌, ◌%◌, ◌^◌, leb, ltb, eqb, bit_or, replicate, drop, take, take-append-drop, List, [], ◌∷◌, ◌++◌, Bool, true, false, refl, ap, ap₂, sym, ◌∙◌, append_assoc, arith, length, nat_eq, map, cond}
use Rattle.std.proofs.lemmas.Bool.{and_from, and_parts}
use Rattle.std.proofs.lemmas.List.Folds.{list_all-append}
use Rattle.std.proofs.lemmas.List.{drop-drop, drop-take, length-append, length-drop, length-map, take-take}
use Rattle.std.proofs.lemmas.Simd.{leading_from_mask_l, mask_l-mod, trailing_mask_l, zip2_of_maps, zip2_splat, zip2_splat_left}
use Rattle.std.specs.List.{list_all, prefix_len}
use Rattle.std.specs.Prelude.{◌&&◌, not}
use native.Mathlib.Nat.{div-div-eq-div-mul, div-one, mul_comm, pow-suc, zero-div}
use lib.Count.{count_trailing_zeros}
use lib.Lanes.{mask_l, top, zip2}
use Rattle.wire_text.specs.Fields.{all_ascii, in_ascii, needs_escape, needs_no_escape, none_needs_escape, over_ascii}
use Rattle.wire_text.proofs.FieldLemmas.{zero-false}
use Rattle.wire_text.proofs.PlainLemmas.{both_ways, none_double, not_less, not_not, to_end}

-- ---- the masks

abbrev of_three : Bool → Bool → Bool → ℕ
of_three quote backslash low = bit_or (bit_or (cond quote 255 0) (cond backslash 255 0)) (cond low 255 0)

top_of_three : (quote backslash low : Bool) → top 7 (of_three quote backslash low) ≡ not ((not quote && not backslash) && not low)
top_of_three true true true = refl
top_of_three true true false = refl
top_of_three true false true = refl
top_of_three true false false = refl
top_of_three false true true = refl
top_of_three false true false = refl
top_of_three false false true = refl
top_of_three false false false = refl

top_of_one : (high : Bool) → top 7 (cond high 255 0) ≡ high
top_of_one true = refl
top_of_one false = refl

abbrev lane : ℕ → ℕ
lane byte = of_three (eqb byte 34) (eqb byte 92) (ltb byte 32)

lane_escape : (byte : ℕ) → top 7 (lane byte) ≡ needs_escape byte
lane_escape byte =
    top_of_three (eqb byte 34) (eqb byte 92) (ltb byte 32)
    ∙ ap (λ (low : Bool). not ((not (eqb byte 34) && not (eqb byte 92)) && low)) (not_less byte 32)

lanes_escape : (bytes : List ℕ) → map (top 7) (map lane bytes) ≡ map needs_escape bytes
lanes_escape [] = refl
lanes_escape (byte ∷ bytes) = ap₂ (λ (a : Bool) (b : List Bool). a ∷ b) (lane_escape byte) (lanes_escape bytes)

abbrev hit : ℕ → ℕ → ℕ
hit a b = cond (eqb a b) 255 0

abbrev pub below : ℕ → ℕ → ℕ
below a b = cond (ltb a b) 255 0

abbrev at_most : ℕ → ℕ → ℕ
at_most a b = cond (leb a b) 255 0

lanes_wide : (bytes : List ℕ) → map (top 7) (map (at_most 128) bytes) ≡ map over_ascii bytes
lanes_wide [] = refl
lanes_wide (byte ∷ bytes) = ap₂ (λ (a : Bool) (b : List Bool). a ∷ b) (top_of_one (leb 128 byte) ∙ sym (not_less byte 128)) (lanes_wide bytes)

-- the three comparisons of sixteen bytes
pub escape_mask : (v : List ℕ) → length v ≡ 16
    → mask_l (map (top 7) (zip2 bit_or (zip2 bit_or (zip2 hit v (replicate 16 34)) (zip2 hit v (replicate 16 92))) (zip2 below v (replicate 16 32)))) % 2 ^ 64
    ≡ mask_l (map needs_escape v)
escape_mask v long =
    let quote = zip2_splat hit v 16 34 long in
    let backslash = zip2_splat hit v 16 92 long in
    let low = zip2_splat below v 16 32 long in
    let all = zip2_of_maps bit_or _ _ v (zip2_of_maps bit_or _ _ v quote backslash) low in
    ap (λ (z : List ℕ). mask_l (map (top 7) z) % 2 ^ 64) all
    ∙ ap (λ (z : List Bool). mask_l z % 2 ^ 64) (lanes_escape v)
    ∙ mask_l-mod (map needs_escape v) 64 (omega (arith, length-map v needs_escape, long))

pub wide_mask : (v : List ℕ) → length v ≡ 16
    → mask_l (map (top 7) (zip2 at_most (replicate 16 128) v)) % 2 ^ 64 ≡ mask_l (map over_ascii v)
wide_mask v long =
    ap (λ (z : List ℕ). mask_l (map (top 7) z) % 2 ^ 64) (zip2_splat_left at_most 128 16 v long)
    ∙ ap (λ (z : List Bool). mask_l z % 2 ^ 64) (lanes_wide v)
    ∙ mask_l-mod (map over_ascii v) 64 (omega (arith, length-map v over_ascii, long))

one_more : (first : Bool) (mask : ℕ) (rest : Bool) → nat_eq mask 0 ≡ rest → nat_eq (cond first 1 0 + 2 * mask) 0 ≡ (not first && rest)
one_more false mask rest is = ap (λ (n : ℕ). nat_eq n 0) (omega arith) ∙ none_double mask ∙ is
one_more true mask rest is = zero-false (1 + 2 * mask) (λ is. omega (arith, is))

-- no bit is set just where all pass the opposite test
pub none_set : (p q : ℕ → Bool) → ((x : ℕ) → not (p x) ≡ q x) → (bytes : List ℕ) → nat_eq (mask_l (map p bytes)) 0 ≡ list_all q bytes
none_set p q opposite [] = refl
none_set p q opposite (byte ∷ bytes) =
    one_more (p byte) (mask_l (map p bytes)) (list_all q bytes) (none_set p q opposite bytes)
    ∙ ap (λ (test : Bool). test && list_all q bytes) (opposite byte)

pub no_escape_bit : (bytes : List ℕ) → nat_eq (mask_l (map needs_escape bytes)) 0 ≡ none_needs_escape bytes
no_escape_bit bytes = none_set needs_escape needs_no_escape (λ x. not_not (needs_no_escape x)) bytes

pub no_wide_bit : (bytes : List ℕ) → nat_eq (mask_l (map over_ascii bytes)) 0 ≡ all_ascii bytes
no_wide_bit bytes = none_set over_ascii in_ascii (λ x. not_not (in_ascii x)) bytes

-- ---- the first that needs one, and the first that is not of ASCII

same_run : (p q : ℕ → Bool) → ((x : ℕ) → not (p x) ≡ q x) → (bytes : List ℕ) → prefix_len (λ x. not (p x)) bytes ≡ prefix_len q bytes
same_run p q opposite [] = refl
same_run p q opposite (byte ∷ bytes) = ap₂ (λ (b : Bool) (n : ℕ). cond b (1 + n) 0) (opposite byte) (same_run p q opposite bytes)

-- the bits from one on are those of the bytes from there on
pub halved : (first : Bool) (mask : ℕ) → (cond first 1 0 + 2 * mask) / 2 ≡ mask
halved true mask = omega arith
halved false mask = omega arith

bits_from : (p : ℕ → Bool) (k : ℕ) (bytes : List ℕ) → mask_l (map p bytes) / 2 ^ k ≡ mask_l (map p (drop k bytes))
bits_from p zero bytes = div-one (mask_l (map p bytes))
bits_from p (suc k) [] = zero-div (2 ^ suc k)
bits_from p (suc k) (byte ∷ bytes) =
    ap (λ (n : ℕ). mask_l (map p (byte ∷ bytes)) / n) (pow-suc 2 k ∙ mul_comm (2 ^ k) 2)
    ∙ sym (div-div-eq-div-mul (mask_l (map p (byte ∷ bytes))) 2 (2 ^ k))
    ∙ ap (λ (n : ℕ). n / 2 ^ k) (halved (p byte) (mask_l (map p bytes))) ∙ bits_from p k bytes

pub no_run_ends : (bits left done : ℕ) (block : List ℕ) → left ≡ bits / 2 ^ done → left ≡ 0 → length block ≡ 16 → bits ≡ mask_l (map needs_escape block)
    → 16 - done ≡ prefix_len needs_no_escape (drop done block)
no_run_ends bits left done block left_is none long bits_is =
    let all = leading_from_mask_l needs_escape (drop done block) (sym (bits_from needs_escape done block) ∙ ap (λ (n : ℕ). n / 2 ^ done) (sym bits_is) ∙ sym left_is ∙ none) in
    let run = same_run needs_escape needs_no_escape (λ x. not_not (needs_no_escape x)) (drop done block) in
    omega (arith, all, run, long, length-drop done block)

pub run_ends : (bits left done : ℕ) (block : List ℕ) → left ≡ bits / 2 ^ done → (left ≡ 0 → ⊥) → length block ≡ 16 → bits ≡ mask_l (map needs_escape block)
    → count_trailing_zeros 64 left ≡ prefix_len needs_no_escape (drop done block)
run_ends bits left done block left_is some long bits_is =
    let mask = left_is ∙ ap (λ (n : ℕ). n / 2 ^ done) bits_is ∙ bits_from needs_escape done block in
    ap (count_trailing_zeros 64) mask
    ∙ trailing_mask_l needs_escape 64 (drop done block) (omega (arith, long, length-drop done block)) (omega (arith, mask, some))
    ∙ same_run needs_escape needs_no_escape (λ x. not_not (needs_no_escape x)) (drop done block)

pub all_in_ascii : (bytes : List ℕ) → length bytes ≡ 16 → mask_l (map over_ascii bytes) ≡ 0 → 16 ≡ prefix_len in_ascii bytes
all_in_ascii bytes long none =
    sym long ∙ sym (leading_from_mask_l over_ascii bytes none) ∙ same_run over_ascii in_ascii (λ x. not_not (in_ascii x)) bytes

pub ascii_to_other : (bytes : List ℕ) → length bytes ≡ 16 → (mask_l (map over_ascii bytes) ≡ 0 → ⊥)
    → count_trailing_zeros 64 (mask_l (map over_ascii bytes)) ≡ prefix_len in_ascii bytes
ascii_to_other bytes long some =
    trailing_mask_l over_ascii 64 bytes (omega (arith, long)) (omega (arith, some)) ∙ same_run over_ascii in_ascii (λ x. not_not (in_ascii x)) bytes

-- ---- many bytes, block by block

-- what is after bytes that all pass tells, also with some of those
behind_all : (p : ℕ → Bool) (k : ℕ) (done rest : List ℕ) → k ≤ length done → list_all p done ≡ true → list_all p (drop k (done ++ rest)) ≡ list_all p rest
behind_all p zero done rest within is = list_all-append p done rest ∙ ap (λ (test : Bool). test && list_all p rest) is
behind_all p (suc k) [] rest within is = absurd (omega (arith, within))
behind_all p (suc k) (byte ∷ done) rest within is = behind_all p k done rest (omega (arith, within)) (and_parts (p byte) _ is).1

pub pass_behind : (p : ℕ → Bool) (k : ℕ) (bytes : List ℕ) → list_all p bytes ≡ true → list_all p (drop k bytes) ≡ true
pass_behind p zero bytes is = is
pass_behind p (suc k) [] is = is
pass_behind p (suc k) (byte ∷ bytes) is = pass_behind p k bytes (and_parts (p byte) _ is).1

and_true : (a b : Bool) → b ≡ true → (a && b) ≡ a
and_true true true is = refl
and_true false true is = refl
and_true true false is = is
and_true false false is = refl

-- a block that is filled up with what passes
filled_all : (p : ℕ → Bool) (n : ℕ) (words filling block : List ℕ) → list_all p filling ≡ true → block ≡ words ++ drop n filling
    → list_all p block ≡ list_all p words
filled_all p n words filling block passes is =
    ap (list_all p) is ∙ list_all-append p words (drop n filling) ∙ and_true (list_all p words) _ (pass_behind p n filling passes)

pub filled_ascii : (n : ℕ) (words put : List ℕ) → put ≡ words → all_ascii (put ++ drop n (replicate 16 32)) ≡ all_ascii words
filled_ascii n words put is =
    filled_all in_ascii n words (replicate 16 32) _ refl (ap (λ (z : List ℕ). z ++ drop n (replicate 16 32)) is)

pub filled_stands : (n : ℕ) (words put : List ℕ) → put ≡ words → none_needs_escape (put ++ drop n (replicate 16 32)) ≡ none_needs_escape words
filled_stands n words put is =
    filled_all needs_no_escape n words (replicate 16 32) _ refl (ap (λ (z : List ℕ). z ++ drop n (replicate 16 32)) is)

-- these bytes are left after some that were looked at
abbrev pub LookedAt : List ℕ → List ℕ → Bool → Bool → Type 0
LookedAt words rest ascii stands = (done : List ℕ) × (words ≡ done ++ rest) × (ascii ≡ all_ascii done) × (stands ≡ none_needs_escape done)

pub look_begins : (words : List ℕ) → LookedAt words words true true
look_begins words = ([], refl, refl, refl)

pub look_on : (n : ℕ) (words rest block behind : List ℕ) (ascii stands block_ascii block_stands : Bool) → LookedAt words rest ascii stands → block ≡ take n rest
    → behind ≡ drop n rest → block_ascii ≡ all_ascii block → block_stands ≡ none_needs_escape block → LookedAt words behind (ascii && block_ascii) (stands && block_stands)
look_on n words rest block behind ascii stands block_ascii block_stands so_far block_is behind_is ascii_is stands_is = (
  so_far.0 ++ block,
  so_far.1 ∙ ap (λ (z : List ℕ). so_far.0 ++ z)
      (sym (ap₂ (λ (a b : List ℕ). a ++ b) block_is behind_is ∙ take-append-drop n rest)) ∙ sym (append_assoc so_far.0 block behind),
  ap₂ (λ (a b : Bool). a && b) so_far.2 ascii_is ∙ sym (list_all-append in_ascii so_far.0 block),
  ap₂ (λ (a b : Bool). a && b) so_far.3 stands_is ∙ sym (list_all-append needs_no_escape so_far.0 block),
)

-- the last bytes, with some of those in front of them
last_all : (p : ℕ → Bool) (k : ℕ) (words done rest : List ℕ) → words ≡ done ++ rest → k ≤ length done
    → (list_all p done && list_all p (take (length words - k) (drop k words))) ≡ list_all p words
last_all p k words done rest is within =
    both_ways (list_all p done) _ (list_all p rest) (λ passes.
    ap (list_all p) (to_end k words) ∙ ap (λ (z : List ℕ). list_all p (drop k z)) is ∙ behind_all p k done rest within passes)
    ∙ sym (list_all-append p done rest) ∙ ap (list_all p) (sym is)

pub look_ends : (k : ℕ) (words rest last : List ℕ) (ascii stands last_ascii last_stands : Bool) → LookedAt words rest ascii stands → k + length rest ≤ length words
    → last ≡ take (length words - k) (drop k words) → last_ascii ≡ all_ascii last → last_stands ≡ none_needs_escape last
    → ((ascii && last_ascii) ≡ all_ascii words) × ((stands && last_stands) ≡ none_needs_escape words)
look_ends k words rest last ascii stands last_ascii last_stands so_far within last_is ascii_is stands_is =
    let long = ap length so_far.1 ∙ length-append so_far.0 rest in
    let inside : k ≤ length so_far.0 = omega (arith, within, long) in (
      ap₂ (λ (a b : Bool). a && b) so_far.2 (ascii_is ∙ ap all_ascii last_is) ∙ last_all in_ascii k words so_far.0 rest so_far.1 inside,
      ap₂ (λ (a b : Bool). a && b) so_far.3 (stands_is ∙ ap none_needs_escape last_is) ∙ last_all needs_no_escape k words so_far.0 rest so_far.1 inside,
    )

passes_more : (first : Bool) (len n : ℕ) (rest : Bool) → suc n ≤ cond first (1 + len) 0 → (n ≤ len → rest ≡ true) → (first && rest) ≡ true
passes_more true len n rest within others = others (omega (arith, within))
passes_more false len n rest within others = absurd (omega (arith, within))

-- so many of the first pass
pub run_passes : (p : ℕ → Bool) (n : ℕ) (bytes : List ℕ) → n ≤ prefix_len p bytes → list_all p (take n bytes) ≡ true
run_passes p zero bytes within = refl
run_passes p (suc n) [] within = absurd (omega (arith, within))
run_passes p (suc n) (byte ∷ bytes) within = passes_more (p byte) (prefix_len p bytes) n _ within (run_passes p n bytes)

-- what stands behind so many bytes, where others stand behind these
pub same_front : (done n len size : ℕ) (source : List ℕ) → done + n ≤ len → n ≤ size
    → take n (take size (drop done source)) ≡ take n (drop done (take len source))
same_front done n len size source within few =
    take-take n size (drop done source) few ∙ sym (drop-take done n source)
    ∙ ap (drop done) (sym (take-take (done + n) len source within)) ∙ drop-take done n (take len source)

-- the first 32 bytes and the last, which may share some
pub both_ends : (p : ℕ → Bool) (k : ℕ) (words : List ℕ) → k ≤ 32 → list_all p (take 32 words) ≡ true → list_all p (drop k words) ≡ true
    → list_all p words ≡ true
both_ends p k words within front end =
    let place : 32 ≡ k + (32 - k) = omega (arith, within) in
    let behind : list_all p (drop 32 words) ≡ true =
    ap (λ (n : ℕ). list_all p (drop n words)) place ∙ ap (list_all p) (sym (drop-drop (32 - k) k words)) ∙ pass_behind p (32 - k) (drop k words) end in
    ap (list_all p) (sym (take-append-drop 32 words)) ∙ list_all-append p (take 32 words) (drop 32 words) ∙ and_from _ _ front behind

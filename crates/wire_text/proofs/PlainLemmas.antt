-- Plain letters: of ASCII, and none that JSON escapes.
use Rattle.std.proofs.Common.{◌≡◌, ℕ, zero, suc, subst, ◌+◌, ◌-◌, ◌*◌, ◌<◌, ◌≤◌, ◌%◌, ◌^◌, ◌⊎◌, inl, inr, leb, ltb, eqb, bit_and, bit_or, replicate, drop, take, take-append-drop, List, [], ◌∷◌, ◌++◌, Bool, true, false, refl, ap, ap₂, sym, ◌∙◌, append_assoc, arith, length, nat_eq, map, cond}
use Rattle.std.proofs.lemmas.Bool.{and_from, and_parts, eq-eqb, lt-ltb, ltb-true, ne_eqb}
use Rattle.std.proofs.lemmas.List.Folds.{list_all-append, prefix_len-append}
use Rattle.std.proofs.lemmas.List.{length-append, length-drop, length-map, length-take, length-take-le, take_all, take-take}
use Rattle.std.specs.Prelude.{◌&&◌, not}
use lib.Lanes.{mask_l, zip2}
use Rattle.std.proofs.lemmas.Bool.Decides.{leb_tells}
use Rattle.std.proofs.lemmas.Grind.{or_before_shift}
use Rattle.std.proofs.lemmas.Simd.{leading_from_mask_l, mask_l-lt, trailing_mask_l, zip2_splat}
use lib.Count.{count_trailing_zeros}
use native.Mathlib.Nat.{two-pow-succ}
use Rattle.std.specs.List.{prefix_len}
use Rattle.std.proofs.lemmas.List.Sums.{prefix_len-le-length}
use Rattle.wire_text.specs.Fields.{all_ascii, all_plain, needs_no_escape, plain}
use Rattle.wire_text.specs.Plain.{is_other, others_mask}
use Rattle.std.proofs.lemmas.Nat.{and_mask}
use Rattle.std.proofs.Math.Nat.{min-le_left, min-le_right}
use Rattle.wire_text.proofs.FieldLemmas.{zero-false}

pub none_double : (n : ℕ) → nat_eq (2 * n) 0 ≡ nat_eq n 0
none_double zero = refl
none_double (suc n) = zero-false (2 * suc n) (λ is. omega (arith, is)) ∙ sym (zero-false (suc n) (λ is. omega (arith, is)))

one_more : (first : Bool) (mask : ℕ) (rest : Bool) → nat_eq mask 0 ≡ rest → nat_eq (cond (not first) 1 0 + 2 * mask) 0 ≡ (first && rest)
one_more true mask rest is = ap (λ (n : ℕ). nat_eq n 0) (omega arith) ∙ none_double mask ∙ is
one_more false mask rest is = zero-false (1 + 2 * mask) (λ is. omega (arith, is))

-- no lane's bit is set just where all are plain
pub none_other : (bytes : List ℕ) → nat_eq (mask_l (map is_other bytes)) 0 ≡ all_plain bytes
none_other [] = refl
none_other (byte ∷ bytes) = one_more (plain byte) (mask_l (map is_other bytes)) (all_plain bytes) (none_other bytes)

either_way : (a b : ℕ) → ((leb (suc a) b ≡ true) × (suc a ≤ b)) ⊎ ((leb (suc a) b ≡ false) × (b < suc a))
    → ((leb b a ≡ true) × (b ≤ a)) ⊎ ((leb b a ≡ false) × (a < b)) → not (ltb a b) ≡ leb b a
either_way a b (inl less) (inl more) = absurd (omega (arith, less.1, more.1))
either_way a b (inl less) (inr more) = ap not less.0 ∙ sym more.0
either_way a b (inr less) (inl more) = ap not less.0 ∙ sym more.0
either_way a b (inr less) (inr more) = absurd (omega (arith, less.1, more.1))

pub not_less : (a b : ℕ) → not (ltb a b) ≡ leb b a
not_less a b = either_way a b (leb_tells (suc a) b) (leb_tells b a)

pub not_not : (a : Bool) → not (not a) ≡ a
not_not true = refl
not_not false = refl

-- of a list whose front is plain, what is after it tells, also with some of the front
pub behind_plain : (k : ℕ) (done rest : List ℕ) → k ≤ length done → all_plain done ≡ true → all_plain (drop k (done ++ rest)) ≡ all_plain rest
behind_plain zero done rest within is = list_all-append plain done rest ∙ ap (λ (test : Bool). test && all_plain rest) is
behind_plain (suc k) [] rest within is = absurd (omega (arith, within))
behind_plain (suc k) (byte ∷ done) rest within is =
    behind_plain k done rest (omega (arith, within)) (and_parts (plain byte) _ is).1

pub both_ways : (a b c : Bool) → (a ≡ true → b ≡ c) → (a && b) ≡ (a && c)
both_ways true b c same = same refl
both_ways false b c same = refl

-- the first bytes and the last, which may share some
pub ends_plain : (n k : ℕ) (words : List ℕ) → k ≤ n → n ≤ length words → (all_plain (take n words) && all_plain (drop k words)) ≡ all_plain words
ends_plain n k words within inside =
    let whole = take-append-drop n words in
    both_ways (all_plain (take n words)) (all_plain (drop k words)) (all_plain (drop n words)) (λ is.
    ap (λ (z : List ℕ). all_plain (drop k z)) (sym whole) ∙ behind_plain k (take n words) (drop n words) (omega (arith, within, inside, length-take n words)) is)
    ∙ sym (list_all-append plain (take n words) (drop n words)) ∙ ap all_plain whole

pub to_end : (k : ℕ) (words : List ℕ) → take (length words - k) (drop k words) ≡ drop k words
to_end k words = take_all (length words - k) (drop k words) (omega (arith, length-drop k words))

-- as a block of both
pub block_plain : (n k : ℕ) (words block : List ℕ) → k ≤ n → n ≤ length words → block ≡ take n words ++ take (length words - k) (drop k words)
    → all_plain block ≡ all_plain words
block_plain n k words block within inside is =
    ap all_plain (is ∙ ap (λ (z : List ℕ). take n words ++ z) (to_end k words)) ∙ list_all-append plain (take n words) (drop k words)
    ∙ ends_plain n k words within inside

and_true : (a : Bool) → (a && true) ≡ a
and_true true = refl
and_true false = refl

-- a block that is filled up with spaces
pub filled_plain : (half block : List ℕ) → block ≡ half ++ (32 ∷ 32 ∷ 32 ∷ 32 ∷ 32 ∷ 32 ∷ 32 ∷ 32 ∷ []) → all_plain block ≡ all_plain half
filled_plain half block is = ap all_plain is ∙ list_all-append plain half _ ∙ and_true (all_plain half)

-- the blocks so far are plain, and these bytes are after them
abbrev pub PlainSoFar : List ℕ → List ℕ → Type 0
PlainSoFar words rest = (done : List ℕ) × (words ≡ done ++ rest) × (all_plain done ≡ true)

pub plain_begins : (words : List ℕ) → PlainSoFar words words
plain_begins words = ([], refl, refl)

pub same_plain : (words rest : List ℕ) → PlainSoFar words rest → all_plain words ≡ all_plain rest
same_plain words rest so_far = ap all_plain so_far.1 ∙ behind_plain 0 so_far.0 rest (omega arith) so_far.2

pub plain_on : (n : ℕ) (words rest block behind : List ℕ) → PlainSoFar words rest → block ≡ take n rest → behind ≡ drop n rest → all_plain block ≡ true
    → PlainSoFar words behind
plain_on n words rest block behind so_far block_is behind_is passes = (
  so_far.0 ++ block,
  so_far.1 ∙ ap (λ (z : List ℕ). so_far.0 ++ z)
      (sym (ap₂ (λ (a b : List ℕ). a ++ b) block_is behind_is ∙ take-append-drop n rest)) ∙ sym (append_assoc so_far.0 block behind),
  list_all-append plain so_far.0 block ∙ and_from _ _ so_far.2 passes,
)

-- the last bytes tell, with some of those in front of them
pub last_plain : (k : ℕ) (words rest : List ℕ) → PlainSoFar words rest → k + length rest ≤ length words
    → all_plain (take (length words - k) (drop k words)) ≡ all_plain words
last_plain k words rest so_far within =
    let long = ap length so_far.1 ∙ length-append so_far.0 rest in
    ap all_plain (to_end k words) ∙ ap (λ (z : List ℕ). all_plain (drop k z)) so_far.1
    ∙ behind_plain k so_far.0 rest (omega (arith, within, long)) so_far.2 ∙ sym (same_plain words rest so_far)

same_run : (bytes : List ℕ) → prefix_len (λ x. not (is_other x)) bytes ≡ prefix_len plain bytes
same_run [] = refl
same_run (byte ∷ bytes) = ap₂ (λ (b : Bool) (n : ℕ). cond b (1 + n) 0) (not_not (plain byte)) (same_run bytes)

-- where no bit is set all are plain, and else the lowest tells how many are before the first that is not
pub run_of_all : (block : List ℕ) → others_mask block ≡ 0 → length block ≡ prefix_len plain block
run_of_all block none = sym (leading_from_mask_l is_other block none) ∙ same_run block

pub run_to_other : (block : List ℕ) → length block ≤ 64 → (others_mask block ≡ 0 → ⊥)
    → count_trailing_zeros 64 (others_mask block) ≡ prefix_len plain block
run_to_other block short some = trailing_mask_l is_other 64 block (omega (arith, short)) (omega (arith, some)) ∙ same_run block

lanes_below : (p : ℕ → Bool) (bytes : List ℕ) → length bytes ≡ 16 → mask_l (map p bytes) < 2 ^ 16
lanes_below p bytes long =
    omega (arith, subst (λ (n : ℕ). mask_l (map p bytes) < 2 ^ n) (length-map bytes p ∙ long) (mask_l-lt (map p bytes)))

-- the bits of more bytes stand over those of the first
over_first : (p : ℕ → Bool) (n : ℕ) (first rest : List ℕ) → length first ≡ n
    → mask_l (map p (first ++ rest)) ≡ mask_l (map p rest) * 2 ^ n + mask_l (map p first)
over_first p zero [] rest is = omega arith
over_first p zero (byte ∷ first) rest is = absurd (omega (arith, is))
over_first p (suc n) [] rest is = absurd (omega (arith, is))
over_first p (suc n) (byte ∷ first) rest is =
    let more = over_first p n first rest (omega (arith, is)) in
    let over : mask_l (map p rest) * 2 ^ suc n ≡ mask_l (map p rest) * 2 ^ n + mask_l (map p rest) * 2 ^ n =
    ap (λ (q : ℕ). mask_l (map p rest) * q) (two-pow-succ n) ∙ omega arith in
    omega (arith, more, over)

-- the bits of two blocks
pub both_bits : (p : ℕ → Bool) (first rest : List ℕ) → length first ≡ 16 → length rest ≡ 16
    → bit_or (mask_l (map p first)) (mask_l (map p rest) * 65536 % 18446744073709551616) ≡ mask_l (map p (first ++ rest))
both_bits p first rest here long =
    or_before_shift (mask_l (map p first)) (mask_l (map p rest)) (2 ^ 16) (2 ^ 64) refl (lanes_below p first here) (omega (arith, lanes_below p rest long))
    ∙ sym (over_first p 16 first rest here)

pub bits_of_block : (p : ℕ → Bool) (block first rest : List ℕ) (a b : ℕ) → length block ≡ 32 → first ≡ take 16 block → rest ≡ drop 16 block
    → a ≡ mask_l (map p first) → b ≡ mask_l (map p rest) → bit_or a (b * 65536 % 18446744073709551616) ≡ mask_l (map p block)
bits_of_block p block first rest a b long first_is rest_is a_is b_is =
    ap₂ (λ (x y : ℕ). bit_or x (y * 65536 % 18446744073709551616)) (a_is ∙ ap (λ (z : List ℕ). mask_l (map p z)) first_is)
    (b_is ∙ ap (λ (z : List ℕ). mask_l (map p z)) rest_is)
    ∙ both_bits p (take 16 block) (drop 16 block) (omega (arith, long, length-take 16 block)) (omega (arith, long, length-drop 16 block))
    ∙ ap (λ (z : List ℕ). mask_l (map p z)) (take-append-drop 16 block)

pub both_others : (first rest : List ℕ) → length first ≡ 16 → length rest ≡ 16
    → bit_or (others_mask first) (others_mask rest * 65536 % 18446744073709551616) ≡ others_mask (first ++ rest)
both_others first rest here long = both_bits is_other first rest here long

-- of two blocks
parts_run : (p : ℕ → Bool) (n : ℕ) (bytes : List ℕ)
    → prefix_len p bytes ≡ cond (eqb (prefix_len p (take n bytes)) (length (take n bytes))) (length (take n bytes) + prefix_len p (drop n bytes)) (prefix_len p (take n bytes))
parts_run p n bytes = ap (prefix_len p) (sym (take-append-drop n bytes)) ∙ prefix_len-append p (take n bytes) (drop n bytes)

pub run_in_first : (p : ℕ → Bool) (block : List ℕ) → 16 ≤ length block → prefix_len p (take 16 block) < 16
    → prefix_len p (take 16 block) ≡ prefix_len p block
run_in_first p block long less =
    let here = length-take-le 16 block long in
    sym (parts_run p 16 block ∙ ap (λ (b : Bool). cond b (length (take 16 block) + prefix_len p (drop 16 block)) (prefix_len p (take 16 block)))
    (ne_eqb (prefix_len p (take 16 block)) (length (take 16 block)) (λ is. omega (arith, here, is, less))))

pub run_past_first : (p : ℕ → Bool) (block : List ℕ) → 16 ≤ length block → 16 ≤ prefix_len p (take 16 block)
    → 16 + prefix_len p (take (length block - 16) (drop 16 block)) ≡ prefix_len p block
run_past_first p block long all =
    let here = length-take-le 16 block long in
    let whole : prefix_len p (take 16 block) ≡ length (take 16 block) = omega (arith, here, all, prefix_len-le-length p (take 16 block)) in
    ap (λ (n : ℕ). 16 + n) (ap (prefix_len p) (to_end 16 block)) ∙ ap (λ (n : ℕ). n + prefix_len p (drop 16 block)) (sym here)
    ∙ sym (parts_run p 16 block ∙ ap (λ (b : Bool). cond b (length (take 16 block) + prefix_len p (drop 16 block)) (prefix_len p (take 16 block)))
    (eq-eqb (prefix_len p (take 16 block)) (length (take 16 block)) whole))

suc_is : (n : ℕ) → suc n ≡ 1 + n
suc_is n = omega arith

-- before the first that is not plain all are
front_plain : (byte : ℕ) (bytes : List ℕ) (is : Bool) → plain byte ≡ is
    → all_plain (take (prefix_len plain bytes) bytes) ≡ true
    → all_plain (take (prefix_len plain (byte ∷ bytes)) (byte ∷ bytes)) ≡ true
front_plain byte bytes true is others =
    rw (is) (subst (λ (m : ℕ). all_plain (take m (byte ∷ bytes)) ≡ true) (suc_is (prefix_len plain bytes)) (and_from _ _ is others))
front_plain byte bytes false is others = rw (is) refl

pub before_plain : (bytes : List ℕ) → all_plain (take (prefix_len plain bytes) bytes) ≡ true
before_plain [] = refl
before_plain (byte ∷ bytes) = front_plain byte bytes (plain byte) refl (before_plain bytes)

-- no more stand in front of one that does not pass than there are
pub run_below_count : (p : ℕ → Bool) (n len : ℕ) (bytes : List ℕ) → n < len → prefix_len p (take n bytes) < len
run_below_count p n len bytes above =
    omega (arith, above, prefix_len-le-length p (take n bytes), length-take n bytes, min-le_left n (length bytes))

pub run_below_length : (p : ℕ → Bool) (n len : ℕ) (bytes : List ℕ) → length bytes < len → prefix_len p (take n bytes) < len
run_below_length p n len bytes above =
    omega (arith, above, prefix_len-le-length p (take n bytes), length-take n bytes, min-le_right n (length bytes))

-- fewer of the same bytes
pub plain_less : (n k : ℕ) (bytes : List ℕ) → n ≤ k → all_plain (take k bytes) ≡ true → all_plain (take n bytes) ≡ true
plain_less n k bytes less is =
    let parts = sym (list_all-append plain (take n (take k bytes)) (drop n (take k bytes))) ∙ ap all_plain (take-append-drop n (take k bytes)) ∙ is in
    ap all_plain (sym (take-take n k bytes less)) ∙ (and_parts _ _ parts).0

masked : (bytes : List ℕ) → map (λ x. bit_and x 127) bytes ≡ map (λ x. x % 128) bytes
masked [] = refl
masked (x ∷ xs) = ap₂ (λ (a : ℕ) (b : List ℕ). a ∷ b) (and_mask x 7) (masked xs)

-- the low seven bits of 32 bytes
pub low_seven : (v : List ℕ) → length v ≡ 32 → zip2 bit_and v (replicate 32 127) ≡ map (λ x. x % 128) v
low_seven v long = zip2_splat bit_and v 32 127 long ∙ masked v

-- they are of ASCII
pub seven_ascii : (bytes : List ℕ) → all_ascii (map (λ x. x % 128) bytes) ≡ true
seven_ascii [] = refl
seven_ascii (x ∷ xs) = and_from _ _ (lt-ltb (x % 128) 128 (omega arith)) (seven_ascii xs)

seven_same : (x : ℕ) → plain x ≡ true → x % 128 ≡ x
seven_same x is = omega (arith, ltb-true x 128 (and_parts (needs_no_escape x) _ is).1)

-- and letters of ASCII as they were
pub seven_front : (len : ℕ) (bytes : List ℕ) → all_plain (take len bytes) ≡ true → take len (map (λ x. x % 128) bytes) ≡ take len bytes
seven_front zero bytes is = refl
seven_front (suc len) [] is = refl
seven_front (suc len) (x ∷ xs) is =
    let parts = and_parts (plain x) _ is in
    ap₂ (λ (a : ℕ) (b : List ℕ). a ∷ b) (seven_same x parts.0) (seven_front len xs parts.1)

-- the first 32 bytes and the last, which may share some
pub both_ends_plain : (words front end : List ℕ) → 32 ≤ length words → length words ≤ 64 → front ≡ take 32 words
    → end ≡ drop (length words - 32) words → (all_plain front && all_plain end) ≡ true → all_plain words ≡ true
both_ends_plain words front end long within front_is end_is are =
    sym (ends_plain 32 (length words - 32) words (omega (arith, within)) long)
    ∙ ap₂ (λ (a b : List ℕ). all_plain a && all_plain b) (sym front_is) (sym end_is) ∙ are

-- some of plain letters
pub front_plain_too : (n : ℕ) (words : List ℕ) → all_plain words ≡ true → all_plain (take n words) ≡ true
front_plain_too zero words is = refl
front_plain_too (suc n) [] is = refl
front_plain_too (suc n) (byte ∷ words) is =
    let parts = and_parts (plain byte) _ is in and_from _ _ parts.0 (front_plain_too n words parts.1)

pub plain_in_ascii : (words : List ℕ) → all_plain words ≡ true → all_ascii words ≡ true
plain_in_ascii [] is = refl
plain_in_ascii (byte ∷ words) is =
    let parts = and_parts (plain byte) _ is in and_from _ _ (and_parts (needs_no_escape byte) _ parts.0).1 (plain_in_ascii words parts.1)

-- a text between quotes, put in two parts
pub quoted_parts : (name quote front end words : List ℕ) → front ++ end ≡ words
    → name ++ (quote ++ (words ++ quote)) ≡ ((name ++ quote) ++ front) ++ (end ++ quote)
quoted_parts name quote front end words is =
    ap (λ (z : List ℕ). name ++ (quote ++ (z ++ quote))) (sym is) ∙ ap (λ (z : List ℕ). name ++ (quote ++ z)) (append_assoc front end quote)
    ∙ sym (append_assoc name quote (front ++ (end ++ quote))) ∙ sym (append_assoc (name ++ quote) front (end ++ quote))

pub cut_and_end : (n : ℕ) (words : List ℕ) → n ≤ 32 → take n (take 32 words) ++ drop n words ≡ words
cut_and_end n words within = ap (λ (z : List ℕ). z ++ drop n words) (take-take n 32 words within) ∙ take-append-drop n words

pub plain_behind : (n : ℕ) (words : List ℕ) → all_plain words ≡ true → all_plain (drop n words) ≡ true
plain_behind zero words is = is
plain_behind (suc n) [] is = is
plain_behind (suc n) (byte ∷ words) is = plain_behind n words (and_parts (plain byte) _ is).1

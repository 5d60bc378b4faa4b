-- Letters of three bytes each, seen sixteen bytes at a time through masks.
use Rattle.std.proofs.Common.{◌≡◌, ℕ, zero, suc, ◌+◌, ◌-◌, ◌*◌, ◌/◌, ◌<◌, ◌≤◌, ◌%◌, ◌^◌, ◌==◌, inl, inr, leb, eqb, bit_and, replicate, drop, take, take-append-drop, List, [], ◌∷◌, ◌++◌, Bool, true, false, refl, ap, ap₂, sym, ◌∙◌, append_assoc, arith, length, map, cond, lt-ltb, le-ltb, le-leb, get_or, w8, Fits}
use Rattle.std.proofs.lemmas.Bool.{and_from, and_parts, cases_lt, eqb-false, leb-true, ne_eqb, not-true}
use Rattle.std.proofs.lemmas.List.{drop-drop, drop_at, length-append, length-map, length-take-le, take-take, take_all, take_at}
use Rattle.std.proofs.lemmas.Simd.{mask_l-mod, zip2_of_maps, zip2_splat, zip2_splat_left}
use Rattle.std.proofs.lemmas.Str.{IsUtf8-nil}
use Rattle.std.specs.Prelude.{◌&&◌, not}
use Rattle.std.specs.Str.{IsUtf8}
use lib.Lanes.{mask_l, top, zip2}
use lib.Utf8.{encode, low_scalar, next, scalar}
use Rattle.wire_text.specs.Fields.{all_ascii, are_wide, begins_three, goes_on, needs_no_escape, none_needs_escape}
use Rattle.std.proofs.lemmas.Nat.{and_mask}
use Rattle.wire_text.proofs.BackslashLemmas.{bits_within, first_bits, marks_within}
use Rattle.wire_text.proofs.EscapeLemmas.{false-true, list_same, list_same_is, upto, upto_holds}

-- ---- the masks

top_of_two : (a b : Bool) → top 7 (bit_and (cond a 255 0) (cond b 255 0)) ≡ (a && b)
top_of_two true true = refl
top_of_two true false = refl
top_of_two false true = refl
top_of_two false false = refl

top_of_three : (a b c : Bool) → top 7 (bit_and (bit_and (cond a 255 0) (cond b 255 0)) (cond c 255 0)) ≡ ((a && b) && c)
top_of_three true true true = refl
top_of_three true true false = refl
top_of_three true false true = refl
top_of_three true false false = refl
top_of_three false true true = refl
top_of_three false true false = refl
top_of_three false false true = refl
top_of_three false false false = refl

abbrev at_most : ℕ → ℕ → ℕ
at_most a b = cond (leb a b) 255 0

abbrev other : ℕ → ℕ → ℕ
other a b = cond (not (eqb a b)) 255 0

abbrev lead_lane : ℕ → ℕ
lead_lane byte = bit_and (bit_and (at_most 225 byte) (at_most byte 239)) (other byte 237)

abbrev going_lane : ℕ → ℕ
going_lane byte = bit_and (at_most 128 byte) (at_most byte 191)

lanes_lead : (bytes : List ℕ) → map (top 7) (map lead_lane bytes) ≡ map begins_three bytes
lanes_lead [] = refl
lanes_lead (byte ∷ bytes) =
    ap₂ (λ (a : Bool) (b : List Bool). a ∷ b) (top_of_three (leb 225 byte) (leb byte 239) (not (eqb byte 237))) (lanes_lead bytes)

lanes_going : (bytes : List ℕ) → map (top 7) (map going_lane bytes) ≡ map goes_on bytes
lanes_going [] = refl
lanes_going (byte ∷ bytes) = ap₂ (λ (a : Bool) (b : List Bool). a ∷ b) (top_of_two (leb 128 byte) (leb byte 191)) (lanes_going bytes)

pub lead_mask : (v : List ℕ) → length v ≡ 16
    → mask_l (map (top 7) (zip2 bit_and (zip2 bit_and (zip2 at_most (replicate 16 225) v) (zip2 at_most v (replicate 16 239))) (zip2 other v (replicate 16 237)))) % 2 ^ 64
    ≡ mask_l (map begins_three v)
lead_mask v long =
    let low = zip2_splat_left at_most 225 16 v long in
    let high = zip2_splat at_most v 16 239 long in
    let not_it = zip2_splat other v 16 237 long in
    let all = zip2_of_maps bit_and _ _ v (zip2_of_maps bit_and _ _ v low high) not_it in
    ap (λ (z : List ℕ). mask_l (map (top 7) z) % 2 ^ 64) all
    ∙ ap (λ (z : List Bool). mask_l z % 2 ^ 64) (lanes_lead v)
    ∙ mask_l-mod (map begins_three v) 64 (omega (arith, length-map v begins_three, long))

pub going_mask : (v : List ℕ) → length v ≡ 16
    → mask_l (map (top 7) (zip2 bit_and (zip2 at_most (replicate 16 128) v) (zip2 at_most v (replicate 16 191)))) % 2 ^ 64 ≡ mask_l (map goes_on v)
going_mask v long =
    let all = zip2_of_maps bit_and _ _ v (zip2_splat_left at_most 128 16 v long) (zip2_splat at_most v 16 191 long) in
    ap (λ (z : List ℕ). mask_l (map (top 7) z) % 2 ^ 64) all
    ∙ ap (λ (z : List Bool). mask_l z % 2 ^ 64) (lanes_going v)
    ∙ mask_l-mod (map goes_on v) 64 (omega (arith, length-map v goes_on, long))

-- ---- lists of bits with one number are one list

more_bits : (a b : Bool) (x y : ℕ) (ms ns : List Bool) → cond a 1 0 + 2 * x ≡ cond b 1 0 + 2 * y → (x ≡ y → ms ≡ ns) → a ∷ ms ≡ b ∷ ns
more_bits true true x y ms ns is others = ap (λ (z : List Bool). true ∷ z) (others (omega (arith, is)))
more_bits true false x y ms ns is others = absurd (omega (arith, is))
more_bits false true x y ms ns is others = absurd (omega (arith, is))
more_bits false false x y ms ns is others = ap (λ (z : List Bool). false ∷ z) (others (omega (arith, is)))

same_bits : (ms ns : List Bool) → length ms ≡ length ns → mask_l ms ≡ mask_l ns → ms ≡ ns
same_bits [] [] long is = refl
same_bits [] (b ∷ ns) long is = absurd (omega (arith, long))
same_bits (a ∷ ms) [] long is = absurd (omega (arith, long))
same_bits (a ∷ ms) (b ∷ ns) long is =
    more_bits a b (mask_l ms) (mask_l ns) ms ns is (λ same. same_bits ms ns (omega (arith, long)) same)

-- ---- letters, by their bits

abbrev thrice : ℕ → ℕ
thrice zero = zero
thrice (suc n) = suc (suc (suc (thrice n)))

thrice_is : (n : ℕ) → thrice n ≡ 3 * n
thrice_is zero = refl
thrice_is (suc n) = omega (arith, thrice_is n)

abbrev leads : ℕ → List Bool → List Bool
leads zero tail = tail
leads (suc n) tail = true ∷ false ∷ false ∷ leads n tail

abbrev goings : ℕ → List Bool → List Bool
goings zero tail = tail
goings (suc n) tail = false ∷ true ∷ true ∷ goings n tail

first_of : (a b : Bool) (ms ns : List Bool) → a ∷ ms ≡ b ∷ ns → a ≡ b
first_of a b ms ns is = ap (λ (z : List Bool). get_or z 0 false) is

others_of : (a b : Bool) (ms ns : List Bool) → a ∷ ms ≡ b ∷ ns → ms ≡ ns
others_of a b ms ns is = ap (drop 1) is

wide_lanes : (n : ℕ) (block : List ℕ) (tail tails : List Bool) → map begins_three block ≡ leads n tail → map goes_on block ≡ goings n tails
    → are_wide (take (thrice n) block) ≡ true
wide_lanes zero block tail tails first later = refl
wide_lanes (suc n) [] tail tails first later = absurd (omega (arith, ap length first))
wide_lanes (suc n) (a ∷ []) tail tails first later = absurd (omega (arith, ap length first))
wide_lanes (suc n) (a ∷ b ∷ []) tail tails first later = absurd (omega (arith, ap length first))
wide_lanes (suc n) (a ∷ b ∷ c ∷ rest) tail tails first later =
    let later_1 = others_of _ _ _ _ later in
    let later_2 = others_of _ _ _ _ later_1 in
    let first_3 = others_of _ _ _ _ (others_of _ _ _ _ (others_of _ _ _ _ first)) in
    and_from _ _ (and_from _ _ (and_from _ _ (first_of _ _ _ _ first) (first_of _ _ _ _ later_1)) (first_of _ _ _ _ later_2))
    (wide_lanes n rest tail tails first_3 (others_of _ _ _ _ later_2))

pub wide_front : (block : List ℕ) → length block ≡ 16 → mask_l (map begins_three block) ≡ 37449 → mask_l (map goes_on block) ≡ 28086
    → are_wide (take 15 block) ≡ true
wide_front block long first later =
    wide_lanes 5 block (true ∷ []) (false ∷ []) (same_bits _ (leads 5 (true ∷ [])) (omega (arith, length-map block begins_three, long)) first)
    (same_bits _ (goings 5 (false ∷ [])) (omega (arith, length-map block goes_on, long)) later)

pub wide_end : (block : List ℕ) → length block ≡ 16 → mask_l (map begins_three block) ≡ 9362 → mask_l (map goes_on block) ≡ 56173
    → are_wide (drop 1 block) ≡ true
wide_end [] long first later = absurd (omega (arith, long))
wide_end (byte ∷ block) long first later =
    ap are_wide (sym (take_all 15 block (omega (arith, long))))
    ∙ wide_lanes 5 block [] [] (others_of _ _ _ _ (same_bits (map begins_three (byte ∷ block)) (false ∷ leads 5 []) (omega (arith, length-map block begins_three, long)) first))
    (others_of _ _ _ _ (same_bits (map goes_on (byte ∷ block)) (true ∷ goings 5 []) (omega (arith, length-map block goes_on, long)) later))

-- ---- so many of 32 bytes

set_within : (len : ℕ) (set : List Bool) → len ≤ 32 → mask_l set % (1 * 2 ^ len % 18446744073709551616) ≡ mask_l (take len set)
set_within len set within = ap (λ (n : ℕ). mask_l set % n) (bits_within len within) ∙ first_bits len set

take_leads : (n m : ℕ) (tail : List Bool) → n ≤ m → take (thrice n) (leads m tail) ≡ leads n []
take_leads zero m tail less = refl
take_leads (suc n) zero tail less = absurd (omega (arith, less))
take_leads (suc n) (suc m) tail less = ap (λ (z : List Bool). true ∷ false ∷ false ∷ z) (take_leads n m tail (omega (arith, less)))

take_goings : (n m : ℕ) (tail : List Bool) → n ≤ m → take (thrice n) (goings m tail) ≡ goings n []
take_goings zero m tail less = refl
take_goings (suc n) zero tail less = absurd (omega (arith, less))
take_goings (suc n) (suc m) tail less = ap (λ (z : List Bool). false ∷ true ∷ true ∷ z) (take_goings n m tail (omega (arith, less)))

same_within : (p : ℕ → Bool) (len bits number : ℕ) (block : List ℕ) (set : List Bool) → length block ≡ 32 → length set ≡ 32 → len ≤ 32
    → bits ≡ mask_l (map p block) → number ≡ mask_l set
    → bits % (1 * 2 ^ len % 18446744073709551616) ≡ number % (1 * 2 ^ len % 18446744073709551616) → map p (take len block) ≡ take len set
same_within p len bits number block set long many within bits_is number_is same =
    same_bits (map p (take len block)) (take len set)
    (omega (arith, length-map (take len block) p, length-take-le len block (omega (arith, long, within)), length-take-le len set (omega (arith, many, within))))
    (sym (marks_within p len bits block within bits_is) ∙ same ∙ ap (λ (n : ℕ). n % (1 * 2 ^ len % 18446744073709551616)) number_is ∙ set_within len set within)

pub wide_within : (block : List ℕ) (len first later : ℕ) → length block ≡ 32 → len ≤ 32 → len % 3 ≡ 0 → first ≡ mask_l (map begins_three block)
    → later ≡ mask_l (map goes_on block) → first % (1 * 2 ^ len % 18446744073709551616) ≡ 1227133513 % (1 * 2 ^ len % 18446744073709551616)
    → later % (1 * 2 ^ len % 18446744073709551616) ≡ 3067833782 % (1 * 2 ^ len % 18446744073709551616) → are_wide (take len block) ≡ true
wide_within block len first later long within thirds first_is later_is firsts laters =
    let n = len / 3 in
    let count : thrice n ≡ len = omega (arith, thrice_is n, thirds) in
    let few : n ≤ 10 = omega (arith, within) in
    let lead_set = leads 10 (true ∷ false ∷ []) in
    let going_set = goings 10 (false ∷ true ∷ []) in
    let front = take len block in
    let begin = same_within begins_three len first 1227133513 block lead_set long refl within first_is refl firsts
    ∙ ap (λ (k : ℕ). take k lead_set) (sym count) ∙ take_leads n 10 (true ∷ false ∷ []) few in
    let on = same_within goes_on len later 3067833782 block going_set long refl within later_is refl laters
    ∙ ap (λ (k : ℕ). take k going_set) (sym count) ∙ take_goings n 10 (false ∷ true ∷ []) few in
    ap are_wide (sym (take_all (thrice n) front (omega (arith, count, length-take-le len block (omega (arith, long, within))))))
    ∙ wide_lanes n front [] [] begin on

-- ---- many of them

wide_append : (front back : List ℕ) → are_wide front ≡ true → are_wide back ≡ true → are_wide (front ++ back) ≡ true
wide_append [] back is after = after
wide_append (a ∷ []) back is after = absurd (false-true is)
wide_append (a ∷ b ∷ []) back is after = absurd (false-true is)
wide_append (a ∷ b ∷ c ∷ front) back is after =
    let parts = and_parts _ _ is in and_from _ _ parts.0 (wide_append front back parts.1 after)

wide_drop : (n : ℕ) (words : List ℕ) → are_wide words ≡ true → are_wide (drop (thrice n) words) ≡ true
wide_drop zero words is = is
wide_drop (suc n) [] is = is
wide_drop (suc n) (a ∷ []) is = absurd (false-true is)
wide_drop (suc n) (a ∷ b ∷ []) is = absurd (false-true is)
wide_drop (suc n) (a ∷ b ∷ c ∷ words) is = wide_drop n words (and_parts _ _ is).1

front_wide : (count : ℕ) (front back : List ℕ) → length front ≡ 3 * count → are_wide (front ++ back) ≡ true → are_wide front ≡ true
front_wide count [] back long is = refl
front_wide count (a ∷ []) back long is = absurd (omega (arith, long))
front_wide count (a ∷ b ∷ []) back long is = absurd (omega (arith, long))
front_wide count (a ∷ b ∷ c ∷ front) back long is =
    let parts = and_parts _ _ is in and_from _ _ parts.0 (front_wide (count - 1) front back (omega (arith, long)) parts.1)

-- a few bytes, with others after them
pub few_wide : (words put rest : List ℕ) → put ≡ words → length words < 16 → length words % 3 ≡ 0 → are_wide (take 15 (put ++ rest)) ≡ true → are_wide words ≡ true
few_wide words put rest put_is few thirds is =
    let n = length words in
    let block = words ++ rest in
    let front : take n (take 15 block) ≡ words = take-take n 15 block (omega (arith, few)) ∙ take_at words rest n refl in
    let all = take-append-drop n (take 15 block) in
    front_wide (length words / 3) words (drop n (take 15 block)) (omega (arith, thirds))
    (ap are_wide (ap (λ (z : List ℕ). z ++ drop n (take 15 block)) (sym front) ∙ all ∙ ap (λ (z : List ℕ). take 15 (z ++ rest)) (sym put_is)) ∙ is)

-- these bytes are after some that are such letters, so many
abbrev pub WideSoFar : List ℕ → List ℕ → Type 0
WideSoFar words rest = (done : List ℕ) × (words ≡ done ++ rest) × (are_wide done ≡ true) × ((count : ℕ) × (length done ≡ 3 * count))

pub wide_begins : (words : List ℕ) → WideSoFar words words
wide_begins words = ([], refl, refl, (0, refl))

pub wide_on : (words rest block behind : List ℕ) → WideSoFar words rest → 15 ≤ length rest → block ≡ take 16 rest → behind ≡ drop 15 rest → are_wide (take 15 block) ≡ true
    → WideSoFar words behind
wide_on words rest block behind so_far long block_is behind_is is =
    let front : are_wide (take 15 rest) ≡ true = ap are_wide (sym (take-take 15 16 rest (omega arith)) ∙ ap (take 15) (sym block_is)) ∙ is in (
      so_far.0 ++ take 15 rest,
      so_far.1 ∙ ap (λ (z : List ℕ). so_far.0 ++ z) (sym (take-append-drop 15 rest) ∙ ap (λ (z : List ℕ). take 15 rest ++ z) (sym behind_is))
          ∙ sym (append_assoc so_far.0 (take 15 rest) behind),
      wide_append so_far.0 (take 15 rest) so_far.2 front,
      (so_far.3.0 + 5, omega (arith, so_far.3.1, length-append so_far.0 (take 15 rest), length-take-le 15 rest long)),
    )

-- the last fifteen bytes tell of those that are left
pub wide_ends : (words rest : List ℕ) → WideSoFar words rest → length rest < 16 → 16 ≤ length words → length words % 3 ≡ 0 → (last : List ℕ)
    → last ≡ drop (length words - 16) words → are_wide (drop 1 last) ≡ true → are_wide words ≡ true
wide_ends words rest so_far few some thirds last last_is is =
    let long = ap length so_far.1 ∙ length-append so_far.0 rest in
    let count = length words / 3 in
    let letters : length words ≡ 3 * count = omega (arith, thirds) in
    let over = 5 + so_far.3.0 - count in
    let behind : (1 + (length words - 16)) + thrice over ≡ length so_far.0 = omega (arith, thrice_is over, long, so_far.3.1, letters, few, some) in
    let left = wide_drop over (drop 1 (drop (length words - 16) words)) (ap (λ (z : List ℕ). are_wide (drop 1 z)) (sym last_is) ∙ is) in
    ap are_wide so_far.1
    ∙ wide_append so_far.0 rest so_far.2
    (ap are_wide
    (sym (drop_at so_far.0 rest (length so_far.0) refl) ∙ ap (drop (length so_far.0)) (sym so_far.1)
    ∙ ap (λ (k : ℕ). drop k words) (sym behind ∙ omega arith)
    ∙ sym (drop-drop (thrice over) (length words - 16 + 1) words) ∙ ap (drop (thrice over)) (sym (drop-drop 1 (length words - 16) words)))
    ∙ left)

-- ---- they are UTF-8

three : (c : ℕ) → 2048 ≤ c → c < 65536 → encode c ≡ (224 + c / 4096) ∷ next (c / 64) ∷ next c ∷ []
unfolding encode
three c l h = rw (le-ltb c 128 (omega arith), le-ltb c 2048 l, lt-ltb c 65536 h)

high_scalar : (c : ℕ) → 57344 ≤ c → c < 1114112 → scalar c ≡ true
high_scalar c l h = rw (le-ltb c 55296 (omega arith), le-leb 57344 c l, lt-ltb c 1114112 h)

cons_char : (c : ℕ) (front bs : List ℕ) → scalar c ≡ true → encode c ≡ front → IsUtf8 bs → IsUtf8 (front ++ bs)
cons_char c front bs ok e u = (c ∷ u.0, (rw ok u.1.0, λ i. e i ++ u.1.1 i))

three_bytes : (x y z : ℕ) → 224 ≤ x → (128 ≤ y) × (y < 192) → (128 ≤ z) × (z < 192)
    → let c = (x - 224) * 4096 + (y - 128) * 64 + (z - 128) in (224 + c / 4096 ≡ x) × (next (c / 64) ≡ y) × (next c ≡ z)
three_bytes x y z h f g = (omega arith, omega arith, omega arith)

letter_before : (a b c : ℕ) (rest : List ℕ) → (225 ≤ a) × (a ≤ 239) × (a ≡ 237 → ⊥) → (128 ≤ b) × (b < 192) → (128 ≤ c) × (c < 192) → IsUtf8 rest
    → IsUtf8 (a ∷ b ∷ c ∷ rest)
letter_before a b c rest first second third utf8 =
    let char = (a - 224) * 4096 + (b - 128) * 64 + (c - 128) in
    let bytes = three_bytes a b c (omega (arith, first.0)) second third in
    let p = bytes.0 in
    let q = bytes.1 in
    let r = bytes.2 in
    let below = first.0 in
    let above = first.1 in
    let never = first.2 in
    let ok : scalar char ≡ true = elim (cases_lt char 55296) [ inl low ↦ low_scalar char low | inr high ↦ high_scalar char (omega arith) (omega arith) ] in
    cons_char char (a ∷ b ∷ c ∷ []) rest ok (three char (omega arith) (omega arith) ∙ (λ k. p k ∷ q k ∷ r k ∷ [])) utf8

first_bounds : (a : ℕ) → begins_three a ≡ true → (225 ≤ a) × (a ≤ 239) × (a ≡ 237 → ⊥)
first_bounds a is =
    let parts = and_parts _ _ is in
    let sides = and_parts _ _ parts.0 in
    (leb-true 225 a sides.0, leb-true a 239 sides.1, eqb-false a 237 (not-true (a == 237) parts.1))

later_bounds : (a : ℕ) → goes_on a ≡ true → (128 ≤ a) × (a < 192)
later_bounds a is =
    let parts = and_parts _ _ is in (leb-true 128 a parts.0, omega (arith, leb-true a 191 parts.1))

pub wide_utf8 : (words : List ℕ) → are_wide words ≡ true → IsUtf8 words
wide_utf8 [] is = IsUtf8-nil
wide_utf8 (a ∷ []) is = absurd (false-true is)
wide_utf8 (a ∷ b ∷ []) is = absurd (false-true is)
wide_utf8 (a ∷ b ∷ c ∷ rest) is =
    let parts = and_parts _ _ is in
    let letter = and_parts _ _ parts.0 in
    let front = and_parts _ _ letter.0 in
    letter_before a b c rest (first_bounds a front.0) (later_bounds b front.1) (later_bounds c letter.1) (wide_utf8 rest parts.1)

-- and need no escape
high_stands : (byte : ℕ) → goes_on byte ≡ true → needs_no_escape byte ≡ true
high_stands byte is =
    let high = (later_bounds byte is).0 in
    rw (ne_eqb byte 34 (λ same. omega (arith, same, high)), ne_eqb byte 92 (λ same. omega (arith, same, high)), le-leb 32 byte (omega (arith, high))) refl

lead_stands : (byte : ℕ) → begins_three byte ≡ true → needs_no_escape byte ≡ true
lead_stands byte is =
    let high = (first_bounds byte is).0 in
    rw (ne_eqb byte 34 (λ same. omega (arith, same, high)), ne_eqb byte 92 (λ same. omega (arith, same, high)), le-leb 32 byte (omega (arith, high))) refl

pub wide_stands : (words : List ℕ) → are_wide words ≡ true → none_needs_escape words ≡ true
wide_stands [] is = refl
wide_stands (a ∷ []) is = absurd (false-true is)
wide_stands (a ∷ b ∷ []) is = absurd (false-true is)
wide_stands (a ∷ b ∷ c ∷ rest) is =
    let parts = and_parts _ _ is in
    let letter = and_parts _ _ parts.0 in
    let front = and_parts _ _ letter.0 in
    and_from _ _ (lead_stands a front.0) (and_from _ _ (high_stands b front.1) (and_from _ _ (high_stands c letter.1) (wide_stands rest parts.1)))

-- ---- so many bytes as they are, and the low seven bits of those behind

abbrev row : ℕ → List ℕ
row len = replicate len 255 ++ replicate (32 - len) 127

abbrev part : List ℕ → ℕ → List ℕ
part table len = take 32 (take (64 - (32 - len)) (drop (32 - len) table))

pub row_is : (table : List ℕ) (len : ℕ) → upto (λ k. list_same (part table k) (row k)) 33 ≡ true → len ≤ 32 → part table len ≡ row len
row_is table len all within =
    list_same_is _ _ (upto_holds (λ k. list_same (part table k) (row k)) 33 len all (omega (arith, within)))

pub front_kept : (len : ℕ) (block tail : List ℕ) → ((i : ℕ) → Fits w8 (get_or block i 0)) → take len (zip2 bit_and block (replicate len 255 ++ tail)) ≡ take len block
front_kept zero block tail fits = refl
front_kept (suc len) [] tail fits = refl
front_kept (suc len) (x ∷ xs) tail fits =
    ap₂ (λ (a : ℕ) (b : List ℕ). a ∷ b) (and_mask x 8 ∙ omega (arith, (fits 0).fits)) (front_kept len xs tail (λ i. fits (suc i)))

pub seven_behind : (len : ℕ) (block tail : List ℕ) → drop len (zip2 bit_and block (replicate len 255 ++ tail)) ≡ zip2 bit_and (drop len block) tail
seven_behind zero block tail = refl
seven_behind (suc len) [] tail = refl
seven_behind (suc len) (x ∷ xs) tail = seven_behind len xs tail

pub seven_all : (n : ℕ) (block : List ℕ) → all_ascii (zip2 bit_and block (replicate n 127)) ≡ true
seven_all n [] = refl
seven_all zero (x ∷ xs) = refl
seven_all (suc n) (x ∷ xs) = and_from _ _ (lt-ltb (bit_and x 127) 128 (omega (arith, and_mask x 7))) (seven_all n xs)

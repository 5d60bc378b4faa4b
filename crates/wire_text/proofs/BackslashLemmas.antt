-- Letters with a backslash before each that has an escape.
use Rattle.std.proofs.Common.{◌≡◌, ℕ, zero, suc, ◌+◌, ◌-◌, ◌*◌, ◌/◌, ◌%◌, ◌^◌, ◌<◌, ◌≤◌, ltb, eqb, cond, List, [], ◌∷◌, ◌++◌, Bool, true, false, map, length, take, drop, get_or, replicate, nat_eq, refl, sym, ap, ap₂, subst, ◌∙◌, arith, append_assoc, take-append-drop, w8, Fits}
use Rattle.std.proofs.lemmas.Bool.{and_parts, eqb-true, ltb-true}
use Rattle.std.proofs.lemmas.List.{drop_more, drop-drop, get_or-map, get_or-take, get_or_append_left, get_or-append_right, length-drop, length-take, length-take-le, take-append-le, take-map, take-take, take_all}
use Rattle.std.proofs.lemmas.Simd.{bitmask_splat, mask_l-lt, mask_l-mod, ones-mask_l_cons, pick_l_left, pick_l-range_with_len, splat_is_map, swz_l, SwzOk}
use Rattle.std.proofs.Math.Nat.{min-le_left, pow-le-pow_right}
use Rattle.std.specs.Int.RustNames.{count_ones}
use Rattle.std.specs.Prelude.{◌&&◌, ◌||◌, not}
use native.Mathlib.Nat.{add-mul-mod_self_left, mul_assoc, mul_left_comm, mul-zero, pow-suc}
use lib.Lanes.{Each1, mask_l, pick_l, sel_l, top, zip2}
use Rattle.json.specs.Print.{escape, escape_byte}
use Rattle.wire_text.specs.Backslashes.{are_letters, backslashed, is_control, letter_of, places_from, row_of, set_of}
use Rattle.wire_text.specs.Fields.{needs_escape, none_needs_escape}
use Rattle.wire_text.proofs.DigitLemmas.{IsBlock, looked_up, places_fit}
use Rattle.wire_text.proofs.EscapeLemmas.{false-true, list_same, list_same_is, upto, upto_holds}
use Rattle.wire_text.proofs.StandLemmas.{below, halved, no_escape_bit, none_set}

-- ---- the letter of each byte

-- the smaller and the larger of two bytes, lane by lane
lanes_min : (f : ℕ → ℕ) (v : List ℕ) → sel_l (map (top 7) (zip2 below v (map f v))) v (map f v) ≡ map (λ x. cond (top 7 (below x (f x))) x (f x)) v
lanes_min f [] = refl
lanes_min f (x ∷ v) = ap (λ (z : List ℕ). cond (top 7 (below x (f x))) x (f x) ∷ z) (lanes_min f v)

lanes_max : (f : ℕ → ℕ) (v : List ℕ) → sel_l (map (top 7) (zip2 below v (map f v))) (map f v) v ≡ map (λ x. cond (top 7 (below x (f x))) (f x) x) v
lanes_max f [] = refl
lanes_max f (x ∷ v) = ap (λ (z : List ℕ). cond (top 7 (below x (f x))) (f x) x ∷ z) (lanes_max f v)

abbrev controls : List ℕ
controls = 0 ∷ 0 ∷ 0 ∷ 0 ∷ 0 ∷ 0 ∷ 0 ∷ 0 ∷ 98 ∷ 116 ∷ 110 ∷ 0 ∷ 102 ∷ 114 ∷ 0 ∷ 0 ∷ []

abbrev pub place : ℕ → ℕ
place x = cond (top 7 (below x 15)) x 15

pub places_are : (v : List ℕ) → length v ≡ 16 → sel_l (map (top 7) (zip2 below v (replicate 16 15))) v (replicate 16 15) ≡ map place v
places_are v long =
    ap (λ (z : List ℕ). sel_l (map (top 7) (zip2 below v z)) v z) (splat_is_map v 16 15 long) ∙ lanes_min (λ _. 15) v

small : (x : ℕ) → x < 256 → place x < 16
small x h = ltb-true (place x) 16 (upto_holds (λ (k : ℕ). ltb (place k) 16) 256 x refl h)

pub control_places : (v : List ℕ) → IsBlock v → SwzOk w8 16 16 0 (sel_l (map (top 7) (zip2 below v (replicate 16 15))) v (replicate 16 15))
control_places v fits = places_fit place v _ fits (places_are v fits.0) small

abbrev found : ℕ → ℕ
found x = get_or controls (place x) 0

abbrev larger : ℕ → ℕ
larger x = cond (top 7 (below x (found x))) (found x) x

larger_is : (x : ℕ) → x < 256 → larger x ≡ letter_of x
larger_is x h = eqb-true (larger x) (letter_of x) (upto_holds (λ (k : ℕ). eqb (larger k) (letter_of k)) 256 x refl h)

same_map : (f g : ℕ → ℕ) → ((x : ℕ) → x < 256 → f x ≡ g x) → (v : List ℕ) → Each1 (Fits w8) v → map f v ≡ map g v
same_map f g same [] fits = refl
same_map f g same (x ∷ v) fits = ap₂ (λ (a : ℕ) (b : List ℕ). a ∷ b) (same x fits.0.fits) (same_map f g same v fits.1)

pub letters_are : (v js : List ℕ) → IsBlock v → js ≡ map place v
    → sel_l (map (top 7) (zip2 below v (swz_l w8 16 controls 0 js))) (swz_l w8 16 controls 0 js) v ≡ map letter_of v
letters_are v js fits is =
    ap (λ (z : List ℕ). sel_l (map (top 7) (zip2 below v z)) z v) (looked_up controls place v js fits is small) ∙ lanes_max found v
    ∙ same_map larger letter_of larger_is v fits.1

-- ---- they are what escapes are made of

abbrev one : ℕ → List ℕ
one x = cond (needs_escape x) (92 ∷ letter_of x ∷ []) (letter_of x ∷ [])

abbrev one_same : ℕ → Bool
one_same x = is_control (letter_of x) || list_same (escape_byte x) (one x)

all_same : upto one_same 256 ≡ true
unfolding escape_byte
all_same = refl

or_second : (a b : Bool) → not a ≡ true → (a || b) ≡ true → b ≡ true
or_second true b is either = absurd (false-true is)
or_second false b is either = either

one_is : (x : ℕ) → x < 256 → not (is_control (letter_of x)) ≡ true → escape_byte x ≡ one x
one_is x h letter = list_same_is _ _ (or_second (is_control (letter_of x)) _ letter (upto_holds one_same 256 x all_same h))

one_more : (escaped : Bool) (letter : ℕ) (others : List ℕ)
    → cond escaped (92 ∷ letter ∷ []) (letter ∷ []) ++ others ≡ cond escaped (92 ∷ letter ∷ others) (letter ∷ others)
one_more true letter others = refl
one_more false letter others = refl

escaped_by : (len : ℕ) (bytes : List ℕ) → Each1 (Fits w8) bytes → are_letters (take len (map letter_of bytes)) ≡ true
    → escape (take len bytes) ≡ backslashed (take len (map needs_escape bytes)) (take len (map letter_of bytes))
escaped_by zero bytes fits letters = refl
escaped_by (suc len) [] fits letters = refl
escaped_by (suc len) (x ∷ bytes) fits letters =
    let parts = and_parts (not (is_control (letter_of x))) _ letters in
    ap₂ (λ (a b : List ℕ). a ++ b) (one_is x fits.0.fits parts.0) (escaped_by len bytes fits.1 parts.1)
    ∙ one_more (needs_escape x) (letter_of x) _

pub escapes_are : (v letters : List ℕ) → IsBlock v → letters ≡ map letter_of v → (len : ℕ) → are_letters (take len letters) ≡ true
    → escape (take len v) ≡ backslashed (take len (map needs_escape v)) (take len letters)
escapes_are v letters fits is len all =
    escaped_by len v fits.1 (ap (λ (z : List ℕ). are_letters (take len z)) (sym is) ∙ all)
    ∙ ap (λ (z : List ℕ). backslashed (take len (map needs_escape v)) (take len z)) (sym is)

pub control_mask : (v : List ℕ) → length v ≡ 16
    → mask_l (map (top 7) (zip2 below v (replicate 16 32))) % 2 ^ 64 ≡ mask_l (map is_control v)
control_mask v long = bitmask_splat w8 ltb v 16 32 long (omega arith)

-- ---- the table of places

abbrev pub rows_ok : ℕ → ℕ → List ℕ → Bool
rows_ok row zero table = true
rows_ok row (suc n) table = list_same (take 16 table) (row_of row) && rows_ok (row + 1) n (drop 16 table)

row_at : (n row k : ℕ) (table : List ℕ) → rows_ok row n table ≡ true → k < n → take 16 (drop (16 * k) table) ≡ row_of (row + k)
row_at zero row k table are inside = absurd (omega (arith, inside))
row_at (suc n) row zero table are inside =
    list_same_is _ _ (and_parts (list_same (take 16 table) (row_of row)) _ are).0 ∙ ap row_of (omega arith)
row_at (suc n) row (suc k) table are inside =
    ap (λ (i : ℕ). take 16 (drop i table)) (omega arith) ∙ ap (take 16) (sym (drop-drop (16 * k) 16 table))
    ∙ row_at n (row + 1) k (drop 16 table) (and_parts (list_same (take 16 table) (row_of row)) _ are).1 (omega (arith, inside)) ∙ ap row_of (omega arith)

pub row_is : (table : List ℕ) (k : ℕ) → rows_ok 0 256 table ≡ true → k < 256 → take 16 (take (16 * k + 16 - 16 * k) (drop (16 * k) table)) ≡ row_of k
row_is table k are inside =
    let step : 16 * k + 16 - 16 * k ≡ 16 = omega arith in
    let same : 0 + k ≡ k = omega arith in
    ap (λ (n : ℕ). take 16 (take n (drop (16 * k) table))) step ∙ take-take 16 16 (drop (16 * k) table) (omega arith) ∙ row_at 256 0 k table are inside ∙ ap row_of same

row_fits : (k : ℕ) → k < 256 → (length (row_of k) ≡ 16) × (map (λ j. j % 16) (row_of k) ≡ row_of k)
row_fits k below = (
  eqb-true _ _ (upto_holds (λ x. eqb (length (row_of x)) 16) 256 k refl below),
  list_same_is _ _ (upto_holds (λ x. list_same (map (λ j. j % 16) (row_of x)) (row_of x)) 256 k refl below),
)

sixteenth : (x : ℕ) → x < 256 → x % 16 < 16
sixteenth x h = omega arith

fits_map : (f : ℕ → ℕ) → ((x : ℕ) → f x < 16) → (v : List ℕ) → Each1 (Fits w8) (map f v)
fits_map f small [] = tt
fits_map f small (x ∷ v) = (record { fits = omega (arith, small x) }, fits_map f small v)

row_block : (k : ℕ) → k < 256 → IsBlock (row_of k)
row_block k below =
    let row = row_fits k below in (
      row.0,
      subst (λ (v : List ℕ). Each1 (Fits w8) v) row.1 (fits_map (λ j. j % 16) (λ x. omega arith) (row_of k)),
    )

pub row_places : (k : ℕ) (row : List ℕ) → row ≡ row_of k → k < 256 → SwzOk w8 16 16 0 row
row_places k row is below = places_fit (λ j. j % 16) (row_of k) row (row_block k below) (is ∙ sym (row_fits k below).1) sixteenth

-- ---- sets of letters

odd : (escaped : Bool) (n : ℕ) → nat_eq ((cond escaped 1 0 + 2 * n) % 2) 1 ≡ escaped
odd true n =
    let is : (1 + 2 * n) % 2 ≡ 1 = omega arith in ap (λ (k : ℕ). nat_eq k 1) is
odd false n =
    let is : (0 + 2 * n) % 2 ≡ 0 = omega arith in ap (λ (k : ℕ). nat_eq k 1) is

pub set_is : (set : List Bool) → set_of (length set) (mask_l set) ≡ set
set_is [] = refl
set_is (escaped ∷ set) =
    ap₂ (λ (a : Bool) (b : List Bool). a ∷ b) (odd escaped (mask_l set))
    (ap (set_of (length set)) (halved escaped (mask_l set)) ∙ set_is set)

no_ones : count_ones 0 ≡ 0
unfolding count_ones
no_ones = refl

pub count_within : (set : List Bool) → count_ones (mask_l set) ≤ length set
count_within [] = omega (arith, no_ones)
count_within (true ∷ set) = omega (arith, ones-mask_l_cons true set, count_within set)
count_within (false ∷ set) = omega (arith, ones-mask_l_cons false set, count_within set)

many_places : (set : List Bool) (i : ℕ) → length (places_from i set) ≡ length set + count_ones (mask_l set)
many_places [] i = omega (arith, no_ones)
many_places (true ∷ set) i = omega (arith, ones-mask_l_cons true set, many_places set (i + 1))
many_places (false ∷ set) i = omega (arith, ones-mask_l_cons false set, many_places set (i + 1))

-- the letters at the places of a set
at_places : (f : ℕ → ℕ) (letters : List ℕ) → f 8 ≡ 92 → ((j : ℕ) → j < length letters → f j ≡ get_or letters j 0)
    → (set : List Bool) (i : ℕ) → i + length set ≡ length letters → map f (places_from i set) ≡ backslashed set (drop i letters)
at_places f letters slot places [] i is = refl
at_places f letters slot places (true ∷ set) i is =
    let inside : i < length letters = omega (arith, is) in
    ap₂ (λ (a : ℕ) (b : List ℕ). a ∷ b) slot
    (ap₂ (λ (a : ℕ) (b : List ℕ). a ∷ b) (places i inside) (at_places f letters slot places set (i + 1) (omega (arith, is))))
    ∙ ap (backslashed (true ∷ set)) (sym (drop_more letters i 0 inside))
at_places f letters slot places (false ∷ set) i is =
    let inside : i < length letters = omega (arith, is) in
    ap₂ (λ (a : ℕ) (b : List ℕ). a ∷ b) (places i inside) (at_places f letters slot places set (i + 1) (omega (arith, is)))
    ∙ ap (backslashed (false ∷ set)) (sym (drop_more letters i 0 inside))

-- eight letters and eight backslashes
abbrev order : List ℕ
order = 0 ∷ 1 ∷ 2 ∷ 3 ∷ 4 ∷ 5 ∷ 6 ∷ 7 ∷ 16 ∷ 16 ∷ 16 ∷ 16 ∷ 16 ∷ 16 ∷ 16 ∷ 16 ∷ []

abbrev backslashes : List ℕ
backslashes = replicate 16 92

abbrev source_at : List ℕ → ℕ → ℕ
source_at letters j = get_or (pick_l 0 (letters ++ backslashes) order) (j % 16) 0

ordered : (j : ℕ) → j < 8 → get_or order (j % 16) 0 ≡ j
ordered j below = eqb-true _ _ (upto_holds (λ x. eqb (get_or order (x % 16) 0) x) 8 j refl below)

source_letter : (letters : List ℕ) → length letters ≡ 16 → (j : ℕ) → j < length (take 8 letters) → source_at letters j ≡ get_or (take 8 letters) j 0
source_letter letters long j inside =
    let below : j < 8 = omega (arith, inside, length-take 8 letters, long) in
    get_or-map (λ (k : ℕ). get_or (letters ++ backslashes) k 0) order (j % 16) 0 0 (omega (arith, below))
    ∙ ap (λ (k : ℕ). get_or (letters ++ backslashes) k 0) (ordered j below)
    ∙ get_or_append_left letters backslashes 0 j (omega (arith, long, below)) ∙ sym (get_or-take 8 letters j 0 below)

source_slot : (letters : List ℕ) → length letters ≡ 16 → source_at letters 8 ≡ 92
source_slot letters long = get_or-append_right letters backslashes 16 16 0 long (omega arith)

picked : (letters row : List ℕ) (k : ℕ) → row ≡ row_of k → k < 256
    → swz_l w8 16 (pick_l 0 (letters ++ backslashes) order) 0 row ≡ map (source_at letters) (row_of k)
picked letters row k is below =
    looked_up (pick_l 0 (letters ++ backslashes) order) (λ j. j % 16) (row_of k) row (row_block k below) (is ∙ sym (row_fits k below).1) sixteenth

pub eight_put : (letters row : List ℕ) (escapes : ℕ) (set : List Bool) → length letters ≡ 16 → row ≡ row_of escapes → escapes < 256 → length set ≡ 8 → escapes ≡ mask_l set
    → take (8 + count_ones escapes) (swz_l w8 16 (pick_l 0 (letters ++ backslashes) order) 0 row) ≡ backslashed set (take 8 letters)
eight_put letters row escapes set long is below eight mask_is =
    let places = places_from 0 set in
    let ones = ap count_ones mask_is in
    let many : length places ≡ 8 + count_ones escapes = omega (arith, many_places set 0, eight, ones) in
    let short : 8 + count_ones escapes ≤ 16 = omega (arith, eight, count_within set, ones) in
    let set_here : set_of 8 escapes ≡ set = ap₂ (λ (a b : ℕ). set_of a b) (sym eight) mask_is ∙ set_is set in
    ap (take (8 + count_ones escapes)) (picked letters row escapes is below) ∙ take-map (source_at letters) (8 + count_ones escapes) (row_of escapes)
    ∙ ap (map (source_at letters))
    (take-take (8 + count_ones escapes) 16 (places_from 0 (set_of 8 escapes) ++ replicate 8 8) short
    ∙ ap (λ (z : List Bool). take (8 + count_ones escapes) (places_from 0 z ++ replicate 8 8)) set_here
    ∙ take-append-le (8 + count_ones escapes) places (replicate 8 8) (omega (arith, many)) ∙ take_all (8 + count_ones escapes) places (omega (arith, many)))
    ∙ at_places (source_at letters) (take 8 letters) (source_slot letters long) (source_letter letters long) set 0 (omega (arith, eight, length-take 8 letters, long))

pub last_eight_are : (letters : List ℕ) → length letters ≡ 16 → pick_l 0 (letters ++ letters) (8 ∷ 9 ∷ 10 ∷ 11 ∷ 12 ∷ 13 ∷ 14 ∷ 15 ∷ []) ≡ drop 8 letters
last_eight_are letters long =
    pick_l_left 0 letters letters 16 (8 ∷ 9 ∷ 10 ∷ 11 ∷ 12 ∷ 13 ∷ 14 ∷ 15 ∷ []) long tt ∙ pick_l-range_with_len 0 letters 8 8 (omega (arith, long))
    ∙ take_all 8 (drop 8 letters) (omega (arith, length-drop 8 letters, long))

-- ---- both eights, and a part of them

pub both_eights : (first second : List Bool) (letters others : List ℕ) → length first ≡ length letters
    → backslashed (first ++ second) (letters ++ others) ≡ backslashed first letters ++ backslashed second others
both_eights [] second [] others same = refl
both_eights [] second (x ∷ letters) others same = absurd (omega (arith, same))
both_eights (escaped ∷ first) second [] others same = absurd (omega (arith, same))
both_eights (true ∷ first) second (x ∷ letters) others same = ap (λ (z : List ℕ). 92 ∷ x ∷ z) (both_eights first second letters others (omega (arith, same)))
both_eights (false ∷ first) second (x ∷ letters) others same = ap (λ (z : List ℕ). x ∷ z) (both_eights first second letters others (omega (arith, same)))

no_letters : (n : ℕ) → take {A = ℕ} n [] ≡ []
no_letters zero = refl
no_letters (suc n) = refl

take_front : (front : List ℕ) (n : ℕ) (bytes : List ℕ) → take (length front + n) (front ++ bytes) ≡ front ++ take n bytes
take_front [] n bytes =
    let none : 0 + n ≡ n = omega arith in ap (λ (k : ℕ). take k bytes) none
take_front (x ∷ front) n bytes =
    let more : length (x ∷ front) + n ≡ suc (length front + n) = omega arith in
    ap (λ (k : ℕ). take k ((x ∷ front) ++ bytes)) more ∙ ap (λ (z : List ℕ). x ∷ z) (take_front front n bytes)

take_behind : (k n : ℕ) (front bytes : List ℕ) → length front ≡ k → take (k + n) (front ++ bytes) ≡ front ++ take n bytes
take_behind k n front bytes long = ap (λ (m : ℕ). take (m + n) (front ++ bytes)) (sym long) ∙ take_front front n bytes

-- of so many letters
pub few_backslashed : (len : ℕ) (set : List Bool) (letters : List ℕ) → length set ≡ length letters
    → take (len + count_ones (mask_l (take len set))) (backslashed set letters) ≡ backslashed (take len set) (take len letters)
few_backslashed zero set letters same =
    let none : 0 + count_ones 0 ≡ 0 = omega (arith, no_ones) in ap (λ (n : ℕ). take n (backslashed set letters)) none
few_backslashed (suc len) [] [] same =
    no_letters (suc len + count_ones 0)
few_backslashed (suc len) [] (x ∷ letters) same = absurd (omega (arith, same))
few_backslashed (suc len) (escaped ∷ set) [] same = absurd (omega (arith, same))
few_backslashed (suc len) (true ∷ set) (x ∷ letters) same =
    let count : suc len + count_ones (mask_l (true ∷ take len set)) ≡ suc (suc (len + count_ones (mask_l (take len set)))) =
    omega (arith, ones-mask_l_cons true (take len set)) in
    ap (λ (n : ℕ). take n (92 ∷ x ∷ backslashed set letters)) count
    ∙ ap (λ (z : List ℕ). 92 ∷ x ∷ z) (few_backslashed len set letters (omega (arith, same)))
few_backslashed (suc len) (false ∷ set) (x ∷ letters) same =
    let count : suc len + count_ones (mask_l (false ∷ take len set)) ≡ suc (len + count_ones (mask_l (take len set))) =
    omega (arith, ones-mask_l_cons false (take len set)) in
    ap (λ (n : ℕ). take n (x ∷ backslashed set letters)) count
    ∙ ap (λ (z : List ℕ). x ∷ z) (few_backslashed len set letters (omega (arith, same)))

-- the first bits of a mask, and those behind
parted : (c t p d q : ℕ) → q ≡ p * 2 → c + 2 * (t + p * d) ≡ (c + 2 * t) + q * d
parted c t p d q is =
    let same : q * d ≡ 2 * (p * d) = ap (λ (n : ℕ). n * d) is ∙ mul_assoc p 2 d ∙ sym (mul_left_comm 2 p d) in omega (arith, same)

pub mask_parts : (k : ℕ) (set : List Bool) → mask_l set ≡ mask_l (take k set) + 2 ^ k * mask_l (drop k set)
mask_parts zero set = omega arith
mask_parts (suc k) [] = omega (arith, mul-zero (2 ^ suc k))
mask_parts (suc k) (escaped ∷ set) =
    ap (λ (n : ℕ). cond escaped 1 0 + 2 * n) (mask_parts k set)
    ∙ parted (cond escaped 1 0) (mask_l (take k set)) (2 ^ k) (mask_l (drop k set)) (2 ^ suc k) (pow-suc 2 k)

pub first_bits : (k : ℕ) (set : List Bool) → mask_l set % 2 ^ k ≡ mask_l (take k set)
first_bits k set =
    ap (λ (n : ℕ). n % 2 ^ k) (mask_parts k set) ∙ add-mul-mod_self_left (mask_l (take k set)) (2 ^ k) (mask_l (drop k set))
    ∙ mask_l-mod (take k set) k (omega (arith, length-take k set, min-le_left k (length set)))

ones_parts : (k : ℕ) (set : List Bool) → count_ones (mask_l (take k set)) + count_ones (mask_l (drop k set)) ≡ count_ones (mask_l set)
ones_parts zero set = omega (arith, no_ones)
ones_parts (suc k) [] = omega (arith, no_ones)
ones_parts (suc k) (true ∷ set) = omega (arith, ones-mask_l_cons true (take k set), ones-mask_l_cons true set, ones_parts k set)
ones_parts (suc k) (false ∷ set) = omega (arith, ones-mask_l_cons false (take k set), ones-mask_l_cons false set, ones_parts k set)

-- ---- sixteen letters in the room

pub sixteen_put : (len begin escapes : ℕ) (set : List Bool) (letters last room middle new : List ℕ) (at end : ℕ)
    → length letters ≡ 16 → length set ≡ 16 → escapes ≡ mask_l set → len ≤ 16 → begin ≤ length room → at ≡ begin + (8 + count_ones (escapes % 256))
    → ((eight : List Bool) → length eight ≡ 8 → escapes % 256 ≡ mask_l eight → take at middle ≡ take begin room ++ backslashed eight (take 8 letters))
    → end ≡ at + (8 + count_ones (escapes / 256))
    → ((eight : List Bool) → length eight ≡ 8 → escapes / 256 ≡ mask_l eight → take end new ≡ take at middle ++ backslashed eight (take 8 last))
    → take 8 last ≡ drop 8 letters
    → (begin + (len + count_ones (escapes % 2 ^ len)) ≤ begin + 2 * len)
    × (take (begin + (len + count_ones (escapes % 2 ^ len))) new ≡ take begin room ++ backslashed (take len set) (take len letters))
sixteen_put len begin escapes set letters last room middle new at end long many mask_is within inside at_is front_put end_is last_put last_is =
    let front = take begin room in
    let first = take 8 set in
    let second = drop 8 set in
    let eight : length first ≡ 8 = length-take-le 8 set (omega (arith, many)) in
    let others : length second ≡ 8 = omega (arith, length-drop 8 set, many) in
    let parts : mask_l set ≡ mask_l first + 256 * mask_l second = mask_parts 8 set in
    let less : mask_l first < 2 ^ 8 = subst (λ (n : ℕ). mask_l first < 2 ^ n) eight (mask_l-lt first) in
    let first_is : escapes % 256 ≡ mask_l first = omega (arith, mask_is, parts, less) in
    let second_is : escapes / 256 ≡ mask_l second = omega (arith, mask_is, parts, less) in
    let all : take end new ≡ front ++ backslashed set letters =
    last_put second others second_is ∙ ap (λ (z : List ℕ). z ++ backslashed second (take 8 last)) (front_put first eight first_is)
    ∙ append_assoc front (backslashed first (take 8 letters)) (backslashed second (take 8 last))
    ∙ ap (λ (z : List ℕ). front ++ z)
    (ap (λ (z : List ℕ). backslashed first (take 8 letters) ++ backslashed second z) last_is
    ∙ sym (both_eights first second (take 8 letters) (drop 8 letters) (eight ∙ sym (length-take-le 8 letters (omega (arith, long)))))
    ∙ ap₂ (λ (a : List Bool) (b : List ℕ). backslashed a b) (take-append-drop 8 set) (take-append-drop 8 letters)) in
    let bits : escapes % 2 ^ len ≡ mask_l (take len set) = ap (λ (n : ℕ). n % 2 ^ len) mask_is ∙ first_bits len set in
    let ones = ap count_ones bits in
    let few = count_within (take len set) in
    let few_long = length-take len set in
    let n = len + count_ones (escapes % 2 ^ len) in
    let before : begin + n ≤ end =
    omega (arith, at_is, end_is, ones, within, ones_parts len set, ones_parts 8 set, ap count_ones first_is, ap count_ones second_is) in (
      omega (arith, ones, few, few_long, min-le_left len (length set)),
      sym (take-take (begin + n) end new before) ∙ ap (take (begin + n)) all
          ∙ take_behind begin n front (backslashed set letters) (length-take-le begin room inside)
          ∙ ap (λ (z : List ℕ). front ++ z)
          (ap (λ (k : ℕ). take (len + k) (backslashed set letters)) ones ∙ few_backslashed len set letters (omega (arith, many, long))),
    )

pub bits_within : (len : ℕ) → len ≤ 32 → 1 * 2 ^ len % 18446744073709551616 ≡ 2 ^ len
bits_within len within =
    let two : 0 < 2 = omega arith in
    let least : 2 ^ len ≤ 2 ^ 32 = pow-le-pow_right two within in
    let below : 2 ^ len ≤ 4294967296 = least in omega (arith, below)

pub low_bits : (len : ℕ) → len ≤ 16 → 1 * 2 ^ len % 18446744073709551616 ≡ 2 ^ len
low_bits len within = bits_within len (omega (arith, within))

-- ---- tests of the first bits

pub marks_within : (p : ℕ → Bool) (len bits : ℕ) (v : List ℕ) → len ≤ 32 → bits ≡ mask_l (map p v)
    → bits % (1 * 2 ^ len % 18446744073709551616) ≡ mask_l (map p (take len v))
marks_within p len bits v within is =
    ap₂ (λ (a b : ℕ). a % b) is (bits_within len within) ∙ first_bits len (map p v) ∙ ap mask_l (take-map p len v)

first_marks : (p : ℕ → Bool) (len bits : ℕ) (v : List ℕ) → len ≤ 16 → bits ≡ mask_l (map p v)
    → bits % (1 * 2 ^ len % 18446744073709551616) ≡ mask_l (map p (take len v))
first_marks p len bits v within is = marks_within p len bits v (omega (arith, within)) is

pub first_need_none : (len bits : ℕ) (v : List ℕ) → len ≤ 16 → bits ≡ mask_l (map needs_escape v) → bits % (1 * 2 ^ len % 18446744073709551616) ≡ 0
    → none_needs_escape (take len v) ≡ true
first_need_none len bits v within is none =
    sym (no_escape_bit (take len v)) ∙ ap (λ (n : ℕ). nat_eq n 0) (sym (first_marks needs_escape len bits v within is) ∙ none)

pub first_letters : (len bits : ℕ) (v : List ℕ) → len ≤ 16 → bits ≡ mask_l (map is_control v) → bits % (1 * 2 ^ len % 18446744073709551616) ≡ 0
    → are_letters (take len v) ≡ true
first_letters len bits v within is none =
    sym (none_set is_control (λ x. not (is_control x)) (λ x. refl) (take len v))
    ∙ ap (λ (n : ℕ). nat_eq n 0) (sym (first_marks is_control len bits v within is) ∙ none)

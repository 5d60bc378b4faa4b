-- Digits that are made sixteen bytes at a time.
use Rattle.std.proofs.Common.{◌≡◌, ℕ, zero, suc, ◌+◌, ◌-◌, ◌*◌, ◌/◌, ◌%◌, ◌<◌, ◌≤◌, List, [], ◌∷◌, ◌++◌, map, length, take, drop, get_or, Result, Ok, Err, OnErr, refl, sym, ap, ap₂, ◌∙◌, append-nil, append_assoc, take-append-drop, arith, w8, Fits}
use Rattle.std.proofs.lemmas.List.{length-append, length-drop, length-map, length-take, get_or-map, get_or_append_left, get_or-append_right, drop_more, drop_all, ext_get_or, take-append-le, take_all}
use Rattle.std.proofs.lemmas.Simd.{Each1-from_get_or, Each1-get_or, swz_l, SwzOk, SwzOk-from_below, length-swz_l, get_or-swz_l_below}
use Rattle.std.proofs.lemmas.Bool.{and_parts, ltb-true}
use Rattle.std.specs.Prelude.{◌&&◌, Bool, nat_lt, slice_index, true}
use Rattle.hex.specs.Hex.{encode_lower, encode_with, lower_digits}
use Rattle.wire_text.specs.Digits.{Pushed}
use Rattle.std.proofs.lemmas.Str.{IsUtf8-from_ascii}
use Rattle.std.proofs.lemmas.Str.Ascii.{IsAscii-cons, IsAscii-nil}
use Rattle.std.specs.Str.{IsAscii, IsUtf8}
use Rattle.hex.proofs.HexLemmas.{IsAscii-encode_with}
use lib.Lanes.{Each1, pick_l}

abbrev pub IsBlock : List ℕ → Type 0
IsBlock v = (length v ≡ 16) × Each1 (Fits w8) v

lane : (v : List ℕ) (i : ℕ) → IsBlock v → i < 16 → get_or v i 0 < 256
lane v i fits within = (Each1-get_or (Fits w8) v i 0 (omega (arith, fits.0)) fits.1).fits

-- each place is one of the table's
pub places_fit : (g : ℕ → ℕ) (v js : List ℕ) → IsBlock v → js ≡ map g v → ((x : ℕ) → x < 256 → g x < 16) → SwzOk w8 16 16 0 js
places_fit g v js fits is small =
    let long : length js ≡ 16 = ap length is ∙ length-map v g ∙ fits.0 in
    SwzOk-from_below w8 16 1 16 0 js refl (omega (arith, long)) (Each1-from_get_or (λ j. j < 16) js 0 (λ i within.
    let place : get_or js i 0 ≡ g (get_or v i 0) = ap (λ (l : List ℕ). get_or l i 0) is ∙ get_or-map g v i 0 0 (omega (arith, long, fits.0)) in
    omega (arith, place, small (get_or v i 0) (lane v i fits (omega (arith, long))))))

-- and what stands there is read
pub looked_up : (table : List ℕ) (g : ℕ → ℕ) (v js : List ℕ) → IsBlock v → js ≡ map g v → ((x : ℕ) → x < 256 → g x < 16)
    → swz_l w8 16 table 0 js ≡ map (λ x. get_or table (g x) 0) v
looked_up table g v js fits is small =
    let long : length js ≡ 16 = ap length is ∙ length-map v g ∙ fits.0 in
    ext_get_or 0 _ _ (length-swz_l w8 16 table 0 js ∙ long ∙ sym (length-map v (λ x. get_or table (g x) 0) ∙ fits.0)) (λ i within.
    let lt : i < 16 = omega (arith, length-swz_l w8 16 table 0 js, long) in
    let inside : i < length v = omega (arith, fits.0, lt) in
    let place : get_or js i 0 ≡ g (get_or v i 0) = ap (λ (l : List ℕ). get_or l i 0) is ∙ get_or-map g v i 0 0 inside in
    let below : get_or js i 0 < 16 = omega (arith, place, small (get_or v i 0) (lane v i fits lt)) in
    let first : 16 * ((0 + i) / 16) + get_or js i 0 ≡ get_or js i 0 = omega (arith, lt) in
    get_or-swz_l_below w8 16 table 0 js i (omega (arith, lt, long)) below ∙ ap (λ (k : ℕ). get_or table k 0) (first ∙ place)
    ∙ sym (get_or-map (λ x. get_or table (g x) 0) v i 0 0 inside))

-- places of n pairs from i on, where the second list begins at place k
abbrev pub turns : ℕ → ℕ → ℕ → List ℕ
turns k i zero = []
turns k i (suc n) = i ∷ (k + i) ∷ turns k (i + 1) n

-- two lists of digits, one digit of each by turns
pub by_turns : (table bytes : List ℕ) (n i : ℕ) → i + n ≡ length bytes
    → pick_l 0 (map (λ b. slice_index table (b / 16)) bytes ++ map (λ b. slice_index table (b % 16)) bytes) (turns (length bytes) i n) ≡ encode_with table (drop i bytes)
unfolding encode_with
by_turns table bytes zero i is = sym (ap (encode_with table) (drop_all i bytes (omega (arith, is))))
by_turns table bytes (suc n) i is =
    let high = λ (b : ℕ). slice_index table (b / 16) in
    let low = λ (b : ℕ). slice_index table (b % 16) in
    let inside : i < length bytes = omega (arith, is) in
    let long = length-map bytes high in
    let behind : (length bytes + i) - length bytes ≡ i = omega arith in
    let first : get_or (map high bytes ++ map low bytes) i 0 ≡ high (get_or bytes i 0) =
    get_or_append_left (map high bytes) (map low bytes) 0 i (omega (arith, inside, long)) ∙ get_or-map high bytes i 0 0 inside in
    let second : get_or (map high bytes ++ map low bytes) (length bytes + i) 0 ≡ low (get_or bytes i 0) =
    get_or-append_right (map high bytes) (map low bytes) (length bytes) (length bytes + i) 0 long (omega arith)
    ∙ ap (λ (k : ℕ). get_or (map low bytes) k 0) behind ∙ get_or-map low bytes i 0 0 inside in
    ap (λ (z : ℕ). z ∷ get_or (map high bytes ++ map low bytes) (length bytes + i) 0 ∷ pick_l 0 (map high bytes ++ map low bytes) (turns (length bytes) (i + 1) n)) first
    ∙ ap (λ (z : ℕ). high (get_or bytes i 0) ∷ z ∷ pick_l 0 (map high bytes ++ map low bytes) (turns (length bytes) (i + 1) n)) second
    ∙ ap (λ (z : List ℕ). high (get_or bytes i 0) ∷ low (get_or bytes i 0) ∷ z) (by_turns table bytes n (i + 1) (omega (arith, is)))
    ∙ sym (ap (encode_with table) (drop_more bytes i 0 inside))

-- of sixteen bytes
pub block_by_turns : (bytes high low : List ℕ) → length bytes ≡ 16 → high ≡ map (λ b. slice_index lower_digits (b / 16)) (take 16 bytes)
    → low ≡ map (λ b. slice_index lower_digits (b % 16)) (take 16 bytes) → pick_l 0 (high ++ low) (turns 16 0 16) ≡ encode_lower bytes
block_by_turns bytes high low long high_is low_is =
    let whole = take_all 16 bytes (omega (arith, long)) in
    let first = map (λ (b : ℕ). slice_index lower_digits (b / 16)) bytes in
    let second = map (λ (b : ℕ). slice_index lower_digits (b % 16)) bytes in
    ap (λ (z : List ℕ). pick_l 0 (z ++ low) (turns 16 0 16)) (high_is ∙ ap (map (λ (b : ℕ). slice_index lower_digits (b / 16))) whole)
    ∙ ap (λ (z : List ℕ). pick_l 0 (first ++ z) (turns 16 0 16)) (low_is ∙ ap (map (λ (b : ℕ). slice_index lower_digits (b % 16))) whole)
    ∙ ap (λ (k : ℕ). pick_l 0 (first ++ second) (turns k 0 16)) (sym long) ∙ by_turns lower_digits bytes 16 0 (omega (arith, long))

length_digits : (table bytes : List ℕ) → length (encode_with table bytes) ≡ 2 * length bytes
unfolding encode_with
length_digits table [] = refl
length_digits table (b ∷ rest) = omega (arith, length_digits table rest)

-- the digits of one part after those of another
pub digits_more : (table first second : List ℕ) → encode_with table (first ++ second) ≡ encode_with table first ++ encode_with table second
unfolding encode_with
digits_more table [] second = refl
digits_more table (b ∷ rest) second = ap (λ (z : List ℕ). slice_index table (b / 16) ∷ slice_index table (b % 16) ∷ z) (digits_more table rest second)

-- what more bytes after them leave in front
pub front_digits : (bytes more : List ℕ) → take (2 * length bytes) (encode_lower (bytes ++ more)) ≡ encode_lower bytes
front_digits bytes more =
    let long = length_digits lower_digits bytes in
    ap (take (2 * length bytes)) (digits_more lower_digits bytes more)
    ∙ take-append-le (2 * length bytes) (encode_lower bytes) (encode_lower more) (omega (arith, long))
    ∙ take_all (2 * length bytes) (encode_lower bytes) (omega (arith, long))

pub none_yet : (held text : List ℕ) → text ≡ held → text ≡ held ++ encode_lower []
unfolding encode_with
none_yet held text is = is ∙ sym (append-nil held)

pub block_more : (n : ℕ) (bytes rest block behind held text digits left : List ℕ) → Pushed bytes rest held text → block ≡ take n rest → behind ≡ drop n rest
    → digits ≡ encode_lower block → left ≡ text ++ digits → Pushed bytes behind held left
block_more n bytes rest block behind held text digits left so_far block_is behind_is digits_is left_is = (
  so_far.0 ++ block,
  append_assoc so_far.0 block behind
      ∙ ap (λ (z : List ℕ). so_far.0 ++ z) (ap₂ (λ (a b : List ℕ). a ++ b) block_is behind_is ∙ take-append-drop n rest) ∙ so_far.1,
  left_is ∙ ap₂ (λ (a b : List ℕ). a ++ b) so_far.2 digits_is ∙ append_assoc held (encode_lower so_far.0) (encode_lower block)
      ∙ ap (λ (z : List ℕ). held ++ z) (sym (digits_more lower_digits so_far.0 block)),
)

pub all_pushed : (bytes rest held text : List ℕ) → Pushed bytes rest held text → text ++ encode_lower rest ≡ held ++ encode_lower bytes
all_pushed bytes rest held text so_far =
    ap (λ (z : List ℕ). z ++ encode_lower rest) so_far.2 ∙ append_assoc held (encode_lower so_far.0) (encode_lower rest)
    ∙ ap (λ (z : List ℕ). held ++ z) (sym (digits_more lower_digits so_far.0 rest) ∙ ap encode_lower so_far.1)

-- the digits in front, where what is after them does not count
pub last_pushed : (bytes copied more digits held left : List ℕ) → copied ≡ bytes → digits ≡ encode_lower (copied ++ more) → left ≡ held ++ take (2 * length bytes) digits
    → left ≡ held ++ encode_lower bytes
last_pushed bytes copied more digits held left copied_is digits_is left_is =
    left_is ∙ ap (λ (z : List ℕ). held ++ z)
    (ap (take (2 * length bytes)) (digits_is ∙ ap (λ (z : List ℕ). encode_lower (z ++ more)) copied_is) ∙ front_digits bytes more)

-- a block that bytes begin, and its digits
pub part_of_block : (n : ℕ) (block : List ℕ) → length block ≡ 16 → n ≤ 16 → length (take n block) ≡ n
part_of_block n block long few = omega (arith, length-take n block)

pub whole_block : (bytes copied block : List ℕ) → copied ≡ bytes → length block ≡ 16 → length bytes ≤ 16 → length (copied ++ drop (length bytes) block) ≡ 16
whole_block bytes copied block is long few =
    let one = length-append copied (drop (length bytes) block) in
    let other = length-drop (length bytes) block in omega (arith, one, other, ap length is)

pub block_digits : (n : ℕ) (block digits : List ℕ) → digits ≡ encode_lower block → length block ≡ 16 → n ≤ 16 → 2 * n ≤ length digits
block_digits n block digits is long few = omega (arith, ap length is, length_digits lower_digits block)

-- how many digits a block has
pub digits_of_block : (n : ℕ) (rest block behind digits : List ℕ) → block ≡ take n rest → length behind + n ≡ length rest → digits ≡ encode_lower block
    → length digits ≡ 2 * n
digits_of_block n rest block behind digits block_is left digits_is =
    ap length digits_is ∙ omega (arith, length_digits lower_digits block, ap length block_is, length-take n rest, left)

-- the digits of a block's two halves
pub halves : (n : ℕ) (bytes front behind first second place : List ℕ) → front ≡ take n bytes → behind ≡ drop n bytes → first ≡ encode_lower front
    → second ≡ encode_lower behind → place ≡ first ++ second → place ≡ encode_lower bytes
halves n bytes front behind first second place front_is behind_is first_is second_is is =
    is ∙ ap₂ (λ (a b : List ℕ). a ++ b) (first_is ∙ ap encode_lower front_is) (second_is ∙ ap encode_lower behind_is)
    ∙ sym (digits_more lower_digits (take n bytes) (drop n bytes)) ∙ ap encode_lower (take-append-drop n bytes)

-- no refusal, where there is room
pub never_full : {T E : Type 0} (result : Result T E) (P : Type 0) (len more room : ℕ) → OnErr result (room < len + more) → len + more ≤ room → OnErr result P
never_full (Ok _) P len more room full within = tt
never_full (Err _) P len more room full within = absurd (omega (arith, full, within))

-- digits are of ASCII
abbrev below : List ℕ → Bool
below [] = true
below (b ∷ bs) = nat_lt b 128 && below bs

ascii_if : (bs : List ℕ) → below bs ≡ true → IsAscii bs
ascii_if [] is = IsAscii-nil
ascii_if (b ∷ bs) is =
    let parts = and_parts (nat_lt b 128) _ is in
    IsAscii-cons b bs (ltb-true b 128 parts.0) (ascii_if bs parts.1)

digits_ascii : IsAscii lower_digits
digits_ascii = ascii_if lower_digits refl

pub digits_utf8 : (bytes : List ℕ) → IsUtf8 (encode_lower bytes)
digits_utf8 bytes =
    IsUtf8-from_ascii _ (IsAscii-encode_with lower_digits bytes digits_ascii)

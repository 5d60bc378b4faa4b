-- What stands for a byte where JSON quotes it.
use Rattle.std.proofs.Common.{◌≡◌, ℕ, zero, suc, ◌+◌, ◌*◌, ◌-◌, ◌/◌, ◌%◌, ◌<◌, ◌≤◌, ◌⊎◌, inl, inr, leb, eqb, cond, drop, take, List, [], ◌∷◌, ◌++◌, Bool, true, false, refl, ap, ap₂, sym, subst, ◌∙◌, append_assoc, append-nil, take-append-drop, arith, length, get_or, Result, Ok, Err, OnOk, OnErr}
use Rattle.std.proofs.lemmas.Bool.{and_parts, eqb-true}
use Rattle.std.proofs.lemmas.Bool.Decides.{leb_tells}
use Rattle.std.proofs.lemmas.Grind.{flat_map-append}
use Rattle.std.proofs.lemmas.List.{drop-drop, drop-take, length-append, length-drop, length-take, take_more, take-append-le, take-take, take_all}
use Rattle.std.proofs.lemmas.List.Sums.{prefix_len-le-length}
use Rattle.std.proofs.Math.Nat.{min-le_left}
use Rattle.std.specs.List.{prefix_len}
use Rattle.std.specs.Prelude.{◌&&◌, if◌then◌else◌, slice_index_or}
use Rattle.std.specs.Result.{is_ok}
use Rattle.json.specs.Print.{escape, escape_byte, quoted}
use Rattle.wire_text.specs.Fields.{escape_mark, needs_no_escape, none_needs_escape}
use Rattle.wire_text.proofs.FieldLemmas.{escape-none_needs_escape, is_false}
use Rattle.wire_text.proofs.StandLemmas.{run_passes, same_front}

-- a test of all numbers below one
abbrev pub upto : (ℕ → Bool) → ℕ → Bool
upto p zero = true
upto p (suc n) = p n && upto p n

upto_last : (p : ℕ → Bool) (n x : ℕ) → p n ≡ true → (x < n → p x ≡ true) → ((leb (suc x) n ≡ true) × (suc x ≤ n)) ⊎ ((leb (suc x) n ≡ false) × (n < suc x))
    → x < suc n → p x ≡ true
upto_last p n x last others (inl less) below = others less.1
upto_last p n x last others (inr more) below = subst (λ (k : ℕ). p k ≡ true) (omega (arith, more.1, below)) last

pub upto_holds : (p : ℕ → Bool) (n x : ℕ) → upto p n ≡ true → x < n → p x ≡ true
upto_holds p zero x is below = absurd (omega (arith, below))
upto_holds p (suc n) x is below =
    let parts = and_parts (p n) _ is in
    upto_last p n x parts.0 (upto_holds p n x parts.1) (leb_tells (suc x) n) below

abbrev pub list_same : List ℕ → List ℕ → Bool
list_same [] [] = true
list_same [] (y ∷ ys) = false
list_same (x ∷ xs) [] = false
list_same (x ∷ xs) (y ∷ ys) = eqb x y && list_same xs ys

pub false-true : false ≡ true → ⊥
false-true is = subst (λ (test : Bool). cond test ⊥ (Unit {0})) is tt

pub list_same_is : (xs ys : List ℕ) → list_same xs ys ≡ true → xs ≡ ys
list_same_is [] [] is = refl
list_same_is [] (y ∷ ys) is = absurd (false-true is)
list_same_is (x ∷ xs) [] is = absurd (false-true is)
list_same_is (x ∷ xs) (y ∷ ys) is =
    let parts = and_parts (eqb x y) _ is in ap₂ (λ (a : ℕ) (b : List ℕ). a ∷ b) (eqb-true x y parts.0) (list_same_is xs ys parts.1)

abbrev letters : List ℕ
letters = 117 ∷ 117 ∷ 117 ∷ 117 ∷ 117 ∷ 117 ∷ 117 ∷ 117 ∷ 98 ∷ 116 ∷ 110 ∷ 117 ∷ 102 ∷ 114 ∷ 117 ∷ 117 ∷ 117 ∷ 117 ∷ 117 ∷ 117 ∷ 117 ∷ 117 ∷ 117 ∷ 117 ∷ 117 ∷ 117 ∷ 117 ∷ 117 ∷ 117 ∷ 117 ∷ 117 ∷ 117 ∷ 0 ∷ 0 ∷ 34 ∷ 0 ∷ 0 ∷ 0 ∷ 0 ∷ 0 ∷ 0 ∷ 0 ∷ 0 ∷ 0 ∷ 0 ∷ 0 ∷ 0 ∷ 0 ∷ 0 ∷ 0 ∷ 0 ∷ 0 ∷ 0 ∷ 0 ∷ 0 ∷ 0 ∷ 0 ∷ 0 ∷ 0 ∷ 0 ∷ 0 ∷ 0 ∷ 0 ∷ 0 ∷ 0 ∷ 0 ∷ 0 ∷ 0 ∷ 0 ∷ 0 ∷ 0 ∷ 0 ∷ 0 ∷ 0 ∷ 0 ∷ 0 ∷ 0 ∷ 0 ∷ 0 ∷ 0 ∷ 0 ∷ 0 ∷ 0 ∷ 0 ∷ 0 ∷ 0 ∷ 0 ∷ 0 ∷ 0 ∷ 0 ∷ 0 ∷ 0 ∷ 92 ∷ 0 ∷ 0 ∷ 0 ∷ 0 ∷ 0 ∷ 0 ∷ 0 ∷ 0 ∷ 0 ∷ 0 ∷ 0 ∷ 0 ∷ 0 ∷ 0 ∷ 0 ∷ 0 ∷ 0 ∷ 0 ∷ 0 ∷ 0 ∷ 0 ∷ 0 ∷ 0 ∷ 0 ∷ 0 ∷ 0 ∷ 0 ∷ 0 ∷ 0 ∷ 0 ∷ 0 ∷ 0 ∷ 0 ∷ 0 ∷ 0 ∷ 0 ∷ 0 ∷ 0 ∷ 0 ∷ 0 ∷ 0 ∷ 0 ∷ 0 ∷ 0 ∷ 0 ∷ 0 ∷ 0 ∷ 0 ∷ 0 ∷ 0 ∷ 0 ∷ 0 ∷ 0 ∷ 0 ∷ 0 ∷ 0 ∷ 0 ∷ 0 ∷ 0 ∷ 0 ∷ 0 ∷ 0 ∷ 0 ∷ 0 ∷ 0 ∷ 0 ∷ 0 ∷ 0 ∷ 0 ∷ 0 ∷ 0 ∷ 0 ∷ 0 ∷ 0 ∷ 0 ∷ 0 ∷ 0 ∷ 0 ∷ 0 ∷ 0 ∷ 0 ∷ 0 ∷ 0 ∷ 0 ∷ 0 ∷ 0 ∷ 0 ∷ 0 ∷ 0 ∷ 0 ∷ 0 ∷ 0 ∷ 0 ∷ 0 ∷ 0 ∷ 0 ∷ 0 ∷ 0 ∷ 0 ∷ 0 ∷ 0 ∷ 0 ∷ 0 ∷ 0 ∷ 0 ∷ 0 ∷ 0 ∷ 0 ∷ 0 ∷ 0 ∷ 0 ∷ 0 ∷ 0 ∷ 0 ∷ 0 ∷ 0 ∷ 0 ∷ 0 ∷ 0 ∷ 0 ∷ 0 ∷ 0 ∷ 0 ∷ 0 ∷ 0 ∷ 0 ∷ 0 ∷ 0 ∷ 0 ∷ 0 ∷ 0 ∷ 0 ∷ 0 ∷ 0 ∷ 0 ∷ 0 ∷ 0 ∷ 0 ∷ 0 ∷ 0 ∷ 0 ∷ 0 ∷ 0 ∷ 0 ∷ 0 ∷ 0 ∷ 0 ∷ 0 ∷ 0 ∷ 0 ∷ 0 ∷ 0 ∷ 0 ∷ 0 ∷ 0 ∷ 0 ∷ 0 ∷ 0 ∷ 0 ∷ 0 ∷ 0 ∷ 0 ∷ 0 ∷ []

-- the table has each byte's letter
pub letter_is : (byte : ℕ) → byte < 256 → slice_index_or letters byte 0 ≡ escape_mark byte
letter_is byte below = eqb-true _ _ (upto_holds (λ x. eqb (slice_index_or letters x 0) (escape_mark x)) 256 byte refl below)

abbrev hexes : List ℕ
hexes = 48 ∷ 49 ∷ 50 ∷ 51 ∷ 52 ∷ 53 ∷ 54 ∷ 55 ∷ 56 ∷ 57 ∷ 97 ∷ 98 ∷ 99 ∷ 100 ∷ 101 ∷ 102 ∷ []

abbrev in_digits : ℕ → List ℕ
in_digits byte = 92 ∷ 117 ∷ 48 ∷ 48 ∷ slice_index_or hexes (byte / 16) 0 ∷ slice_index_or hexes (byte % 16) 0 ∷ []

abbrev other_letter : ℕ → ℕ → List ℕ
other_letter letter byte = cond (eqb letter 117) (in_digits byte) (92 ∷ letter ∷ [])

eqb-no : (a b : ℕ) → (a ≡ b → ⊥) → eqb a b ≡ false
eqb-no a b never = is_false (eqb a b) (λ is. never (eqb-true a b is))

-- an escape of this letter
abbrev of_letter : ℕ → ℕ → List ℕ
of_letter letter byte = cond (eqb letter 0) (byte ∷ []) (other_letter letter byte)

same_escapes : upto (λ byte. list_same (of_letter (escape_mark byte) byte) (escape_byte byte)) 256 ≡ true
unfolding escape_byte
same_escapes = refl

escape_is : (byte : ℕ) → byte < 256 → of_letter (escape_mark byte) byte ≡ escape_byte byte
escape_is byte below = list_same_is _ _ (upto_holds (λ x. list_same (of_letter (escape_mark x) x) (escape_byte x)) 256 byte same_escapes below)

pub no_letter : (byte letter : ℕ) → byte < 256 → letter ≡ escape_mark byte → letter ≡ 0 → byte ∷ [] ≡ escape_byte byte
no_letter byte letter below is none =
    sym (ap (λ (test : Bool). cond test (byte ∷ []) (other_letter letter byte)) (ap (λ (l : ℕ). eqb l 0) none)) ∙ ap (λ (l : ℕ). of_letter l byte) is ∙ escape_is byte below

pub short_letter : (byte letter : ℕ) → byte < 256 → letter ≡ escape_mark byte → (letter ≡ 0 → ⊥) → (letter ≡ 117 → ⊥)
    → 92 ∷ letter ∷ [] ≡ escape_byte byte
short_letter byte letter below is some short =
    sym (ap (λ (test : Bool). cond test (byte ∷ []) (other_letter letter byte)) (eqb-no letter 0 some) ∙ ap (λ (test : Bool). cond test (in_digits byte) (92 ∷ letter ∷ [])) (eqb-no letter 117 short))
    ∙ ap (λ (l : ℕ). of_letter l byte) is ∙ escape_is byte below

pub hex_letter : (byte letter : ℕ) → byte < 256 → letter ≡ escape_mark byte → letter ≡ 117
    → 92 ∷ letter ∷ 48 ∷ 48 ∷ slice_index_or hexes (byte / 16) 0 ∷ slice_index_or hexes (byte % 16) 0 ∷ [] ≡ escape_byte byte
hex_letter byte letter below is same =
    ap (λ (l : ℕ). 92 ∷ l ∷ 48 ∷ 48 ∷ slice_index_or hexes (byte / 16) 0 ∷ slice_index_or hexes (byte % 16) 0 ∷ []) same
    ∙ sym (ap (λ (l : ℕ). of_letter l byte) same) ∙ ap (λ (l : ℕ). of_letter l byte) is ∙ escape_is byte below

-- ---- in a room

-- so much of a room of this size is filled, after what stood there
abbrev pub FilledTo : List ℕ → ℕ → ℕ → List ℕ → ℕ → ℕ → List ℕ → Type 0
FilledTo front begin size words place at room =
    (length room ≡ size) × (at ≤ begin + 6 * place) × (take at room ≡ front ++ escape (take place words))

pub filled_begins : (front words room : List ℕ) (begin : ℕ) → front ≡ take begin room → FilledTo front begin (length room) words 0 begin room
filled_begins front words room begin front_is = (refl, omega arith, sym front_is ∙ sym (append-nil front))

block_in : (at len size : ℕ) (room block : List ℕ) → at + size ≤ length room → length block ≡ size → len ≤ size
    → take (at + len) (take at room ++ (block ++ drop (at + size) room)) ≡ take at room ++ take len block
block_in at len size room block within long short =
    let front : length (take at room) ≡ at = omega (arith, length-take at room, within) in
    let part : length (take len block) ≡ len = omega (arith, length-take len block, long, short) in
    let rest = drop len block ++ drop (at + size) room in
    let parted = ap (λ (z : List ℕ). z ++ drop (at + size) room) (sym (take-append-drop len block)) ∙ append_assoc (take len block) (drop len block) (drop (at + size) room) in
    ap (λ (z : List ℕ). take (at + len) (take at room ++ z)) parted
    ∙ ap (take (at + len)) (sym (append_assoc (take at room) (take len block) rest))
    ∙ take-append-le (at + len) (take at room ++ take len block) rest (omega (arith, length-append (take at room) (take len block), front, part))
    ∙ take_all (at + len) (take at room ++ take len block) (omega (arith, length-append (take at room) (take len block), front, part))

escape_more : (place : ℕ) (words : List ℕ) → place < length words → escape (take (place + 1) words) ≡ escape (take place words) ++ escape_byte (get_or words place 0)
escape_more place words inside =
    ap escape (take_more words place 0 inside) ∙ flat_map-append escape_byte (take place words) (get_or words place 0 ∷ [])
    ∙ ap (λ (z : List ℕ). escape (take place words) ++ z) (append-nil (escape_byte (get_or words place 0)))

-- a block in the room
pub block_put : (at len : ℕ) (room block new bytes : List ℕ) → at + length block ≤ length room → len ≤ length block → take len block ≡ bytes
    → new ≡ take at room ++ block ++ drop (at + length block) room → take (at + len) new ≡ take at room ++ bytes
block_put at len room block new bytes within short is new_is =
    ap (take (at + len)) (new_is ∙ append_assoc (take at room) block (drop (at + length block) room)) ∙ block_in at len (length block) room block within refl short
    ∙ ap (λ (z : List ℕ). take at room ++ z) is

pub block_long : (at : ℕ) (room block new : List ℕ) → at + length block ≤ length room → new ≡ take at room ++ block ++ drop (at + length block) room → length new ≡ length room
block_long at room block new within new_is =
    omega (
      arith,
      within,
      ap length new_is,
      length-append (take at room ++ block) (drop (at + length block) room),
      length-append (take at room) block,
      length-take at room,
      length-drop (at + length block) room,
    )

-- one byte more
pub filled_on : (front words : List ℕ) (begin size place at next : ℕ) (room new : List ℕ) → FilledTo front begin size words place at room → place < length words
    → length new ≡ length room → next ≤ at + 6 → take next new ≡ take at room ++ escape_byte (get_or words place 0) → FilledTo front begin size words (place + 1) next new
filled_on front words begin size place at next room new filled inside long short is = (
  long ∙ filled.0,
  omega (arith, filled.1, short),
  is ∙ ap (λ (z : List ℕ). z ++ escape_byte (get_or words place 0)) filled.2 ∙ append_assoc front (escape (take place words)) (escape_byte (get_or words place 0))
      ∙ ap (λ (z : List ℕ). front ++ z) (sym (escape_more place words inside)),
)

-- one part after another
pub escape_append : (first second : List ℕ) → escape (first ++ second) ≡ escape first ++ escape second
escape_append first second = flat_map-append escape_byte first second

take_split : (n m : ℕ) (words : List ℕ) → take n words ++ take m (drop n words) ≡ take (n + m) words
take_split n m words =
    ap₂ (λ (a b : List ℕ). a ++ b) (sym (take-take n (n + m) words (omega arith))) (sym (drop-take n m words))
    ∙ ap (λ (z : List ℕ). z ++ drop n (take (n + m) words)) refl ∙ take-append-drop n (take (n + m) words)

-- more bytes that need none, in a block
pub filled_by : (front words : List ℕ) (begin size place at n : ℕ) (room block new : List ℕ) → FilledTo front begin size words place at room → at + length block ≤ length room
    → n ≤ length block → take n block ≡ take n (drop place words) → none_needs_escape (take n (drop place words)) ≡ true
    → new ≡ take at room ++ block ++ drop (at + length block) room → FilledTo front begin size words (place + n) (at + n) new
filled_by front words begin size place at n room block new filled within short same none new_is = (
  block_long at room block new within new_is ∙ filled.0,
  omega (arith, filled.1),
  block_put at n room block new (escape (take n (drop place words))) within short (same ∙ sym (escape-none_needs_escape (take n (drop place words)) none)) new_is
      ∙ ap (λ (z : List ℕ). z ++ escape (take n (drop place words))) filled.2 ∙ append_assoc front (escape (take place words)) (escape (take n (drop place words)))
      ∙ ap (λ (z : List ℕ). front ++ z) (sym (escape_append (take place words) (take n (drop place words))) ∙ ap escape (take_split place n words)),
)

-- of the first sixteen bytes, so many come before the next that needs one
abbrev pub RunIs : List ℕ → ℕ → ℕ → Type 0
RunIs source place run = run ≡ prefix_len needs_no_escape (drop place (take 16 source))

pub run_within : (source : List ℕ) (place run : ℕ) → RunIs source place run → run ≤ 16
run_within source place run is =
    omega (arith, is, prefix_len-le-length needs_no_escape (drop place (take 16 source)), length-drop place (take 16 source), length-take 16 source, min-le_left 16 (length source))

-- those of them that are put
pub run_put : (front source : List ℕ) (begin size place at n run : ℕ) (room block new : List ℕ) → FilledTo front begin size source place at room → RunIs source place run
    → at + 16 ≤ length room → n ≤ run → place + n ≤ 16 → block ≡ take (place + 16 - place) (drop place source) → place + 16 ≤ length source
    → new ≡ take at room ++ block ++ drop (at + length block) room → FilledTo front begin size source (place + n) (at + n) new
run_put front source begin size place at n run room block new filled run_is room_left fewer inside block_is long new_is =
    let size_is : place + 16 - place ≡ 16 = omega arith in
    let block_same : block ≡ take 16 (drop place source) = block_is ∙ ap (λ (k : ℕ). take k (drop place source)) size_is in
    let block_long : length block ≡ 16 = omega (arith, ap length block_same, length-take 16 (drop place source), length-drop place source, long) in
    let seen = same_front place n 16 16 source inside (omega (arith, inside)) in
    let few : n ≤ 16 = omega (arith, inside) in
    let same = take-take n 16 (drop place source) few in
    let none = ap none_needs_escape (sym same ∙ seen) ∙ run_passes needs_no_escape n (drop place (take 16 source)) (omega (arith, fewer, run_is)) in
    filled_by front source begin size place at n room block new filled (omega (arith, block_long, room_left)) (omega (arith, block_long, few))
    (ap (take n) block_same ∙ same) none new_is

-- a part more
pub part_put : (front words : List ℕ) (begin size place at len next : ℕ) (room part new : List ℕ) → FilledTo front begin size words place at room
    → part ≡ take len (drop place words) → next ≤ at + 6 * len → take next new ≡ take at room ++ escape part → length new ≡ length room
    → FilledTo front begin size words (place + len) next new
part_put front words begin size place at len next room part new filled part_is short is long = (
  long ∙ filled.0,
  omega (arith, filled.1, short),
  is ∙ ap₂ (λ (a b : List ℕ). a ++ escape b) filled.2 part_is ∙ append_assoc front (escape (take place words)) (escape (take len (drop place words)))
      ∙ ap (λ (z : List ℕ). front ++ z) (sym (escape_append (take place words) (take len (drop place words))) ∙ ap escape (take_split place len words)),
)

-- the room is filled up to these bytes, which are left of some
abbrev pub FilledBefore : List ℕ → ℕ → ℕ → List ℕ → List ℕ → ℕ → List ℕ → Type 0
FilledBefore front begin size words rest at room =
    (place : ℕ) × (rest ≡ drop place words) × (place ≤ length words) × FilledTo front begin size words place at room

pub before_begins : (front words room : List ℕ) (begin : ℕ) → front ≡ take begin room → FilledBefore front begin (length room) words words begin room
before_begins front words room begin front_is = (0, refl, omega arith, filled_begins front words room begin front_is)

-- a part more of what is left
pub before_on : (n : ℕ) (front words rest part behind : List ℕ) (begin size at next : ℕ) (room new : List ℕ) → FilledBefore front begin size words rest at room
    → n ≤ length rest → part ≡ take n rest → behind ≡ take (length rest - n) (drop n rest) → next ≤ at + 6 * n → take next new ≡ take at room ++ escape part
    → length new ≡ length room → FilledBefore front begin size words behind next new
before_on n front words rest part behind begin size at next room new so_far within part_is behind_is short is long =
    let left = ap length so_far.1 ∙ length-drop so_far.0 words in (
      so_far.0 + n,
      behind_is ∙ take_all (length rest - n) (drop n rest) (omega (arith, length-drop n rest)) ∙ ap (drop n) so_far.1 ∙ drop-drop n so_far.0 words ∙ ap (λ (k : ℕ). drop k words) (omega arith),
      omega (arith, so_far.2, within, left),
      part_put front words begin size so_far.0 at n next room part new so_far.3 (part_is ∙ ap (take n) so_far.1) short is long,
    )

-- the last of it
pub before_ends : (front words rest : List ℕ) (begin size at next : ℕ) (room new : List ℕ) → FilledBefore front begin size words rest at room
    → next ≤ at + 6 * length rest → take next new ≡ take at room ++ escape rest → length new ≡ length room
    → (next ≤ begin + 6 * length words) × (take next new ≡ front ++ escape words) × (length new ≡ size)
before_ends front words rest begin size at next room new so_far short is long =
    let left = ap length so_far.1 ∙ length-drop so_far.0 words in
    let all = part_put front words begin size so_far.0 at (length rest) next room rest new so_far.3
    (sym (take_all (length rest) rest (omega arith)) ∙ ap (take (length rest)) so_far.1) short is long in (
      omega (arith, all.1, left, so_far.2),
      all.2 ∙ ap (λ (z : List ℕ). front ++ escape z) (take_all (so_far.0 + length rest) words (omega (arith, left))),
      all.0,
    )

-- bytes in front of others
pub filled_front : (words put behind : List ℕ) → put ≡ words → take (length words) (put ++ behind) ≡ words
filled_front words put behind is =
    ap (λ (z : List ℕ). take (length words) (z ++ behind)) is ∙ take-append-le (length words) words behind (omega arith)
    ∙ take_all (length words) words (omega arith)

-- a text between quotes, after the first
pub quoted_put : (words text filled : List ℕ) → filled ≡ 34 ∷ escape words → text ≡ filled ++ 34 ∷ [] → text ≡ quoted words
quoted_put words text filled filled_is is = is ∙ ap (λ (z : List ℕ). z ++ 34 ∷ []) filled_is

-- the room that is needed
pub first_long : (source : List ℕ) → length source ≡ 32 → length (take 16 source) ≡ 16
first_long source long = omega (arith, length-take 16 source)

pub part_few : (len : ℕ) → len ≤ 16 → len < 64
part_few len few = omega arith

pub part_fits : (begin : ℕ) (source room : List ℕ) → length source ≡ 32 → begin + 112 ≤ length room → begin + length (take 16 source) ≤ length room
part_fits begin source room long fits = omega (arith, first_long source long)

pub part_room : (begin size : ℕ) → begin + 112 ≤ size → begin + 32 ≤ size
part_room begin size fits = omega arith

pub runs_room : (begin len size : ℕ) → len ≤ 16 → begin + 112 ≤ size → begin + 6 * len + 16 ≤ size
runs_room begin len size few fits = omega arith

pub run_fits : (begin at done len size : ℕ) (source room : List ℕ) → length room ≡ size → at ≤ begin + 6 * done → done ≤ len → begin + 6 * len + 16 ≤ size
    → at + length (take (done + 16 - done) (drop done source)) ≤ length room
run_fits begin at done len size source room same begun within fits = omega (arith, length-take (done + 16 - done) (drop done source))

pub byte_fits : (begin at done run len size : ℕ) (old room : List ℕ) → length room ≡ length old → length old ≡ size → at ≤ begin + 6 * done → done + run < len → begin + 6 * len + 16 ≤ size
    → at + run + 8 ≤ length room
byte_fits begin at done run len size old room kept same begun within fits = omega arith

pub less_left : (len done run : ℕ) → done + run < len → len - (done + (run + 1)) < len - done
less_left len done run within = omega arith

-- ---- block by block

-- the escapes of what is done of some bytes stand after what was held, and this is left of them
abbrev pub Escaped : List ℕ → List ℕ → List ℕ → List ℕ → Type 0
Escaped words rest held text = (done : List ℕ) × (done ++ rest ≡ words) × (text ≡ held ++ escape done)

pub none_escaped : (held : List ℕ) (words : List ℕ) → Escaped words words held held
none_escaped held words = ([], refl, sym (append-nil held))

-- one block more
pub block_escaped : (n : ℕ) (words rest block behind held text left : List ℕ) → Escaped words rest held text → block ≡ take n rest → behind ≡ drop n rest
    → left ≡ text ++ escape block → Escaped words behind held left
block_escaped n words rest block behind held text left so_far block_is behind_is left_is = (
  so_far.0 ++ block,
  append_assoc so_far.0 block behind
      ∙ ap (λ (z : List ℕ). so_far.0 ++ z) (ap₂ (λ (a b : List ℕ). a ++ b) block_is behind_is ∙ take-append-drop n rest) ∙ so_far.1,
  left_is ∙ ap (λ (z : List ℕ). z ++ escape block) so_far.2 ∙ append_assoc held (escape so_far.0) (escape block)
      ∙ ap (λ (z : List ℕ). held ++ z) (sym (escape_append so_far.0 block)),
)

-- the last block
pub all_escaped : (words rest held text left : List ℕ) → Escaped words rest held text → left ≡ text ++ escape rest
    → left ≡ held ++ escape words
all_escaped words rest held text left so_far left_is =
    left_is ∙ ap (λ (z : List ℕ). z ++ escape rest) so_far.2 ∙ append_assoc held (escape so_far.0) (escape rest)
    ∙ ap (λ (z : List ℕ). held ++ z) (sym (escape_append so_far.0 rest) ∙ ap escape so_far.1)

-- what was held stands in front
pub held_first : (held more text : List ℕ) → text ≡ held ++ more → take (length held) text ≡ held
held_first held more text is =
    ap (take (length held)) is ∙ take-append-le (length held) held more (omega arith) ∙ take_all (length held) held (omega arith)

-- a text between quotes, where an answer says that all of it was put
pub all_quoted : {T E : Type 0} (result : Result T E) (words held mid text : List ℕ) → mid ≡ held ++ (34 ∷ escape words)
    → text ≡ (if is_ok result then mid ++ (34 ∷ []) else mid) → OnOk result (text ≡ held ++ quoted words)
all_quoted (Ok _) words held mid text mid_is is =
    is ∙ ap (λ (z : List ℕ). z ++ (34 ∷ [])) mid_is ∙ append_assoc held (34 ∷ escape words) (34 ∷ [])
all_quoted (Err _) words held mid text mid_is is = tt

-- what is appended is put, or nothing is
pub put_ok : {T E : Type 0} (result : Result T E) (held more said text : List ℕ) → more ≡ said → text ≡ (if is_ok result then held ++ more else held)
    → OnOk result (text ≡ held ++ said)
put_ok (Ok _) held more said text same is = is ∙ ap (λ (z : List ℕ). held ++ z) same
put_ok (Err _) held more said text same is = tt

pub kept_err : {T E : Type 0} (result : Result T E) (held more text : List ℕ) → text ≡ (if is_ok result then held ++ more else held) → OnErr result (text ≡ held)
kept_err (Ok _) held more text is = tt
kept_err (Err _) held more text is = is

-- what an answer says of the last block
pub all_done : {T E : Type 0} (result : Result T E) (words rest held text left : List ℕ) → Escaped words rest held text → OnOk result (left ≡ text ++ escape rest)
    → OnOk result (left ≡ held ++ escape words)
all_done (Ok _) words rest held text left so_far is = all_escaped words rest held text left so_far is
all_done (Err _) words rest held text left so_far is = tt

pub done_first : {T E : Type 0} (result : Result T E) (words rest held text left : List ℕ) → Escaped words rest held text → OnOk result (left ≡ text ++ escape rest)
    → OnErr result (left ≡ text) → take (length held) left ≡ held
done_first (Ok _) words rest held text left so_far is other = held_first held (escape words) left (all_escaped words rest held text left so_far is)
done_first (Err _) words rest held text left so_far is other = held_first held (escape so_far.0) left (other ∙ so_far.2)

pub still_first : (held more mid text : List ℕ) → mid ≡ held ++ more → take (length mid) text ≡ mid → take (length held) text ≡ held
still_first held more mid text mid_is front =
    let rest = drop (length mid) text in
    held_first held (more ++ rest) text (sym (take-append-drop (length mid) text) ∙ ap (λ (z : List ℕ). z ++ rest) (front ∙ mid_is) ∙ append_assoc held more rest)

pub first_either : (ok : Bool) (held more mid end text : List ℕ) → mid ≡ held ++ more → text ≡ (if ok then mid ++ end else mid) → take (length held) text ≡ held
first_either true held more mid end text mid_is is = held_first held (more ++ end) text (is ∙ ap (λ (z : List ℕ). z ++ end) mid_is ∙ append_assoc held more end)
first_either false held more mid end text mid_is is = held_first held more text (is ∙ mid_is)

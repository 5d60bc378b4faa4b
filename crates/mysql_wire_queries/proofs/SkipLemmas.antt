-- Values that are passed over.
use Rattle.std.proofs.Common.{◌≡◌, ◌<◌, ◌≤◌, ◌+◌, ℕ, suc, Bool, true, false, List, [], ◌∷◌, ◌++◌, length, get_or, take, drop, take-append-drop, refl, subst, sym, ap, ◌∙◌, inl, inr, arith, length-append, None, Some, Ok}
use Rattle.std.proofs.lemmas.List.{drop-drop, drop_more, length-drop, length-take-le}
use Rattle.mysql_wire_queries.proofs.RowLemmas.{behind_value, step_read}
use Rattle.mysql_wire_queries.specs.TextValues.{ReadsValue}
use Rattle.mysql_wire_queries.specs.RowValues.{GivesAll, GivesValue, PassesTo, ReadsTextValue}
use Rattle.mysql_wire_queries.specs.declared.text_row.TextValue.{TextValue}
use Rattle.mysql_wire_queries.specs.declared.text_row.TextValue.TheVariants.{Null, Text}
use Rattle.mysql_wire_queries.specs.declared.text_values.TextValues.{TextValues}

pub none_passed : (old : TextValues) (bytes : List ℕ) → old.rest.0.now ≡ bytes → PassesTo old 0 bytes
none_passed old bytes is = record { values = []; counted = refl; left = old; given = refl; left_is = is; goes = refl }

-- values that came, and one more
one_behind : (values : List TextValue) (old mid new : TextValues) (value : TextValue) → GivesAll old values mid
    → GivesValue mid (Some (Ok value)) new → GivesAll old (values ++ value ∷ []) new
one_behind [] old mid new value same gives =
    (new, subst (λ from. GivesValue from (Some (Ok value)) new) (sym same) gives, refl)
one_behind (first ∷ others) old mid new value (next, begins, more) gives =
    (next, begins, one_behind others next mid new value more gives)

pub one_passed : (old : TextValues) (count taken : ℕ) (bytes : List ℕ) (value : TextValue) → old.has_refused ≡ false
    → PassesTo old count bytes → taken ≤ length bytes → ReadsTextValue bytes (Ok value) taken
    → PassesTo old (count + 1) (drop taken bytes)
one_passed old count taken bytes value begun so fits read =
    let fits_there : taken ≤ length so.left.rest.0.now = omega (arith, fits, ap length so.left_is) in
    let read_there = subst (λ z. ReadsTextValue z (Ok value) taken) (sym so.left_is) read in
    record {
      values = so.values ++ value ∷ [];
      counted = omega (arith, length-append so.values (value ∷ []), so.counted);
      left = behind_value so.left taken;
      given = one_behind so.values old so.left (behind_value so.left taken) value so.given
          (step_read so.left (so.goes ∙ begun) value taken fits_there read_there);
      left_is = ap (drop taken) so.left_is;
      goes = so.goes;
    }

-- ---- short ones

suc_is : (n : ℕ) → 1 + n ≡ suc n
suc_is n = omega arith

drop_behind : (n byte : ℕ) (bytes : List ℕ) → drop (1 + n) (byte ∷ bytes) ≡ drop n bytes
drop_behind n byte bytes = ap (λ (m : ℕ). drop m (byte ∷ bytes)) (suc_is n)

no_mark : (n mark : ℕ) (behind : List ℕ) → n < 251 → 250 < mark → take 1 (n ∷ behind) ≡ mark ∷ [] → ⊥
no_mark n mark behind below above is =
    let same : n ≡ mark = cc is in
    absurd (omega (arith, below, above, same))

-- a length below 251 and as many bytes after it are a text
short_reads : (n : ℕ) (behind : List ℕ) → n < 251 → n ≤ length behind
    → ReadsValue (n ∷ behind) (Ok (Some (take n behind))) (1 + n)
short_reads n behind below there =
    let long = length-take-le n behind there in
    inr (inr (
      no_mark n 0xfb behind below (omega arith),
      no_mark n 0xff behind below (omega arith),
      (
        omega (arith, there),
        (
          behind,
          (n ∷ [], inl (inl (ap (λ (m : ℕ). m ∷ []) (sym long), omega (arith, long, below))), refl),
          sym (ap (λ (z : List ℕ). take n behind ++ z) (drop_behind n n behind) ∙ take-append-drop n behind),
        ),
      ),
    ))

-- the text of these bytes, wherever they stand
abbrev text_of : List ℕ → TextValue
text_of bytes = Text (record { ref_ptr = (0, 0); now = bytes })

front_is : (at first default : ℕ) (bytes : List ℕ) → at < length bytes → first ≡ get_or bytes at default
    → drop at bytes ≡ first ∷ drop (at + 1) bytes
front_is at first default bytes below is =
    drop_more bytes at default below ∙ ap (λ (z : ℕ). z ∷ drop (at + 1) bytes) (sym is)

-- what was passed over in front of a place, wherever values begin with these bytes
abbrev pub PassesIn : List ℕ → ℕ → ℕ → Type 0
PassesIn bytes count at =
    (values : TextValues) → values.rest.0.now ≡ bytes → values.has_refused ≡ false → PassesTo values count (drop at bytes)

pub null_passed : (count at first default : ℕ) (bytes : List ℕ) → at < length bytes → first ≡ get_or bytes at default → first ≡ 0xfb
    → PassesIn bytes count at → PassesIn bytes (count + 1) (at + 1)
null_passed count at first default bytes below is null so values begins begun =
    let front = front_is at first default bytes below is in
    let read : ReadsValue (drop at bytes) (Ok None) 1 = rw (front, null) (inl (refl, (refl, refl))) in
    subst (PassesTo values (count + 1)) (drop-drop 1 at bytes)
    (one_passed values count 1 (drop at bytes) Null begun (so values begins begun) (omega (arith, length-drop at bytes, below)) read)

pub short_passed : (count at first default : ℕ) (bytes : List ℕ) → at < length bytes → first ≡ get_or bytes at default → first < 251
    → at + 1 + first ≤ length bytes → PassesIn bytes count at → PassesIn bytes (count + 1) (at + 1 + first)
short_passed count at first default bytes below is small within so values begins begun =
    let behind = drop (at + 1) bytes in
    let front = front_is at first default bytes below is in
    let there : first ≤ length behind = omega (arith, length-drop (at + 1) bytes, within) in
    let read : ReadsValue (drop at bytes) (Ok (Some (take first behind))) (1 + first) = rw (front) (short_reads first behind small there) in
    let places : at + (1 + first) ≡ at + 1 + first = omega arith in
    subst (PassesTo values (count + 1)) (drop-drop (1 + first) at bytes ∙ ap (λ (n : ℕ). drop n bytes) places)
    (one_passed values count (1 + first) (drop at bytes) (text_of (take first behind)) begun (so values begins begun)
    (omega (arith, length-drop at bytes, within, below)) read)

-- ---- one by one

standing : (refused : Bool) → (refused ≡ true → ⊥) → refused ≡ false
standing true not = absurd (not refl)
standing false not = refl

-- a value that came is passed over
pub given_passed : (old mid new : TextValues) (count : ℕ) (value : TextValue) → PassesTo old count mid.rest.0.now × (mid.has_refused ≡ old.has_refused)
    → GivesValue mid (Some (Ok value)) new → PassesTo old (count + 1) new.rest.0.now × (new.has_refused ≡ old.has_refused)
given_passed old mid new count value (so, same) (goes_on, stands, (taken, fits, left, read)) =
    let begun = standing mid.has_refused (λ is. goes_on (inr is)) in (
      subst (PassesTo old (count + 1)) (sym left)
          (one_passed old count taken mid.rest.0.now value (sym same ∙ begun) so fits read),
      stands ∙ sym begun ∙ same,
    )

-- Sequences after their count.
use Rattle.std.proofs.Common.{◌≡◌, ◌≤◌, ◌<◌, ℕ, zero, suc, ◌+◌, ◌-◌, ◌*◌, ◌^◌, min, List, [], ◌∷◌, ◌++◌, length, take, drop, refl, sym, ap, ◌∙◌, arith, Result, Option, Some, None, Ok, Err, inl, inr, subst, nat_lt, if◌then◌else◌}
use Rattle.std.proofs.lemmas.List.{take_at, drop_at, drop-drop, length-drop, take_all, length-append, append-nil, append_assoc}
use Rattle.std.proofs.lemmas.Bool.{le-ltb}
use Rattle.std.specs.List.{flat_map, All}
use Rattle.std.specs.declared.borrow.CowSlice.{CowSlice}
use Rattle.std.specs.Cow.{cow_slice_items}
use Rattle.wire_buf.specs.Numbers.{le_number, le_bytes}
use Rattle.wire_buf.specs.NumberLemmas.{length-le_bytes, le_number-le_bytes_fits}
use Rattle.wire_buf.specs.Reading.{Parses, Reads, Answers}
use Rattle.wire_buf.specs.declared.error.WireError.{WireError}
use Rattle.wire_buf.specs.declared.error.WireError.TheVariants.{UnexpectedEof}
use Rattle.wire_repr.specs.Law.{ComesBack, seen, Parses-back}
use Rattle.wire_repr.specs.Texts.{IsOwned}
use Rattle.wire_values.specs.Elements.{ReadsEach, ReadsAll}
use Rattle.wire_list.specs.ElementLaws.{EachBack, AllKept, each-back}

-- the count is read, and then that many values, which are owned
abbrev pub ReadsCounted : {X Z V : Type 0} → (V → CowSlice X Z) → Result ℕ WireError × ℕ
    → (ℕ → List ℕ → Result (List X) WireError → ℕ → Type 0) → List ℕ → Result V WireError → ℕ
    → Type 0
ReadsCounted seq (Ok number, width) each input (Ok items) eaten =
    IsOwned (seq items) × ((taken : ℕ)
    × each number (drop width input) (Ok (cow_slice_items (seq items))) taken
    × (eaten ≡ width + taken))
ReadsCounted seq (Ok number, width) each input (Err error) eaten =
    (taken : ℕ) × each number (drop width input) (Err error) taken × (eaten ≡ width + taken)
ReadsCounted seq (Err why, width) each input (Ok items) eaten = ⊥
ReadsCounted seq (Err why, width) each input (Err error) eaten = (error ≡ why) × (eaten ≡ width)

-- a count of this many bytes
abbrev pub count_at : ℕ → List ℕ → Result ℕ WireError × ℕ
count_at width input =
    if nat_lt (length input) width then (Err UnexpectedEof, 0)
    else (Ok (le_number (take width input)), width)

-- a count and then values, from the bytes before to those that are left
pub counted-read : {X Z V : Type 0} (seq : V → CowSlice X Z)
    (counted : List ℕ → Result ℕ WireError × ℕ)
    (each : ℕ → List ℕ → Result (List X) WireError → ℕ → Type 0) (old mid new : List ℕ)
    (number : ℕ) (value : V)
    → Reads (λ input. Answers (counted input)) old (Ok number) mid → IsOwned (seq value)
    → Reads (each number) mid (Ok (cow_slice_items (seq value))) new
    → Reads (λ input. ReadsCounted seq (counted input) each input) old (Ok value) new
counted-read seq counted each old mid new number value (width, fits, at, (answered, ate)) own
    (taken, room, is, read) =
    let pair : (Ok number, width) ≡ counted old =
    ap (λ answer. (answer, width)) answered ∙ ap (λ eaten. ((counted old).0, eaten)) ate in
    let len : length mid ≡ length old - width = ap length at ∙ length-drop width old in
    let there : new ≡ drop (width + taken) old =
    is ∙ ap (drop taken) at ∙ drop-drop taken width old in (
      width + taken,
      omega arith,
      there,
      subst (λ outcome. ReadsCounted seq outcome each old (Ok value) (width + taken)) pair (
        own,
        (
          taken,
          subst (λ input. each number input (Ok (cow_slice_items (seq value))) taken) at read,
          refl,
        ),
      ),
    )

pub counted-failed : {X Z V : Type 0} (seq : V → CowSlice X Z)
    (counted : List ℕ → Result ℕ WireError × ℕ)
    (each : ℕ → List ℕ → Result (List X) WireError → ℕ → Type 0) (old mid new : List ℕ)
    (number : ℕ) (error : WireError)
    → Reads (λ input. Answers (counted input)) old (Ok number) mid
    → Reads (each number) mid (Err error) new
    → Reads (λ input. ReadsCounted seq (counted input) each input) old (Err error) new
counted-failed seq counted each old mid new number error (width, fits, at, (answered, ate))
    (taken, room, is, read) =
    let pair : (Ok number, width) ≡ counted old =
    ap (λ answer. (answer, width)) answered ∙ ap (λ eaten. ((counted old).0, eaten)) ate in
    let len : length mid ≡ length old - width = ap length at ∙ length-drop width old in
    let there : new ≡ drop (width + taken) old =
    is ∙ ap (drop taken) at ∙ drop-drop taken width old in (
      width + taken,
      omega arith,
      there,
      subst (λ outcome. ReadsCounted seq outcome each old (Err error) (width + taken)) pair
          (taken, subst (λ input. each number input (Err error) taken) at read, refl),
    )

-- what is cut at the lesser of its length and a bound is cut at the bound
pub cut-least : {X : Type 0} (max : ℕ) (others : List X)
    → take (min (length others) max) others ≡ take max others
cut-least zero [] = refl
cut-least zero (first ∷ others) =
    let least : min (suc (length others)) 0 ≡ 0 = omega arith in
    ap (λ number. take number (first ∷ others)) least
cut-least (suc max) [] =
    let least : min 0 (suc max) ≡ 0 = omega arith in
    ap (λ number. take number []) least
cut-least (suc max) (first ∷ others) =
    let least : min (suc (length others)) (suc max) ≡ suc (min (length others) max) = omega arith in
    ap (λ number. take number (first ∷ others)) least
    ∙ ap (λ cut. first ∷ cut) (cut-least max others)

pub count-back : (width number : ℕ) (rest : List ℕ) → number < 256 ^ width
    → count_at width (le_bytes width number ++ rest) ≡ (Ok number, length (le_bytes width number))
count-back width number rest small =
    let bytes = le_bytes width number in
    let len : length bytes ≡ width = length-le_bytes width number in
    let enough : width ≤ length (bytes ++ rest) = omega (arith, length-append bytes rest, len) in
    let is : le_number bytes ≡ number = le_number-le_bytes_fits width number small in
    rw (le-ltb (length (bytes ++ rest)) width enough, take_at bytes rest width len, is, len) refl

-- values of a size have that many bytes each
pub sized-values : {X : Type 0} (size : Option ℕ) (bytes : X → List ℕ) (is_value : X → Type 0)
    → ((value : X) (count : ℕ) → is_value value → size ≡ Some count → length (bytes value) ≡ count)
    → (others : List X) → All is_value others → (count : ℕ) → size ≡ Some count
    → length (flat_map bytes others) ≡ count * length others
sized-values size bytes is_value sized [] values count stated = omega arith
sized-values size bytes is_value sized (value ∷ others) values count stated =
    let len_of_others = sized-values size bytes is_value sized others
    (λ index default below. values (suc index) default (omega arith)) count stated in
    let one = sized value count (values 0 value (omega arith)) stated in
    length-append (bytes value) (flat_map bytes others) ∙ grind (arith, len_of_others, one)

-- another count, where it is the length
moved : {X : Type 0} (kept : X → Type 0) (memory : Type 0) (len looked_at eaten : ℕ)
    (answer : Result X WireError) → eaten ≡ len → ComesBack kept memory len answer looked_at
    → ComesBack kept memory len answer eaten
moved kept memory len looked_at eaten (Ok value) is back = (back.0, is)
moved kept memory len looked_at eaten (Err error) is back = back

-- all values come back, where each does
pub all-back : {X : Type 0} (size : Option ℕ) (reads : List ℕ → Result X WireError → ℕ → Type 0)
    (bytes : X → List ℕ) (kept : X → X → Type 0) (memory : Type 0) (values : List X)
    → ((count : ℕ) → size ≡ Some count → length (flat_map bytes values) ≡ count * length values)
    → EachBack reads bytes kept memory values
    → (rest : List ℕ) (answer : Result (List X) WireError) (eaten : ℕ)
    → ReadsAll size reads (length values) (flat_map bytes values ++ rest) answer eaten
    → ComesBack (AllKept kept values) (Unit {0}) (length (flat_map bytes values)) answer eaten
all-back None reads bytes kept memory values sized laws rest answer eaten read =
    each-back (Unit {0}) reads bytes kept memory values laws rest answer eaten read
all-back (Some count) reads bytes kept memory values sized laws rest answer eaten
    (inl (none, read)) =
    each-back (Unit {0}) reads bytes kept memory values laws rest answer eaten read
all-back (Some count) reads bytes kept memory values sized laws rest answer eaten
    (inr (inl (one, few, answered, none))) =
    let len : length (flat_map bytes values) ≡ count * length values = sized count refl in
    absurd (omega (arith, few, len, length-append (flat_map bytes values) rest))
all-back (Some count) reads bytes kept memory values sized laws rest answer eaten
    (inr (inr (inl (one, fits, answered, none)))) =
    subst (λ outcome. ComesBack (AllKept kept values) (Unit {0}) (length (flat_map bytes values))
    outcome eaten) (sym answered) (refl, tt)
all-back (Some count) reads bytes kept memory values sized laws rest answer eaten
    (inr (inr (inr (one, fits, all, taken, read)))) =
    let len : length (flat_map bytes values) ≡ count * length values = sized count refl in
    let shown : take (count * length values) (flat_map bytes values ++ rest)
    ≡ flat_map bytes values ++ [] =
    take_at (flat_map bytes values) rest (count * length values) len
    ∙ sym (append-nil (flat_map bytes values)) in
    let back = each-back ⊥ reads bytes kept memory values laws [] answer taken
    (subst (λ input. ReadsEach ⊥ reads (length values) input answer taken) shown read) in
    moved (AllKept kept values) (Unit {0}) (length (flat_map bytes values)) taken eaten answer
    (all ∙ sym len) back

-- each value has the law, where its type has it
pub each-laws : {X : Type 0} (size : Option ℕ) (reads : List ℕ → Result X WireError → ℕ → Type 0)
    (bytes : X → List ℕ) (kept : X → X → Type 0) (memory : Type 0) (is_value : X → Type 0)
    (good : X → List ℕ → Type 0)
    → ((value : X) (count : ℕ) → is_value value → size ≡ Some count → length (bytes value) ≡ count)
    → ((value : X) (rest : List ℕ) (answer : Result X WireError) (eaten : ℕ) → is_value value
    → good value rest → reads (bytes value ++ rest) answer eaten
    → ComesBack (kept value) memory (length (bytes value)) answer eaten)
    → (others : List X) → All is_value others
    → All (λ value. (rest : List ℕ) → good value (seen size rest)) others
    → EachBack (Parses size reads) bytes kept memory others
each-laws size reads bytes kept memory is_value good sized law [] values goods = tt
each-laws size reads bytes kept memory is_value good sized law (value ∷ others) values goods = (
  λ rest answer eaten parsed. Parses-back size reads (kept value) memory (bytes value) rest
      (λ count stated. sized value count (values 0 value (omega arith)) stated)
      (λ answer eaten read. law value (seen size rest) answer eaten (values 0 value (omega arith))
      (goods 0 value (omega arith) rest) read) answer eaten parsed,
  each-laws size reads bytes kept memory is_value good sized law others
      (λ index default below. values (suc index) default (omega arith))
      (λ index default below. goods (suc index) default (omega arith)),
)

-- after a count that comes back
behind-count : {X Z V : Type 0} (seq : V → CowSlice X Z) (number : ℕ) (front flat rest : List ℕ)
    (kept : List X → Type 0) (each : ℕ → List ℕ → Result (List X) WireError → ℕ → Type 0)
    → ((answer : Result (List X) WireError) (eaten : ℕ) → each number (flat ++ rest) answer eaten
    → ComesBack kept (Unit {0}) (length flat) answer eaten)
    → (answer : Result V WireError) (eaten : ℕ)
    → ReadsCounted seq (Ok number, length front) each ((front ++ flat) ++ rest) answer eaten
    → ComesBack (λ value. kept (cow_slice_items (seq value))) (Unit {0}) (length (front ++ flat))
    answer eaten
behind-count seq number front flat rest kept each law (Ok value) eaten (own, (taken, read, all)) =
    let at : drop (length front) ((front ++ flat) ++ rest) ≡ flat ++ rest =
    ap (drop (length front)) (append_assoc front flat rest)
    ∙ drop_at front (flat ++ rest) (length front) refl in
    let back = law (Ok (cow_slice_items (seq value))) taken
    (subst (λ input. each number input (Ok (cow_slice_items (seq value))) taken) at read) in
    (back.0, all ∙ ap (λ eaten. length front + eaten) back.1 ∙ sym (length-append front flat))
behind-count seq number front flat rest kept each law (Err error) eaten (taken, read, all) =
    let at : drop (length front) ((front ++ flat) ++ rest) ≡ flat ++ rest =
    ap (drop (length front)) (append_assoc front flat rest)
    ∙ drop_at front (flat ++ rest) (length front) refl in
    law (Err error) taken (subst (λ input. each number input (Err error) taken) at read)

-- a list that is not longer than the most is written whole
pub whole-list : {X : Type 0} (max : ℕ) (front : ℕ → List ℕ) (bytes : X → List ℕ) (values : List X)
    → length values ≤ max
    → front (min (length values) max) ++ flat_map bytes (take max values)
    ≡ front (length values) ++ flat_map bytes values
whole-list max front bytes values few =
    let least : min (length values) max ≡ length values = omega arith in
    ap (λ number. front number ++ flat_map bytes (take max values)) least
    ∙ ap (λ written. front (length values) ++ flat_map bytes written) (take_all max values few)

-- the law of a sequence: its count comes back, and each of its values
pub seq-back : {X Z V : Type 0} (seq : V → CowSlice X Z) (size : Option ℕ)
    (reads : List ℕ → Result X WireError → ℕ → Type 0) (bytes : X → List ℕ) (kept : X → X → Type 0)
    (memory : Type 0) (max : ℕ) (front : ℕ → List ℕ) (counted : List ℕ → Result ℕ WireError × ℕ)
    (values : List X) (rest : List ℕ)
    → ((number : ℕ) → size ≡ Some number → length (flat_map bytes values) ≡ number * length values)
    → EachBack (Parses size reads) bytes kept memory values
    → length values ≤ max
    → ((more : List ℕ) → counted (front (length values) ++ more)
    ≡ (Ok (length values), length (front (length values))))
    → (answer : Result V WireError) (eaten : ℕ)
    → ReadsCounted seq (counted ((front (min (length values) max) ++ flat_map bytes
    (take max values)) ++ rest)) (ReadsAll size (Parses size reads))
    ((front (min (length values) max) ++ flat_map bytes (take max values)) ++ rest) answer eaten
    → ComesBack (λ back. AllKept kept values (cow_slice_items (seq back))) (Unit {0})
    (length (front (min (length values) max) ++ flat_map bytes (take max values))) answer eaten
seq-back {X} {Z} {V} seq size reads bytes kept memory max front counted values rest sized laws few
    count answer eaten =
    let number = length values in
    let shape : front (min number max) ++ flat_map bytes (take max values)
    ≡ front number ++ flat_map bytes values =
    whole-list max front bytes values few in
    let is : counted ((front number ++ flat_map bytes values) ++ rest)
    ≡ (Ok number, length (front number)) =
    ap counted (append_assoc (front number) (flat_map bytes values) rest)
    ∙ count (flat_map bytes values ++ rest) in
    let Goal : List ℕ → Type 0 = λ written. ReadsCounted seq (counted (written ++ rest))
    (ReadsAll size (Parses size reads)) (written ++ rest) answer eaten
    → ComesBack (λ back. AllKept kept values (cow_slice_items (seq back))) (Unit {0})
    (length written) answer eaten in
    let there : Goal (front number ++ flat_map bytes values) = λ read.
    (behind-count seq number (front number) (flat_map bytes values) rest (AllKept kept values)
    (ReadsAll size (Parses size reads))
    (λ outcome ate given. all-back size (Parses size reads) bytes kept memory values sized laws rest
    outcome ate given) answer eaten
    (subst (λ outcome. ReadsCounted seq outcome (ReadsAll size (Parses size reads))
    ((front number ++ flat_map bytes values) ++ rest) answer eaten) is read)) in
    subst Goal (sym shape) there

-- numbers of a list's length
pub at_most : (number : ℕ) → number < 2 ^ 64 → number ≤ 0xffff_ffff_ffff_ffff
at_most number fits = omega arith

pub below_32 : (number : ℕ) → number ≤ 4294967295 → number < 256 ^ 4
below_32 number fits = omega arith

pub unknown-back : (ctx number : ℕ) → ctx ≡ number
    → ◌≡◌ {A = Result ℕ WireError × ℕ} (Ok ctx, 0) (Ok number, 0)
unknown-back ctx number is = ap (λ count. (Ok count, 0)) is

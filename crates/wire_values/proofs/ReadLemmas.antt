-- Values that are read in a loop, of which i are read; those of a block of their own.
use Rattle.std.proofs.Common.{ℕ, zero, suc, ◌≡◌, ◌≤◌, ◌<◌, ◌+◌, ◌-◌, ◌*◌, Some, List, [], ◌∷◌, ◌++◌, length, take, drop, Result, Ok, Err, inl, inr, refl, sym, ap, subst, ◌∙◌, arith}
use Rattle.std.proofs.lemmas.List.{drop-drop, length-drop, append-nil, append_assoc}
use Rattle.wire_buf.specs.Reading.{Reads}
use Rattle.wire_buf.specs.declared.error.WireError.{WireError}
use Rattle.wire_buf.specs.declared.error.WireError.TheVariants.{UnexpectedEof, OutOfMemory}
use Rattle.wire_values.specs.Elements.{ReadsEach, ReadsAll, Gives, ReadsInto, behind}

-- what is left to read completes what was read
abbrev pub SoFar : {X : Type 0} → Type 0 → (List ℕ → Result X WireError → ℕ → Type 0) → ℕ → List ℕ
    → List X → ℕ → List ℕ → Type 0
SoFar {X = X} short reads count start items left rest =
    (done : ℕ) × (done ≤ length start) × (rest ≡ drop done start)
    × ((others : Result (List X) WireError) (after : ℕ)
    → ReadsEach short reads left rest others after
    → ReadsEach short reads count start (behind items others) (done + after))

behind-behind : {X : Type 0} (items : List X) (value : X) (others : Result (List X) WireError)
    → behind items (behind (value ∷ []) others) ≡ behind (items ++ value ∷ []) others
behind-behind items value (Ok after) = ap (λ all. Ok all)
    (sym (append_assoc items (value ∷ []) after))
behind-behind items value (Err error) = refl

behind-nil : {X : Type 0} (others : Result (List X) WireError) → behind [] others ≡ others
behind-nil (Ok items) = refl
behind-nil (Err error) = refl

-- at the start
start-so_far : {X : Type 0} (short : Type 0) (reads : List ℕ → Result X WireError → ℕ → Type 0)
    (count : ℕ) (start : List ℕ) → SoFar short reads count start [] count start
start-so_far short reads count start = (
  0,
  omega arith,
  refl,
  λ others after read.
      let same : after ≡ 0 + after = omega arith in
      subst (λ eaten. ReadsEach short reads count start (behind [] others) eaten) same
      (subst (λ answer. ReadsEach short reads count start answer after) (sym (behind-nil others))
      read),
)

-- one value more
more-so_far : {X : Type 0} (short : Type 0) (reads : List ℕ → Result X WireError → ℕ → Type 0)
    (count : ℕ) (start : List ℕ) (items : List X) (left : ℕ) (rest : List ℕ) (value : X) (taken : ℕ)
    (next : List ℕ)
    → SoFar short reads count start items (suc left) rest → taken ≤ length rest
    → next ≡ drop taken rest → reads rest (Ok value) taken
    → SoFar short reads count start (items ++ value ∷ []) left next
more-so_far short reads count start items left rest value taken next (done, fits, at, completes)
    room is read =
    let len : length rest ≡ length start - done = ap length at ∙ length-drop done start in
    let there : next ≡ drop (done + taken) start =
    is ∙ ap (drop taken) at ∙ drop-drop taken done start in (
      done + taken,
      omega arith,
      there,
      λ others after later.
          let whole = completes (behind (value ∷ []) others) (taken + after)
          (inr (inr (
            value,
            taken,
            after,
            others,
            room,
            read,
            subst (λ input. ReadsEach short reads left input others after) is later,
            refl,
            refl,
          ))) in
          let count_is : done + (taken + after) ≡ done + taken + after = omega arith in
          subst (λ answer. ReadsEach short reads count start answer (done + taken + after))
          (behind-behind items value others) (subst
          (λ eaten. ReadsEach short reads count start (behind items (behind (value ∷ []) others))
          eaten) count_is whole),
    )

-- room is refused
refused-so_far : {X : Type 0} (short : Type 0)
    (reads : List ℕ → Result X WireError → ℕ → Type 0) (count : ℕ) (start : List ℕ) (items : List X)
    (left : ℕ) (rest : List ℕ) → short → SoFar short reads count start items (suc left) rest
    → (done : ℕ) × (done ≤ length start) × (rest ≡ drop done start)
    × ReadsEach short reads count start (Err OutOfMemory) done
refused-so_far short reads count start items left rest missing (done, fits, at, completes) =
    let same : done + 0 ≡ done = omega arith in (
      done,
      fits,
      at,
      subst (λ eaten. ReadsEach short reads count start (Err OutOfMemory) eaten) same
          (completes (Err OutOfMemory) 0 (inl (missing, refl, refl))),
    )

-- a value is refused
failed-so_far : {X : Type 0} (short : Type 0) (reads : List ℕ → Result X WireError → ℕ → Type 0)
    (count : ℕ) (start : List ℕ) (items : List X) (left : ℕ) (rest : List ℕ) (error : WireError)
    (taken : ℕ) (next : List ℕ)
    → SoFar short reads count start items (suc left) rest → taken ≤ length rest
    → next ≡ drop taken rest → reads rest (Err error) taken
    → (done : ℕ) × (done ≤ length start) × (next ≡ drop done start)
    × ReadsEach short reads count start (Err error) done
failed-so_far short reads count start items left rest error taken next (done, fits, at, completes)
    room is read =
    let len : length rest ≡ length start - done = ap length at ∙ length-drop done start in
    let there : next ≡ drop (done + taken) start =
    is ∙ ap (drop taken) at ∙ drop-drop taken done start in
    (done + taken, omega arith, there, completes (Err error) taken (inr (inl (error, refl, read))))

-- all are read
done-so_far : {X : Type 0} (short : Type 0) (reads : List ℕ → Result X WireError → ℕ → Type 0)
    (count : ℕ) (start : List ℕ) (items : List X) (rest : List ℕ)
    → SoFar short reads count start items 0 rest
    → (done : ℕ) × (done ≤ length start) × (rest ≡ drop done start)
    × ReadsEach short reads count start (Ok items) done
done-so_far short reads count start items rest (done, fits, at, completes) =
    let same : done + 0 ≡ done = omega arith in
    let whole = completes (Ok []) 0 (refl, refl) in (
      done,
      fits,
      at,
      subst (λ answer. ReadsEach short reads count start answer done)
          (ap (λ values. Ok values) (append-nil items)) (subst
          (λ eaten. ReadsEach short reads count start (Ok (items ++ [])) eaten) same whole),
    )

-- ---- so with the counter of the loop

left-is : (count i : ℕ) → i < count → count - i ≡ suc (count - (i + 1))
left-is count i below = omega (arith, below)

none-left : (count i : ℕ) → count ≤ i → count - i ≡ 0
none-left count i all = omega (arith, all)

-- room was missing from the start
pub short-is : (from room len i count : ℕ) → from ≤ room → len ≡ i → i < count → room < len + 1
    → from < count
short-is from room len i count kept is below full = omega (arith, kept, is, below, full)

pub one-more : (pushed reserved len i : ℕ) → pushed ≡ reserved + 1 → reserved ≡ len → len ≡ i
    → pushed ≡ i + 1
one-more pushed reserved len i more same is = omega (arith, more, same, is)

pub room-stays : (from room reserved pushed : ℕ) → from ≤ room → room ≤ reserved
    → pushed ≡ reserved → from ≤ pushed
room-stays from room reserved pushed a b c = omega (arith, a, b, c)

pub same-room : (room : ℕ) → room ≤ room
same-room room = omega arith

-- there is room for one more
pub has-room : (len room : ℕ) → len + 1 ≤ room → len < room
has-room len room there = omega (arith, there)

from-none : (count : ℕ) → count ≡ count - 0
from-none count = omega arith

pub start-at : {X : Type 0} (short : Type 0) (reads : List ℕ → Result X WireError → ℕ → Type 0)
    (count : ℕ) (start : List ℕ) (items : List X) → items ≡ []
    → SoFar short reads count start items (count - 0) start
start-at short reads count start items none =
    subst (λ left. SoFar short reads count start items left start) (from-none count)
    (subst (λ all. SoFar short reads count start all count start) (sym none)
    (start-so_far short reads count start))

pub refused-at : {X : Type 0} (short : Type 0) (reads : List ℕ → Result X WireError → ℕ → Type 0)
    (count : ℕ) (start : List ℕ) (items : List X) (i : ℕ) (rest : List ℕ) → i < count → short
    → SoFar short reads count start items (count - i) rest
    → Reads (ReadsEach short reads count) start (Err OutOfMemory) rest
refused-at short reads count start items i rest below missing so_far =
    refused-so_far short reads count start items (count - (i + 1)) rest missing
    (subst (λ left. SoFar short reads count start items left rest) (left-is count i below) so_far)

pub failed-at : {X : Type 0} (short : Type 0) (reads : List ℕ → Result X WireError → ℕ → Type 0)
    (count : ℕ) (start : List ℕ) (items : List X) (i : ℕ) (rest : List ℕ) (error : WireError)
    (next : List ℕ) → i < count → SoFar short reads count start items (count - i) rest
    → Reads reads rest (Err error) next
    → Reads (ReadsEach short reads count) start (Err error) next
failed-at short reads count start items i rest error next below so_far (taken, room, is, read) =
    failed-so_far short reads count start items (count - (i + 1)) rest error taken next
    (subst (λ left. SoFar short reads count start items left rest) (left-is count i below) so_far)
    room is read

pub more-at : {X : Type 0} (short : Type 0) (reads : List ℕ → Result X WireError → ℕ → Type 0)
    (count : ℕ) (start : List ℕ) (items reserved pushed : List X) (i : ℕ) (rest : List ℕ)
    (value : X) (next : List ℕ) → i < count → SoFar short reads count start items (count - i) rest
    → Reads reads rest (Ok value) next → reserved ≡ items → pushed ≡ reserved ++ value ∷ []
    → SoFar short reads count start pushed (count - (i + 1)) next
more-at short reads count start items reserved pushed i rest value next below so_far
    (taken, room, is, read) same more =
    subst (λ all. SoFar short reads count start all (count - (i + 1)) next)
    (sym (more ∙ ap (λ all. all ++ value ∷ []) same))
    (more-so_far short reads count start items (count - (i + 1)) rest value taken next
    (subst (λ left. SoFar short reads count start items left rest) (left-is count i below) so_far)
    room is read)

pub done-at : {X : Type 0} (short : Type 0) (reads : List ℕ → Result X WireError → ℕ → Type 0)
    (count : ℕ) (start : List ℕ) (items : List X) (i : ℕ) (rest : List ℕ) → count ≤ i
    → SoFar short reads count start items (count - i) rest
    → Reads (ReadsEach short reads count) start (Ok items) rest
done-at short reads count start items i rest all so_far =
    done-so_far short reads count start items rest
    (subst (λ left. SoFar short reads count start items left rest) (none-left count i all) so_far)

-- ---- room that is missing for another reason

each-short : {X : Type 0} (short missing_too : Type 0) → (short → missing_too)
    → (reads : List ℕ → Result X WireError → ℕ → Type 0) (count : ℕ) (input : List ℕ)
    (answer : Result (List X) WireError) (eaten : ℕ)
    → ReadsEach short reads count input answer eaten
    → ReadsEach missing_too reads count input answer eaten
each-short short missing_too weaken reads zero input answer eaten read = read
each-short short missing_too weaken reads (suc count) input answer eaten
    (inl (missing, answered, none)) = inl (weaken missing, answered, none)
each-short short missing_too weaken reads (suc count) input answer eaten (inr (inl read)) =
    inr (inl read)
each-short short missing_too weaken reads (suc count) input answer eaten
    (inr (inr (value, taken, after, others, room, read, rest, answered, all_eaten))) =
    inr (inr (
      value,
      taken,
      after,
      others,
      room,
      read,
      each-short short missing_too weaken reads count (drop taken input) others after rest,
      answered,
      all_eaten,
    ))

gives-short : {V X : Type 0} (items : V → List X) (short more : Type 0) → (short → more)
    → (reads : List ℕ → Result X WireError → ℕ → Type 0) (count : ℕ) (input : List ℕ)
    (answer : Result V WireError) (eaten : ℕ)
    → Gives items (ReadsEach short reads count input) answer eaten
    → Gives items (ReadsEach more reads count input) answer eaten
gives-short items short more weaken reads count input (Ok values) eaten read =
    each-short short more weaken reads count input (Ok (items values)) eaten read
gives-short items short more weaken reads count input (Err error) eaten read =
    each-short short more weaken reads count input (Err error) eaten read

pub eats-short : {V X : Type 0} (items : V → List X) (short more : Type 0) → (short → more)
    → (reads : List ℕ → Result X WireError → ℕ → Type 0) (count : ℕ) (old : List ℕ)
    (answer : Result V WireError) (new : List ℕ)
    → ReadsInto items (ReadsEach short reads count) old answer new
    → ReadsInto items (ReadsEach more reads count) old answer new
eats-short items short more weaken reads count old answer new (eaten, fits, at, read) =
    (eaten, fits, at, gives-short items short more weaken reads count old answer eaten read)

-- ---- values with no bytes

gives-none : {V X : Type 0} (items : V → List X) (reads : List ℕ → Result X WireError → ℕ → Type 0)
    (count : ℕ) (input : List ℕ) (answer : Result V WireError) (eaten : ℕ)
    → Gives items (ReadsEach (Unit {0}) reads count input) answer eaten
    → Gives items (ReadsAll (Some 0) reads count input) answer eaten
gives-none items reads count input (Ok values) eaten read = inl (refl, read)
gives-none items reads count input (Err error) eaten read = inl (refl, read)

pub eats-none : {V X : Type 0} (items : V → List X)
    (reads : List ℕ → Result X WireError → ℕ → Type 0) (count : ℕ) (old : List ℕ)
    (answer : Result V WireError) (new : List ℕ)
    → ReadsInto items (ReadsEach (Unit {0}) reads count) old answer new
    → ReadsInto items (ReadsAll (Some 0) reads count) old answer new
eats-none items reads count old answer new (eaten, fits, at, read) =
    (eaten, fits, at, gives-none items reads count old answer eaten read)

-- ---- values from a block of their own

-- what is read of a block
gives-block : {V X : Type 0} (items : V → List X) (reads : List ℕ → Result X WireError → ℕ → Type 0)
    (size count : ℕ) (input : List ℕ) (taken : ℕ) (answer : Result V WireError) → 1 ≤ size
    → size * count ≤ length input
    → Gives items (ReadsEach ⊥ reads count (take (size * count) input)) answer taken
    → Gives items (ReadsAll (Some size) reads count input) answer (size * count)
gives-block items reads size count input taken (Ok values) one fits read =
    inr (inr (inr (one, fits, refl, taken, read)))
gives-block items reads size count input taken (Err error) one fits read =
    inr (inr (inr (one, fits, refl, taken, read)))

eats-block : {V X : Type 0} (items : V → List X) (short : Type 0) → (short → ⊥)
    → (reads : List ℕ → Result X WireError → ℕ → Type 0) (size count : ℕ) (old : List ℕ)
    (answer : Result V WireError) (left : List ℕ) → 1 ≤ size → size * count ≤ length old
    → ReadsInto items (ReadsEach short reads count) (take (size * count) old) answer left
    → ReadsInto items (ReadsAll (Some size) reads count) old answer (drop (size * count) old)
eats-block items short room reads size count old answer left one fits (taken, some, at, read) = (
  size * count,
  fits,
  refl,
  gives-block items reads size count old taken answer one fits
      (gives-short items short ⊥ room reads count (take (size * count) old) answer taken read),
)

-- too few bytes
pub eats-short_block : {V X : Type 0} (items : V → List X)
    (reads : List ℕ → Result X WireError → ℕ → Type 0) (size count : ℕ) (old : List ℕ) → 1 ≤ size
    → length old < size * count
    → ReadsInto {V = V} items (ReadsAll (Some size) reads count) old (Err UnexpectedEof) old
eats-short_block items reads size count old one few =
    (0, omega arith, refl, inr (inl (one, few, refl, refl)))

pub has-all : (len room count : ℕ) → len + count ≤ room → room < count → ⊥
has-all len room count there missing = omega (arith, there, missing)

pub too-few : (size count len counted whole : ℕ) → len ≡ size * count → counted ≡ whole
    → counted < len → whole < size * count
too-few size count len counted whole is same few = omega (arith, is, same, few)

whole-block : (size count len counted whole : ℕ) → len ≡ size * count → counted ≡ whole
    → len ≤ counted → size * count ≤ whole
whole-block size count len counted whole is same there = omega (arith, is, same, there)

pub block-read : {V X : Type 0} (items : V → List X) (short : Type 0)
    (reads : List ℕ → Result X WireError → ℕ → Type 0) (size count len counted : ℕ)
    (old front rest : List ℕ) (answer : Result V WireError) (left : List ℕ) → (short → ⊥)
    → 1 ≤ size → len ≡ size * count → counted ≡ length old → len ≤ counted
    → front ≡ take len old → rest ≡ drop len old
    → ReadsInto items (ReadsEach short reads count) front answer left
    → ReadsInto items (ReadsAll (Some size) reads count) old answer rest
block-read items short reads size count len counted old front rest answer left room one is same
    there eaten at read =
    subst (λ after. ReadsInto items (ReadsAll (Some size) reads count) old answer after)
    (sym (at ∙ ap (λ m. drop m old) is))
    (eats-block items short room reads size count old answer left one
    (whole-block size count len counted (length old) is same there)
    (subst (λ block. ReadsInto items (ReadsEach short reads count) block answer left)
    (eaten ∙ ap (λ m. take m old) is) read))

-- ---- room for the first values, taken before

pub some-asked : (room more count : ℕ) → room < more → more ≤ count → 0 < count
some-asked room more count full at_most = omega (arith, full, at_most)

none-below : 0 < 0 → ⊥
none-below less = omega (arith, less)

first-refused : {X : Type 0} (reads : List ℕ → Result X WireError → ℕ → Type 0) (count : ℕ)
    (input : List ℕ) → 0 < count → ReadsEach (Unit {0}) reads count input (Err OutOfMemory) 0
first-refused reads zero input some = absurd (none-below some)
first-refused reads (suc count) input some = inl (tt, refl, refl)

pub eats-nothing : {V X : Type 0} (items : V → List X)
    (reads : List ℕ → Result X WireError → ℕ → Type 0) (count : ℕ) (old : List ℕ) → 0 < count
    → ReadsInto {V = V} items (ReadsEach (Unit {0}) reads count) old (Err OutOfMemory) old
eats-nothing items reads count old some =
    (0, omega arith, refl, first-refused reads count old some)

-- Values that are read one after another come back, where each does.
use Rattle.std.proofs.Common.{◌≡◌, ℕ, ◌+◌, List, [], ◌∷◌, ◌++◌, length, drop, refl, sym, ap, ◌∙◌, Result, Option, Ok, Err, inl, inr, subst}
use Rattle.std.proofs.lemmas.List.{drop_at, length-append, append_assoc}
use Rattle.std.specs.Cow.{cow_slice_items}
use Rattle.std.specs.declared.borrow.CowSlice.{CowSlice}
use Rattle.std.specs.List.{flat_map, All}
use Rattle.wire_buf.specs.declared.error.WireError.{WireError}
use Rattle.wire_repr.specs.Law.{ComesBack, seen}
use Rattle.wire_values.specs.Elements.{ReadsEach, behind}

-- each value of the list comes back before every rest
abbrev pub EachBack : {X : Type 0} → (List ℕ → Result X WireError → ℕ → Type 0) → (X → List ℕ)
    → (X → X → Type 0) → Type 0 → List X → Type 0
EachBack reads bytes kept memory [] = Unit {0}
EachBack {X = X} reads bytes kept memory (value ∷ others) =
    ((rest : List ℕ) (answer : Result X WireError) (eaten : ℕ)
    → reads (bytes value ++ rest) answer eaten
    → ComesBack (kept value) memory (length (bytes value)) answer eaten)
    × EachBack reads bytes kept memory others

-- the values that came back, one for each
abbrev pub AllKept : {X : Type 0} → (X → X → Type 0) → List X → List X → Type 0
AllKept kept [] [] = Unit {0}
AllKept kept (value ∷ others) (back ∷ backs) = kept value back × AllKept kept others backs
AllKept kept others backs = ⊥

-- each value is good whatever stands after it
abbrev pub AllGood : {X Z : Type 0} → Option ℕ → (X → List ℕ → Type 0) → CowSlice X Z → Type 0
AllGood size good list =
    All (λ value. (rest : List ℕ) → good value (seen size rest)) (cow_slice_items list)

-- an answer with a value in front of it
in_front : {X : Type 0} (kept : X → X → Type 0) (value back : X) (others : List X)
    (len taken after : ℕ) (answer : Result (List X) WireError) → kept value back
    → ComesBack (AllKept kept others) (Unit {0}) len answer after
    → ComesBack (AllKept kept (value ∷ others)) (Unit {0}) (taken + len) (behind (back ∷ []) answer)
    (taken + after)
in_front kept value back others len taken after (Ok backs) is_kept come_back =
    ((is_kept, come_back.0), ap (λ eaten. taken + eaten) come_back.1)
in_front kept value back others len taken after (Err error) is_kept come_back = come_back

pub each-back : {X : Type 0} (short : Type 0) (reads : List ℕ → Result X WireError → ℕ → Type 0)
    (bytes : X → List ℕ) (kept : X → X → Type 0) (memory : Type 0) (others : List X)
    → EachBack reads bytes kept memory others
    → (rest : List ℕ) (answer : Result (List X) WireError) (eaten : ℕ)
    → ReadsEach short reads (length others) (flat_map bytes others ++ rest) answer eaten
    → ComesBack (AllKept kept others) (Unit {0}) (length (flat_map bytes others)) answer eaten
each-back short reads bytes kept memory [] laws rest answer eaten (answered, none) =
    subst (λ outcome. ComesBack (AllKept kept []) (Unit {0}) 0 outcome eaten) (sym answered)
    (tt, none)
each-back short reads bytes kept memory (value ∷ others) laws rest answer eaten
    (inl (missing, answered, none)) =
    subst (λ outcome. ComesBack (AllKept kept (value ∷ others)) (Unit {0})
    (length (flat_map bytes (value ∷ others))) outcome eaten) (sym answered) (refl, tt)
each-back short reads bytes kept memory (value ∷ others) laws rest answer eaten
    (inr (inl (error, answered, read))) =
    let shape : flat_map bytes (value ∷ others) ++ rest
    ≡ bytes value ++ (flat_map bytes others ++ rest) =
    append_assoc (bytes value) (flat_map bytes others) rest in
    let back = laws.0 (flat_map bytes others ++ rest) (Err error) eaten
    (subst (λ input. reads input (Err error) eaten) shape read) in
    subst (λ outcome. ComesBack (AllKept kept (value ∷ others)) (Unit {0})
    (length (flat_map bytes (value ∷ others))) outcome eaten) (sym answered) (back.0, tt)
each-back short reads bytes kept memory (value ∷ others) laws rest answer eaten
    (inr (inr (first, taken, after, later, room, read, read_later, answered, all_eaten))) =
    let shape : flat_map bytes (value ∷ others) ++ rest
    ≡ bytes value ++ (flat_map bytes others ++ rest) =
    append_assoc (bytes value) (flat_map bytes others) rest in
    let back = laws.0 (flat_map bytes others ++ rest) (Ok first) taken
    (subst (λ input. reads input (Ok first) taken) shape read) in
    let at : drop taken (flat_map bytes (value ∷ others) ++ rest) ≡ flat_map bytes others ++ rest =
    ap (drop taken) shape
    ∙ drop_at (bytes value) (flat_map bytes others ++ rest) taken (sym back.1) in
    let others_back = each-back short reads bytes kept memory others laws.1 rest later after
    (subst (λ input. ReadsEach short reads (length others) input later after) at read_later) in
    let whole = in_front kept value first others (length (flat_map bytes others)) taken after later
    back.0 others_back in
    let len : taken + length (flat_map bytes others) ≡ length (flat_map bytes (value ∷ others)) =
    ap (λ number. number + length (flat_map bytes others)) back.1
    ∙ sym (length-append (bytes value) (flat_map bytes others)) in
    subst (λ outcome. ComesBack (AllKept kept (value ∷ others)) (Unit {0})
    (length (flat_map bytes (value ∷ others))) outcome eaten) (sym answered)
    (subst (λ number. ComesBack (AllKept kept (value ∷ others)) (Unit {0})
    (length (flat_map bytes (value ∷ others))) (behind (first ∷ []) later) number) (sym all_eaten)
    (subst (λ number. ComesBack (AllKept kept (value ∷ others)) (Unit {0}) number
    (behind (first ∷ []) later) (taken + after)) len whole))

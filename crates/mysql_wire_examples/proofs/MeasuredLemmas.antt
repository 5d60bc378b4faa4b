-- What visits of spans make of counts.
use Rattle.std.proofs.Common.{◌≡◌, ℕ, ◌+◌, ◌-◌, ◌^◌, ◌<◌, List, [], ◌∷◌, ◌++◌, length, min, arith, ap, sym, ◌∙◌, length-append, Bool, true, false, if◌then◌else◌, append_assoc, subst, append-nil, take, drop, get_or, Bor}
use Rattle.std.specs.List.{FoldsTo}
use Rattle.std.proofs.lemmas.List.{flat_map_more, take_more, take-append-drop}
use Rattle.std.proofs.lemmas.Grind.{flat_map-append}
use Rattle.mysql_wire.specs.Runs.{joined}
use Rattle.mysql_wire.specs.Spans.{packets_of, opened_after}
use Rattle.mysql_wire_examples.specs.declared.measured.StreamSize.{StreamSize}
use Rattle.mysql_wire_examples.specs.Measured.{total_len, Measures}

-- what a visit makes of the counts
abbrev pub measures : StreamSize → List ℕ × Bool → StreamSize → Type 0
measures old span new =
    (new.packets ≡ (if span.1 then min (old.packets + 1) (2 ^ 64 - 1) else old.packets))
    × (new.bytes ≡ min (old.bytes + length span.0) (2 ^ 64 - 1))

total_len-append : (xs ys : List (List ℕ)) → total_len (xs ++ ys) ≡ total_len xs + total_len ys
total_len-append [] ys = omega arith
total_len-append (x ∷ xs) ys = let more = total_len-append xs ys in omega arith

-- visits, one after another
pub measured : (old new : StreamSize) (packets : List (List ℕ)) (opened : List ℕ) (spans : List (List ℕ × Bool)) → Measures old packets opened → FoldsTo measures old spans new → Measures new (packets ++ packets_of opened spans) (opened_after opened spans)
measured old new packets opened [] is folds =
    subst (λ (m : StreamSize). Measures m (packets ++ []) opened) folds
    (subst (λ (z : List (List ℕ)). Measures old z opened) (sym (append-nil packets)) is)
measured old new packets opened ((bytes, true) ∷ spans) is (next, step, rest) =
    let whole = opened ++ bytes in
    let now : Measures next (packets ++ whole ∷ []) [] = (
      let a = step.0 in let b = is.0 in let k = length-append packets (whole ∷ []) in omega arith,
      let a = step.1 in let b = is.1 in let k = total_len-append packets (whole ∷ []) in let l = length-append opened bytes in omega arith,
    ) in
    subst (λ (z : List (List ℕ)). Measures new z (opened_after [] spans)) (append_assoc packets (whole ∷ []) (packets_of [] spans))
    (measured next new (packets ++ whole ∷ []) [] spans now rest)
measured old new packets opened ((bytes, false) ∷ spans) is (next, step, rest) =
    let now : Measures next packets (opened ++ bytes) = (
      let a = step.0 in let b = is.0 in omega arith,
      let a = step.1 in let b = is.1 in let l = length-append opened bytes in omega arith,
    ) in
    measured next new packets (opened ++ bytes) spans now rest

-- one piece more
pub joined_more : (pieces : List (Bor (List ℕ))) (i : ℕ) (d : Bor (List ℕ)) → i < length pieces → joined (take i pieces) ++ (get_or pieces i d).now ≡ joined (take (i + 1) pieces)
joined_more pieces i d there =
    flat_map_more (λ (piece : Bor (List ℕ)). piece.now) [] (take i pieces) (get_or pieces i d) ∙ ap joined (sym (take_more pieces i d there))

-- all pieces are those before one, it, and those after it
pub joined_at : (pieces : List (Bor (List ℕ))) (i : ℕ) (d : Bor (List ℕ)) → i < length pieces → joined pieces ≡ (joined (take i pieces) ++ (get_or pieces i d).now) ++ joined (drop (i + 1) pieces)
joined_at pieces i d there =
    sym (ap joined (take-append-drop (i + 1) pieces))
    ∙ flat_map-append (λ (piece : Bor (List ℕ)). piece.now) (take (i + 1) pieces) (drop (i + 1) pieces)
    ∙ ap (λ (z : List ℕ). z ++ joined (drop (i + 1) pieces)) (sym (joined_more pieces i d there))

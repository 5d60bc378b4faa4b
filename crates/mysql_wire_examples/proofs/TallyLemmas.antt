-- Packets that are counted.
use Rattle.std.proofs.Common.{◌≡◌, ℕ, ◌+◌, ◌-◌, ◌^◌, ◌<◌, List, [], ◌∷◌, length, map, min, arith, ap, sym, ◌∙◌}
use Rattle.std.proofs.lemmas.List.{length-map}
use Rattle.std.specs.List.{FoldsTo}
use Rattle.mysql_wire_examples.specs.declared.in_place.Tally.{Tally}

-- what a visit makes of the counts
abbrev pub tallies : Tally → List ℕ → Tally → Type 0
tallies old packet new = (new.packets ≡ min (old.packets + 1) (2 ^ 64 - 1)) × (new.bytes ≡ min (old.bytes + length packet) (2 ^ 64 - 1))

-- visits, one after another
counted : (old : Tally) (packets : List (List ℕ)) (new : Tally) → old.packets < 2 ^ 64 → FoldsTo tallies old packets new → new.packets ≡ min (old.packets + length packets) (2 ^ 64 - 1)
counted old [] new small e = let same = ap (λ (t : Tally). t.packets) e in omega arith
counted old (packet ∷ packets) new small (next, step, rest) =
    let one = step.0 in
    let more = counted next packets new (omega arith) rest in
    omega arith

pub tally_packets : (payloads : List (List ℕ)) (new : Tally) → FoldsTo tallies record { packets = 0; bytes = 0 } payloads new → new.packets ≡ min (length payloads) (2 ^ 64 - 1)
tally_packets payloads new folds =
    let all = counted record { packets = 0; bytes = 0 } payloads new (omega arith) folds in
    omega arith

-- the same count, of a list that holds what was counted
pub counted_list : {X : Type 0} (bytes_of : X → List ℕ) (items : List X) (seen : List (List ℕ)) (len count : ℕ) → map bytes_of items ≡ seen → len ≡ length items → count ≡ min (length seen) (2 ^ 64 - 1) → count ≡ min len (2 ^ 64 - 1)
counted_list bytes_of items seen len count all is counts =
    counts ∙ ap (λ (n : ℕ). min n (2 ^ 64 - 1)) (ap (λ (z : List (List ℕ)). length z) (sym all) ∙ length-map items bytes_of ∙ sym is)

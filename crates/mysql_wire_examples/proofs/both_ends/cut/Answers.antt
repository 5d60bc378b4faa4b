use Rattle.std.proofs.Common.{List, ℕ, ◌++◌, ap, ap₂, ◌∙◌, append_assoc, take-append-drop}
use Rattle.mysql_wire.specs.Runs.{joined}
use Rattle.mysql_wire_examples.proofs.ConnectionLemmas.{flat_map-one_more}
use Rattle.mysql_wire_examples.proofs.both_ends.cut.Goals as goal

pub reads-preserved : goal.reads-preserved
reads-preserved g c =
    let pieces = c.reads.pieces.items in
    let piece = c.split_at.result.0 in
    let behind : List ℕ = c.split_at.result.1.now in
    let split = c.split_at.ensures in
    ap (λ z. joined z ++ behind) c.in_ok-push.ensures.items
    ∙ ap (λ (z : List ℕ). z ++ behind) (flat_map-one_more (λ piece. piece.now) pieces piece)
    ∙ append_assoc (joined pieces) piece.now behind
    ∙ ap (λ (z : List ℕ). joined pieces ++ z) (ap₂ (λ (a b : List ℕ). a ++ b) split.front split.back ∙ take-append-drop c.min.result c.reads.rest.now)
    ∙ c.reads.invariant

pub returns : goal.returns
returns g c =
    ap joined c.in_ok-push-2.ensures.items ∙ flat_map-one_more (λ piece. piece.now) c.reads.pieces.items c.reads.rest ∙ c.reads.invariant

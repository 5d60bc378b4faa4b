use Rattle.std.proofs.Common.{◌∷◌, ◌+◌, ◌∙◌, ℕ, ap₂}
use Rattle.mysql_wire_session.specs.State.{state_of}
use Rattle.connection_examples.proofs.counting.read_answer.Goals as goal

pub packets-preserved : goal.packets-preserved
packets-preserved g c =
    let old = c.packets.invariant in (
      c.in_ok-kind.kind ∷ old.0,
      (state_of c.packets.session, old.1, c.in_ok-kind.ensures),
      c.in-Some.ensures.1 ∙ ap₂ (λ (a b : ℕ). a + b) old.2 c.rows_of.ensures,
    )

use Rattle.std.proofs.Common.{length}
use Rattle.wire_text.proofs.StandLemmas.{LookedAt}
use Rattle.wire_text.proofs.escapes.look_at.Given as goal

abbrev pub decreases-rounds : goal.decreases-rounds
decreases-rounds l = length l.rest

abbrev pub invariant-rounds : goal.invariant-rounds
invariant-rounds l = LookedAt l.words l.rest l.is_ascii l.stands

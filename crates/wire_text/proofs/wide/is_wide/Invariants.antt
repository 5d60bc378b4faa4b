use Rattle.std.proofs.Common.{length}
use Rattle.wire_text.proofs.WideLemmas.{WideSoFar}
use Rattle.wire_text.proofs.wide.is_wide.Given as goal

abbrev pub decreases-rounds : goal.decreases-rounds
decreases-rounds l = length l.rest

abbrev pub invariant-rounds : goal.invariant-rounds
invariant-rounds l = WideSoFar l.words l.rest

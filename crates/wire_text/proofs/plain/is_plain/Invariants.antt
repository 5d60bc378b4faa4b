use Rattle.std.proofs.Common.{length}
use Rattle.wire_text.proofs.PlainLemmas.{PlainSoFar}
use Rattle.wire_text.proofs.plain.is_plain.Given as goal

abbrev pub decreases-rounds : goal.decreases-rounds
decreases-rounds l = length l.rest

abbrev pub invariant-rounds : goal.invariant-rounds
invariant-rounds l = PlainSoFar l.fn.words l.rest

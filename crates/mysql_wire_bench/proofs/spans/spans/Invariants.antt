use Rattle.std.proofs.Common.{length}
use Rattle.std.specs.Prelude.{⊤}
use Rattle.mysql_wire_bench.proofs.spans.spans.Given as goal

abbrev pub invariant-spans : goal.invariant-spans
invariant-spans l = ⊤

abbrev pub decreases-spans : goal.decreases-spans
decreases-spans l = length l.rest

use Rattle.std.proofs.Common.{length}
use Rattle.std.specs.Prelude.{⊤}
use Rattle.mysql_wire_bench.proofs.packets.drain.Given as goal

abbrev pub invariant-packets : goal.invariant-packets
invariant-packets l = ⊤

abbrev pub decreases-packets : goal.decreases-packets
decreases-packets l = length l.src.items

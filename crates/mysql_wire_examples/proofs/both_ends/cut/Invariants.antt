use Rattle.std.proofs.Common.{◌≡◌, ◌++◌}
use Rattle.mysql_wire.specs.Runs.{joined}
use Rattle.mysql_wire_examples.proofs.both_ends.cut.Given as goal

abbrev pub invariant-reads : goal.invariant-reads
invariant-reads g l = joined l.pieces.items ++ l.rest ≡ l.fn.bytes

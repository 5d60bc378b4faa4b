use Rattle.std.specs.Io.KnownBytes.{Consumes}
use Rattle.mysql_wire_tool_commands.proofs.input.read_whole.Given as goal

abbrev pub invariant-reads : goal.invariant-reads
invariant-reads g l = Consumes (g.R.Read.remaining l.fn.input) (g.R.Read.remaining l.input) l.whole.items

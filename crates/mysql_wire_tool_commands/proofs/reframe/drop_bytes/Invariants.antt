use Rattle.std.proofs.Common.{◌≡◌, ◌+◌, ℕ, List, length}
use Rattle.std.specs.Io.KnownBytes.{Consumes}
use Rattle.mysql_wire_tool_commands.proofs.reframe.drop_bytes.Given as goal

abbrev pub invariant-reads : goal.invariant-reads
invariant-reads g l = (gone : List ℕ) × Consumes (g.R.Read.remaining l.fn.input) (g.R.Read.remaining l.input) gone
    × (length gone + l.left ≡ l.fn.count)

abbrev pub decreases-reads : goal.decreases-reads
decreases-reads g l = l.left

use Rattle.std.proofs.Common.{◌≤◌, length}
use Rattle.mysql_wire_tool_commands.proofs.chunk_writer.left_behind.Given as goal

abbrev pub invariant-loop-gone : goal.invariant-loop-gone
invariant-loop-gone l = length l.gone ≤ length l.rest

abbrev pub decreases-loop-gone : goal.decreases-loop-gone
decreases-loop-gone l = length l.gone

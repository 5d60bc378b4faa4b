use Rattle.std.proofs.Common.{rules}
use Rattle.mysql_wire_tool_commands.proofs.piece_lines.PieceLinesVisit.visit.Goals as goal

pub returns-then-is_err : goal.returns-then-is_err
returns-then-is_err g c = search rules

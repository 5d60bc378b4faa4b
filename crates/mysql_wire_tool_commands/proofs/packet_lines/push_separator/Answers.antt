use Rattle.std.proofs.Common.{rules}
use Rattle.mysql_wire_tool_commands.proofs.PacketLineLemmas.{dash_behind}
use Rattle.mysql_wire_tool_commands.proofs.packet_lines.push_separator.Goals as goal

pub returns-then-is_empty : goal.returns-then-is_empty
returns-then-is_empty g c = dash_behind c.extend_from_slice.result c.args.text.now.items c.args.payload.now _ (search rules) c.extend_from_slice.ensures.items

use Rattle.std.proofs.Common.{take}
use Rattle.mysql_wire_tool_commands.specs.PacketLines.{Goes}
use Rattle.mysql_wire_tool_commands.specs.Unframe.{packet_lines}
use Rattle.wire_codec.specs.Runs.{payloads}
use Rattle.mysql_wire_tool_commands.proofs.packet_lines.write_packets.Given as goal

abbrev pub invariant-loop-packet : goal.invariant-loop-packet
invariant-loop-packet g l =
    Goes l.fn.text.items (packet_lines (payloads (take l.packet-index l.packets))) l.text.items (g.W.Write.contents l.fn.output) (g.W.Write.contents l.output)

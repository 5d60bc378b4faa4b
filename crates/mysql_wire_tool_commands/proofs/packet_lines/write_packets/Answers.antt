use Rattle.std.proofs.Common.{subst, take_all}
use Rattle.wire_codec.specs.Runs.{payloads}
use Rattle.mysql_wire_tool_commands.specs.PacketLines.{Goes}
use Rattle.mysql_wire_tool_commands.specs.Unframe.{packet_lines}
use Rattle.mysql_wire_tool_commands.proofs.PacketLineLemmas.{lines_begin, packets_on}
use Rattle.mysql_wire_tool_commands.proofs.packet_lines.write_packets.Goals as goal

pub loop-packet-preserved : goal.loop-packet-preserved
loop-packet-preserved g c =
    packets_on c.args.packets.now c.loop-packet.packet-index c.packet-item.result _ c.as_slice.result.now _ _ _ _ _ c.packet-item.is c.loop-packet-test.true c.as_slice.ensures.value
    c.loop-packet.invariant c.in_ok-write_packet.ensures

pub loop-packet-init : goal.loop-packet-init
loop-packet-init g c = lines_begin c.args.text.now.items (g.W.Write.contents c.args.output.now)

pub returns : goal.returns
returns g c =
    subst (λ z. Goes c.args.text.now.items (packet_lines (payloads z)) c.loop-packet.text.items (g.W.Write.contents c.args.output.now) (g.W.Write.contents c.loop-packet.output))
    (take_all c.loop-packet.packet-index c.args.packets.now c.loop-packet-test.false) c.loop-packet.invariant

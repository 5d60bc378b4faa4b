use Rattle.mysql_wire_tool_commands.proofs.PacketLineLemmas.{line_goes}
use Rattle.mysql_wire_tool_commands.proofs.packet_lines.write_packet.Goals as goal

pub returns : goal.returns
returns g c =
    line_goes _ c.args.payload.now _ _ _ _ _ c.in_ok-push_front.ensures c.in_ok-write_digits.ensures c.in_ok-extend_from_slice.ensures.items

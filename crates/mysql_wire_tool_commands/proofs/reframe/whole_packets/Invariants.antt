use Rattle.std.proofs.Common.{◌≡◌, ◌-◌, length}
use Rattle.mysql_wire_tool_commands.specs.Reframe.{PassesWhole}
use Rattle.mysql_wire_tool_commands.proofs.reframe.whole_packets.Given as goal

abbrev pub invariant-packets : goal.invariant-packets
invariant-packets l = record {
  passes : PassesWhole l.fn.codec l.fn.unread l.len l.codec;
  limit : l.codec.max_allowed_packet ≡ l.fn.codec.max_allowed_packet;
}

abbrev pub decreases-packets : goal.decreases-packets
decreases-packets l = length l.fn.unread - l.len

use Rattle.std.proofs.Common.{◌≡◌}
use Rattle.mysql_wire_dump_lines.specs.PacketStreams.{IsReady}
use Rattle.mysql_wire_dump_lines.proofs.PacketStreamLemmas.{Going}
use Rattle.mysql_wire_dump_lines.proofs.packet_stream.PacketStream.take_packet.Given as goal

abbrev pub invariant-spans : goal.invariant-spans
invariant-spans g l = record {
  next : l.self.next ≡ l.fn.self.next;
  limit : l.self.limit ≡ l.fn.self.limit;
  going : IsReady l.fn.id l.fn.self → Going l.fn.id l.fn.self l.self (g.R.Read.remaining l.fn.input) (g.R.Read.remaining l.input);
}

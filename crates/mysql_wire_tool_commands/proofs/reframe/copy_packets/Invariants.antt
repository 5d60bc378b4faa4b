use Rattle.std.proofs.Common.{◌≡◌}
use Rattle.mysql_wire_tool_commands.specs.LongPackets.{IsAtHeader, IsInFront}
use Rattle.mysql_wire_tool_commands.specs.Reframe.{Copying, place_of}
use Rattle.mysql_wire_tool_commands.proofs.reframe.copy_packets.Given as goal

abbrev pub invariant-packets : goal.invariant-packets
invariant-packets g l = record {
  front : IsInFront l.from;
  codec : IsAtHeader l.decoder;
  decoder : l.decoder.max_allowed_packet ≡ l.fn.limit;
  encoder : l.encoder.max_allowed_packet ≡ l.fn.limit;
  so_far : Copying l.fn.limit (g.R.Read.remaining l.fn.from.reader) (g.W.Write.contents l.fn.to.chunks.writer)
      (place_of g.R.Read.remaining g.W.Write.contents l.from l.decoder l.to l.encoder);
}

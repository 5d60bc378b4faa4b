use Rattle.std.proofs.Common.{◌≡◌, None, false}
use Rattle.wire_packet_io.specs.Lending.{input_state}
use Rattle.wire_packet_io.proofs.PacketIoLemmas.{SoFar, to_go}
use Rattle.wire_packet_io.proofs.input.Input.next.Given as goal

abbrev pub invariant-reads : goal.invariant-reads
invariant-reads g l = record {
  found : l.self.lost ≡ false;
  so_far : SoFar (input_state l.fn.codec None l.fn.self) (input_state l.codec None l.self)
      (g.R.Read.remaining l.fn.self.reader) (g.R.Read.remaining l.self.reader) l.fn.self.reads l.self.reads;
}

abbrev pub decreases-reads : goal.decreases-reads
decreases-reads g l = to_go (input_state l.fn.codec None l.fn.self) l.self.dst.items l.self.src.items

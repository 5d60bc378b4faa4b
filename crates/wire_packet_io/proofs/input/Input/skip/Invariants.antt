use Rattle.std.proofs.Common.{◌≡◌, false}
use Rattle.wire_codec.specs.Codec.{CodecState}
use Rattle.wire_codec.specs.Skipping.{WouldStand}
use Rattle.wire_packet_io.proofs.PacketIoLemmas.{SoFar}
use Rattle.wire_packet_io.proofs.SkipLemmas.{skip_to_go}
use Rattle.wire_packet_io.proofs.input.Input.skip.Given as goal

abbrev pub invariant-skips : goal.invariant-skips
invariant-skips g l = record {
  found : l.self.lost ≡ false;
  held : l.self.dst ≡ l.fn.self.dst;
  same : l.codec.max_allowed_packet ≡ l.fn.codec.max_allowed_packet;
  so_far : (full : CodecState) → WouldStand l.fn.skipped l.fn.codec l.fn.self.src.items full
      → (mid : CodecState) × WouldStand l.skipped l.codec l.self.src.items mid
      × SoFar full mid (g.R.Read.remaining l.fn.self.reader) (g.R.Read.remaining l.self.reader) l.fn.self.reads l.self.reads;
}

abbrev pub decreases-skips : goal.decreases-skips
decreases-skips g l = skip_to_go l.fn.codec.max_allowed_packet l.fn.skipped.held l.skipped l.self.src.items

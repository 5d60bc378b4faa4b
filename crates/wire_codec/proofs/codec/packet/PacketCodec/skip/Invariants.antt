use Rattle.std.proofs.Common.{◌≡◌, length}
use Rattle.wire_codec.specs.Codec.{CodecState}
use Rattle.wire_codec.specs.Skipping.{WouldStand}
use Rattle.wire_codec.proofs.SkipLemmas.{HasSkipped}
use Rattle.wire_codec.proofs.codec.packet.PacketCodec.skip.Given as goal

abbrev pub invariant-chunks : goal.invariant-chunks
invariant-chunks g l = record {
  same : l.self.max_allowed_packet ≡ l.initial.self.max_allowed_packet;
  runs : (full : CodecState) → WouldStand l.initial.skipped l.initial.self l.initial.src.items full → HasSkipped l.skipped l.self l.src.items full;
}

abbrev pub decreases-chunks : goal.decreases-chunks
decreases-chunks g l = length l.src.items

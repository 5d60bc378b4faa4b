use Rattle.std.proofs.Common.{◌≡◌, ℕ, length}
use Rattle.wire_codec.specs.Codec.{codec_state, first_id, input_of}
use Rattle.wire_codec.specs.Limited.{Limits}
use Rattle.wire_codec.specs.GoingOn.{GoesOn}
use Rattle.wire_codec.proofs.TakingLemmas.{HasTaken}
use Rattle.wire_codec.proofs.codec.taking.drain.Given as goal

abbrev pub invariant-packets : goal.invariant-packets
invariant-packets g l =
    let before = codec_state l.initial.codec l.initial.src.items l.initial.dst.items in
    record {
      same : l.codec.max_allowed_packet ≡ l.initial.codec.max_allowed_packet;
      on : (limits : Limits) (mark place : ℕ) → GoesOn limits mark place before
          → HasTaken g.K.PacketSink.took limits mark place (first_id before) before.held (input_of before) l.initial.out l.out (codec_state l.codec l.src.items l.dst.items);
    }

abbrev pub decreases-packets : goal.decreases-packets
decreases-packets g l = length l.src.items

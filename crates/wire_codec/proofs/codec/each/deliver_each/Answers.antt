use Rattle.wire_codec.specs.Codec.{codec_state}
use Rattle.wire_codec.proofs.OneLimit.{stands_aligned, runs_same}
use Rattle.wire_codec.proofs.codec.each.deliver_each.Goals as goal

pub take_pieces-requires : goal.take_pieces-requires
take_pieces-requires g c = stands_aligned (codec_state c.args.codec.now c.args.src.now.items c.args.dst.now.items) c.requires

pub returns : goal.returns
returns g c =
    let run = runs_same _ _ c.args.pieces.now _ _ _ _ _ c.requires c.take_pieces.ensures in
    record { runs = run.runs; count = run.few; least = run.least; all = run.all; bounded = run.bounded; stands = run.stands; limit = run.limit }

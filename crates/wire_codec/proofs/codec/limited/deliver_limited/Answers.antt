use Rattle.wire_codec.proofs.OneLimit.{runs_given}
use Rattle.wire_codec.proofs.codec.limited.deliver_limited.Goals as goal

pub returns : goal.returns
returns g c =
    let run = runs_given _ _ c.args.pieces.now _ _ _ _ _ c.take_pieces.ensures in
    record { runs = run.runs; on = run.on; count = run.few; least = run.least; all = run.all; aligned = run.aligned; limit = run.limit }

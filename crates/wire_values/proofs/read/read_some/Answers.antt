use Rattle.std.proofs.Common.{◌<◌}
use Rattle.std.specs.Vec.{vec_capacity}
use Rattle.wire_buf.specs.Reading.{Parses}
use Rattle.wire_values.proofs.ReadLemmas.{eats-short}
use Rattle.wire_values.proofs.read.read_some.Goals as goal

pub returns : goal.returns
returns g c = eats-short (λ values. values.items) (vec_capacity c.reserve.new.self < c.args.count)
    (Unit {0}) (λ missing. tt) (Parses g.T.Size.ReadSize.SIZE (g.T.MyDeserialize.reads tt))
    c.args.count c.args.buf.now.0.now c.read_each-read.result c.read_each-read.new.buf.0.now
    c.read_each-read.ensures

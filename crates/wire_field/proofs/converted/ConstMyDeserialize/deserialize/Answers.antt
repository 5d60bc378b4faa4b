use Rattle.wire_field.specs.declared.converted.Const.{Const}
use Rattle.wire_field.proofs.ConvertedLemmas.{converted-read, converted-unknown}
use Rattle.wire_field.proofs.converted.ConstMyDeserialize.deserialize.Goals as goal

pub returns-in-Ok : goal.returns-in-Ok
returns-in-Ok g c = converted-read {Y = Const g.row.T.Denot g.row.U.Denot} (λ constant. constant.0)
    g.T.TryFrom.try_from_gives g.U.IntRepr.reads c.args.buf.now.0.now c.deserialize.new.buf.0.now
    c.in_ok-number.number c.in-Ok.value c.new.result c.new.ensures c.in_ok-number.ensures
    c.in-Ok.ensures

pub returns-in-Err : goal.returns-in-Err
returns-in-Err g c = converted-unknown {Y = Const g.row.T.Denot g.row.U.Denot}
    (λ constant. constant.0) g.T.TryFrom.try_from_gives g.U.IntRepr.reads c.args.buf.now.0.now
    c.deserialize.new.buf.0.now c.in_ok-number.number c.in-Err._error c.in_ok-number.ensures
    c.in-Err.ensures

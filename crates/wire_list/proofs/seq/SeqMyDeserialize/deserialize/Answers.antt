use Rattle.std.proofs.lemmas.Result.{err_from_is_err_and}
use Rattle.wire_buf.specs.Reading.{Parses}
use Rattle.wire_list.specs.declared.seq.Seq.{Seq}
use Rattle.wire_values.specs.Elements.{ReadsAll}
use Rattle.wire_list.proofs.CountedLemmas.{counted-part, counted-refused}
use Rattle.wire_list.proofs.seq.SeqMyDeserialize.deserialize.Goals as goal

pub returns-in_err-deserialize : goal.returns-in_err-deserialize
returns-in_err-deserialize g c =
    let p = err_from_is_err_and c.from_residual.result c.from_residual.ensures.1 in
    rw (p.1, p.2) (counted-refused {V = Seq g.row.T.Denot g.row.U.Denot g.row.A.Denot}
    (λ seq. seq.0) (g.U.SeqRepr.count c.args.ctx)
    (ReadsAll g.T.Size.ReadSize.SIZE
    (Parses g.T.Size.ReadSize.SIZE (g.T.MyDeserialize.reads tt)))
    c.args.buf.now.0.now c.deserialize.new.buf.0.now c.in_err-deserialize.field-0.0
    c.in_err-deserialize.ensures)

pub returns : goal.returns
returns g c = counted-part {V = Seq g.row.T.Denot g.row.U.Denot g.row.A.Denot} (λ seq. seq.0)
    (g.U.SeqRepr.count c.args.ctx)
    (ReadsAll g.T.Size.ReadSize.SIZE
    (Parses g.T.Size.ReadSize.SIZE (g.T.MyDeserialize.reads tt)))
    c.args.buf.now.0.now c.deserialize.new.buf.0.now c.in_ok-deserialize.field-0 c.new.result
    c.new.ensures c.in_ok-deserialize.ensures

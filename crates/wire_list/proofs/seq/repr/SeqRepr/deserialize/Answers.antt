use Rattle.std.proofs.lemmas.Result.{err_from_is_err_and}
use Rattle.wire_buf.specs.Reading.{Parses}
use Rattle.wire_values.specs.Elements.{ReadsAll}
use Rattle.wire_list.specs.Counted.{counted-read, counted-failed}
use Rattle.wire_list.proofs.seq.repr.SeqRepr.deserialize.Goals as goal

pub returns-in_err-items : goal.returns-in_err-items
returns-in_err-items g c =
    let R = Parses g.T.Size.ReadSize.SIZE (g.T.MyDeserialize.reads tt) in
    let p = err_from_is_err_and c.from_residual-in_err-items.result
    c.from_residual-in_err-items.ensures.1 in
    rw (p.1, p.2) (counted-failed (λ v. v) (g.Self.SeqRepr.count c.args.ctx)
    (ReadsAll g.T.Size.ReadSize.SIZE R) c.args.buf.now.0.now c.read_count.new.buf.0.now
    c.read_all.new.buf.0.now c.in_ok-count.count c.in_err-items.field-0.0 c.in_ok-count.ensures
    c.in_err-items.ensures)

pub returns : goal.returns
returns g c =
    let R = Parses g.T.Size.ReadSize.SIZE (g.T.MyDeserialize.reads tt) in
    counted-read (λ v. v) (g.Self.SeqRepr.count c.args.ctx) (ReadsAll g.T.Size.ReadSize.SIZE R)
    c.args.buf.now.0.now c.read_count.new.buf.0.now c.read_all.new.buf.0.now c.in_ok-count.count _
    c.in_ok-count.ensures tt c.in_ok-items.ensures

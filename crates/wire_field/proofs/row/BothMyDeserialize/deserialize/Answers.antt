use Rattle.std.proofs.lemmas.Result.{err_from_is_err_and}
use Rattle.wire_buf.specs.Reading.{Parses}
use Rattle.wire_field.specs.declared.row.Both.{Both}
use Rattle.wire_field.proofs.RowLemmas.{both-read, first-failed, second-failed}
use Rattle.wire_field.proofs.row.BothMyDeserialize.deserialize.Goals as goal

pub returns-in_err-first : goal.returns-in_err-first
returns-in_err-first g c =
    let p = err_from_is_err_and c.from_residual.result
    c.from_residual.ensures.1 in
    rw (p.1, p.2) (first-failed {Y = Both g.row.A.Denot g.row.B.Denot} (λ both. both.0) (λ both. both.1)
    (Parses g.A.Size.ReadSize.SIZE (g.A.MyDeserialize.reads c.args.ctx.0))
    (Parses g.B.Size.ReadSize.SIZE (g.B.MyDeserialize.reads c.args.ctx.1)) c.args.buf.now.0.now
    c.parse_in.new.self.0.now c.in_err-first.field-0.0 c.in_err-first.ensures)

pub returns-in-Err : goal.returns-in-Err
returns-in-Err g c =
    second-failed {Y = Both g.row.A.Denot g.row.B.Denot} (λ both. both.0) (λ both. both.1)
    (Parses g.A.Size.ReadSize.SIZE (g.A.MyDeserialize.reads c.args.ctx.0))
    (Parses g.B.Size.ReadSize.SIZE (g.B.MyDeserialize.reads c.args.ctx.1)) c.args.buf.now.0.now
    c.parse_in.new.self.0.now c.parse_in-2.new.self.0.now c.in_ok-first.first c.in-Err.error
    c.in_ok-first.ensures c.in-Err.ensures

pub returns-in-Ok : goal.returns-in-Ok
returns-in-Ok g c = both-read {Y = Both g.row.A.Denot g.row.B.Denot} (λ both. both.0) (λ both. both.1)
    (Parses g.A.Size.ReadSize.SIZE (g.A.MyDeserialize.reads c.args.ctx.0))
    (Parses g.B.Size.ReadSize.SIZE (g.B.MyDeserialize.reads c.args.ctx.1)) c.args.buf.now.0.now
    c.parse_in.new.self.0.now c.parse_in-2.new.self.0.now _ c.in_ok-first.ensures c.in-Ok.ensures

use Rattle.std.proofs.lemmas.Result.{err_from_is_err_and}
use Rattle.wire_buf.specs.Reading.{Parses}
use Rattle.wire_field.proofs.RowLemmas.{left-read, left-failed, right-read, right-failed}
use Rattle.wire_field.proofs.row.EitherMyDeserialize.deserialize.Goals as goal

pub returns-in_ok-left-in-Left : goal.returns-in_ok-left-in-Left
returns-in_ok-left-in-Left g c = left-read (λ ctx. Parses g.T.Size.ReadSize.SIZE (g.T.MyDeserialize.reads ctx))
    (λ ctx. Parses g.U.Size.ReadSize.SIZE (g.U.MyDeserialize.reads ctx)) c.args.ctx c.in-Left.ctx
    c.args.buf.now.0.now c.parse_in.new.self.0.now c.in_ok-left-in-Left.left c.in-Left.is
    c.in_ok-left-in-Left.ensures

pub returns-in_err-left-in-Left : goal.returns-in_err-left-in-Left
returns-in_err-left-in-Left g c =
    let p = err_from_is_err_and c.from_residual.result c.from_residual.ensures.1 in
    rw (p.1, p.2) (left-failed (λ ctx. Parses g.T.Size.ReadSize.SIZE (g.T.MyDeserialize.reads ctx))
    (λ ctx. Parses g.U.Size.ReadSize.SIZE (g.U.MyDeserialize.reads ctx)) c.args.ctx c.in-Left.ctx
    c.args.buf.now.0.now c.parse_in.new.self.0.now c.in_err-left-in-Left.field-0.0 c.in-Left.is
    c.in_err-left-in-Left.ensures)

pub returns-in_ok-right-in-Right : goal.returns-in_ok-right-in-Right
returns-in_ok-right-in-Right g c = right-read (λ ctx. Parses g.T.Size.ReadSize.SIZE (g.T.MyDeserialize.reads ctx))
    (λ ctx. Parses g.U.Size.ReadSize.SIZE (g.U.MyDeserialize.reads ctx)) c.args.ctx c.in-Right.ctx
    c.args.buf.now.0.now c.parse_in-in-Right.new.self.0.now c.in_ok-right-in-Right.right c.in-Right.is
    c.in_ok-right-in-Right.ensures

pub returns-in_err-right-in-Right : goal.returns-in_err-right-in-Right
returns-in_err-right-in-Right g c =
    let p = err_from_is_err_and c.from_residual-in_err-right-in-Right.result c.from_residual-in_err-right-in-Right.ensures.1 in
    rw (p.1, p.2) (right-failed (λ ctx. Parses g.T.Size.ReadSize.SIZE (g.T.MyDeserialize.reads ctx))
    (λ ctx. Parses g.U.Size.ReadSize.SIZE (g.U.MyDeserialize.reads ctx)) c.args.ctx c.in-Right.ctx
    c.args.buf.now.0.now c.parse_in-in-Right.new.self.0.now c.in_err-right-in-Right.field-0.0 c.in-Right.is
    c.in_err-right-in-Right.ensures)

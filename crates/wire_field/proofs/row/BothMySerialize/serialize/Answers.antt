use Rattle.std.proofs.Common.{◌∙◌, ◌++◌}
use Rattle.wire_repr.proofs.PutLemmas.{put-behind, taken-back}
use Rattle.wire_field.proofs.row.BothMySerialize.serialize.Goals as goal

pub returns-then-is_err : goal.returns-then-is_err
returns-then-is_err g c =
    let both = taken-back c.serialize-put.result c.is_err.result c.len-at.result
    c.args.buf.now.items c.serialize.new.buf.items c.serialize-put.new.buf.items
    c.truncate.new.self.items (g.A.MySerialize.bytes c.args.self.now.0)
    (g.A.MySerialize.bytes c.args.self.now.0 ++ g.B.MySerialize.bytes c.args.self.now.1)
    c.is_err.ensures.value c.if-is_err.true (c.len-at.ensures ∙ c.args.buf.now.ok.0)
    c.in_ok-serialize.ensures.ok c.serialize-put.ensures.err c.truncate.ensures.items in
    record { ok = both.0; err = both.1 }

pub returns-else-is_err : goal.returns-else-is_err
returns-else-is_err g c =
    let both = put-behind c.serialize-put.result c.is_err.result c.args.buf.now.items
    c.serialize.new.buf.items c.serialize-put.new.buf.items
    (g.A.MySerialize.bytes c.args.self.now.0) (g.B.MySerialize.bytes c.args.self.now.1)
    c.is_err.ensures.value c.if-is_err.false c.in_ok-serialize.ensures.ok
    c.serialize-put.ensures.ok in
    record { ok = both.0; err = both.1 }

use Rattle.std.proofs.Common.{◌∙◌, ◌++◌}
use Rattle.std.specs.List.{flat_map}
use Rattle.wire_repr.proofs.PutLemmas.{put-behind, taken-back}
use Rattle.wire_values.proofs.write.write_counted.Goals as goal

pub returns-then-is_err : goal.returns-then-is_err
returns-then-is_err g c =
    let both = taken-back c.write_each-put.result c.is_err.result c.len-at.result
    c.args.buf.now.items c.extend_from_slice.new.self.items c.write_each-put.new.buf.items
    c.truncate.new.self.items c.args.count.now
    (c.args.count.now ++ flat_map g.T.MySerialize.bytes c.args.values.now)
    c.is_err.ensures.value c.if-is_err.true (c.len-at.ensures ∙ c.args.buf.now.ok.0)
    c.in_ok-extend_from_slice.ensures.items c.write_each-put.ensures.err c.truncate.ensures.items
    in
    record { ok = both.0; err = both.1 }

pub returns-else-is_err : goal.returns-else-is_err
returns-else-is_err g c =
    let both = put-behind c.write_each-put.result c.is_err.result c.args.buf.now.items
    c.extend_from_slice.new.self.items c.write_each-put.new.buf.items c.args.count.now
    (flat_map g.T.MySerialize.bytes c.args.values.now) c.is_err.ensures.value c.if-is_err.false
    c.in_ok-extend_from_slice.ensures.items c.write_each-put.ensures.ok in
    record { ok = both.0; err = both.1 }

use Rattle.std.proofs.Common.{◌∙◌, take}
use Rattle.std.specs.List.{flat_map}
use Rattle.wire_repr.proofs.PutLemmas.{taken-back}
use Rattle.wire_values.proofs.WriteLemmas.{none-written, more-written, all-written}
use Rattle.wire_values.proofs.write.write_each.Goals as goal

pub loop-value-init : goal.loop-value-init
loop-value-init g c = record {
  at = c.len-at.ensures ∙ c.args.buf.now.ok.0;
  so_far = none-written c.args.buf.now.items;
}

pub loop-value-preserved : goal.loop-value-preserved
loop-value-preserved g c = record {
  at = c.loop-value.invariant.at;
  so_far = more-written g.T.MySerialize.bytes c.args.values.now c.loop-value.value-index
      c.value-item.result c.serialize-put.result c.is_err.result c.args.buf.now.items
      c.loop-value.buf.items c.serialize-put.new.buf.items c.loop-value-test.true c.value-item.is
      c.loop-value.invariant.so_far c.is_err.ensures.value c.if-is_err.false
      c.serialize-put.ensures.ok;
}

pub returns-then-is_err : goal.returns-then-is_err
returns-then-is_err g c =
    let both = taken-back c.serialize-put.result c.is_err.result c.len-at.result
    c.args.buf.now.items c.loop-value.buf.items c.serialize-put.new.buf.items
    c.truncate.new.self.items
    (flat_map g.T.MySerialize.bytes (take c.loop-value.value-index c.args.values.now))
    (flat_map g.T.MySerialize.bytes c.args.values.now) c.is_err.ensures.value c.if-is_err.true
    c.loop-value.invariant.at c.loop-value.invariant.so_far c.serialize-put.ensures.err
    c.truncate.ensures.items in
    record { ok = both.0; err = both.1 }

pub returns : goal.returns
returns g c = record {
  ok = all-written g.T.MySerialize.bytes c.args.values.now c.loop-value.value-index
      c.args.buf.now.items c.loop-value.buf.items c.loop-value-test.false
      c.loop-value.invariant.so_far;
  err = tt;
}

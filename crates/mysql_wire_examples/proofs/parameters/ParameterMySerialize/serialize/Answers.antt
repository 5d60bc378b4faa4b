use Rattle.std.proofs.Common.{◌∙◌}
use Rattle.mysql_wire_examples.proofs.PutLemmas.{text_put, no_fault, no_text_put, fault_back}
use Rattle.mysql_wire_examples.proofs.parameters.ParameterMySerialize.serialize.Goals as goal

pub returns-else-is_err : goal.returns-else-is_err
returns-else-is_err g c = record {
  ok = text_put c.serialize-put.result _ c.serialize.new.buf.items c.serialize-put.new.buf.items _ _ c.in_ok-serialize.ensures.ok c.serialize-put.ensures.ok;
  err = no_fault c.serialize-put.result _ c.if-is_err.ensures.value;
}

pub returns-then-is_err : goal.returns-then-is_err
returns-then-is_err g c = record {
  ok = no_text_put c.serialize-put.result _ c.if-is_err.ensures.value;
  err = fault_back c.serialize-put.result c.len-at.result c.args.buf.now.items _ c.serialize.new.buf.items c.serialize-put.new.buf.items c.truncate.new.self.items
      (c.len-at.ensures ∙ c.args.buf.now.ok.0) c.in_ok-serialize.ensures.ok c.serialize-put.ensures.err c.truncate.ensures.items;
}

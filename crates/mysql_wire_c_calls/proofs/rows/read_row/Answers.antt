use Rattle.std.proofs.Common.{rules, arith}
use Rattle.std.proofs.lemmas.List.{length-set}
use Rattle.mysql_wire_c_calls.proofs.RowLemmas.{row_step}
use Rattle.mysql_wire_c_calls.proofs.rows.read_row.Goals as goal

pub texts-preserved : goal.texts-preserved
texts-preserved c =
    let same = length-set c.texts.texts c.texts.count c.read_value-code.new.text in
    let test = c.texts-test.true in
    record {
      room = omega (arith, same, test);
      so_far = row_step c.texts.texts c.args.bytes.now c.args.at.now c.texts.end c.read_value-code.new.at c.texts.count c.read_value-code.new.text
          c.texts-test.true c.texts.invariant.so_far (c.read_value-code.ensures.read (search rules));
    }

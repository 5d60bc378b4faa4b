use Rattle.mysql_wire_queries.proofs.ColumnLemmas.{puts_next, puts_part}
use Rattle.mysql_wire_queries.proofs.column_definition.put_pair.Goals as goal

pub returns : goal.returns
returns g c =
    puts_next c.put_text-2.result c.args.buf.now.items c.put_text.new.buf.items c.put_text-2.new.buf.items _ _ c.in_ok-put_text.ensures
    c.put_text-2.ensures

pub returns-in_err-put_text : goal.returns-in_err-put_text
returns-in_err-put_text g c =
    puts_part c.from_residual.result c.args.buf.now.items c.put_text.new.buf.items _ c.from_residual.ensures.0 c.in_err-put_text.ensures

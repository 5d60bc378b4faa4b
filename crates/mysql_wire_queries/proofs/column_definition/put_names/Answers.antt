use Rattle.mysql_wire_queries.proofs.ColumnLemmas.{part_next, puts_next, puts_part}
use Rattle.mysql_wire_queries.proofs.column_definition.put_names.Goals as goal

pub returns : goal.returns
returns g c =
    puts_next c.put_pair-3.result c.args.buf.now.items c.put_pair.new.buf.items c.put_pair-3.new.buf.items _ _ c.in_ok-put_pair.ensures
    (puts_next c.put_pair-3.result c.put_pair.new.buf.items c.put_pair-2.new.buf.items c.put_pair-3.new.buf.items _ _ c.in_ok-put_pair-2.ensures
    c.put_pair-3.ensures)

pub returns-in_err-put_pair : goal.returns-in_err-put_pair
returns-in_err-put_pair g c =
    puts_part c.from_residual.result c.args.buf.now.items c.put_pair.new.buf.items _ c.from_residual.ensures.0 c.in_err-put_pair.ensures

pub returns-in_err-put_pair-2 : goal.returns-in_err-put_pair-2
returns-in_err-put_pair-2 g c =
    puts_part c.from_residual-in_err-put_pair-2.result c.args.buf.now.items c.put_pair-2.new.buf.items _ c.from_residual-in_err-put_pair-2.ensures.0 (part_next c.args.buf.now.items c.put_pair.new.buf.items c.put_pair-2.new.buf.items _ c.in_ok-put_pair.ensures c.in_err-put_pair-2.ensures)

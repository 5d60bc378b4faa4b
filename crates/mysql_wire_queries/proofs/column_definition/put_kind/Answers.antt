use Rattle.wire_buf.specs.Numbers.{le_bytes}
use Rattle.mysql_wire_queries.proofs.ColumnLemmas.{part_next, puts_next, puts_part}
use Rattle.mysql_wire_queries.proofs.column_definition.put_kind.Goals as goal

pub returns : goal.returns
returns g c =
    puts_next c.put-4.result c.args.buf.now.items c.put.new.buf.items c.put-4.new.buf.items _ _ c.in_ok-put.ensures
    (puts_next c.put-4.result c.put.new.buf.items c.put-2.new.buf.items c.put-4.new.buf.items (le_bytes 2 c.args.column.now.flags.0) _ (rw c.to_le_bytes.ensures at c.in_ok-put-2.ensures)
    (puts_next c.put-4.result c.put-2.new.buf.items c.put-3.new.buf.items c.put-4.new.buf.items _ _ c.in_ok-put-3.ensures
    c.put-4.ensures))

pub returns-in_err-put : goal.returns-in_err-put
returns-in_err-put g c =
    puts_part c.from_residual.result c.args.buf.now.items c.put.new.buf.items _ c.from_residual.ensures.0 c.in_err-put.ensures

pub returns-in_err-put-2 : goal.returns-in_err-put-2
returns-in_err-put-2 g c =
    puts_part c.from_residual-in_err-put-2.result c.args.buf.now.items c.put-2.new.buf.items _ c.from_residual-in_err-put-2.ensures.0 (part_next c.args.buf.now.items c.put.new.buf.items c.put-2.new.buf.items _ c.in_ok-put.ensures c.in_err-put-2.ensures)

pub returns-in_err-put-3 : goal.returns-in_err-put-3
returns-in_err-put-3 g c =
    puts_part c.from_residual-in_err-put-3.result c.args.buf.now.items c.put-3.new.buf.items _ c.from_residual-in_err-put-3.ensures.0 (part_next c.args.buf.now.items c.put.new.buf.items c.put-3.new.buf.items _ c.in_ok-put.ensures (part_next c.put.new.buf.items c.put-2.new.buf.items c.put-3.new.buf.items _ c.in_ok-put-2.ensures c.in_err-put-3.ensures))

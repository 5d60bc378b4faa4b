use Rattle.mysql_wire_queries.proofs.ColumnLemmas.{part_next, puts_next, puts_part}
use Rattle.mysql_wire_queries.proofs.column_definition.put_definition.Goals as goal

pub returns : goal.returns
returns g c =
    puts_next c.put_kind.result c.args.buf.now.items c.put_names.new.buf.items c.put_kind.new.buf.items _ _ c.in_ok-put_names.ensures
    (puts_next c.put_kind.result c.put_names.new.buf.items c.put_metadata.new.buf.items c.put_kind.new.buf.items _ _ c.in_ok-put_metadata.ensures
    (puts_next c.put_kind.result c.put_metadata.new.buf.items c.put_sizes.new.buf.items c.put_kind.new.buf.items _ _ c.in_ok-put_sizes.ensures c.put_kind.ensures))

pub returns-in_err-put_names : goal.returns-in_err-put_names
returns-in_err-put_names g c =
    puts_part c.from_residual.result c.args.buf.now.items c.put_names.new.buf.items _ c.from_residual.ensures.0 c.in_err-put_names.ensures

pub returns-in_err-put_metadata : goal.returns-in_err-put_metadata
returns-in_err-put_metadata g c =
    puts_part c.from_residual-in_err-put_metadata.result c.args.buf.now.items c.put_metadata.new.buf.items _ c.from_residual-in_err-put_metadata.ensures.0
    (part_next c.args.buf.now.items c.put_names.new.buf.items c.put_metadata.new.buf.items _ c.in_ok-put_names.ensures c.in_err-put_metadata.ensures)

pub returns-in_err-put_sizes : goal.returns-in_err-put_sizes
returns-in_err-put_sizes g c =
    puts_part c.from_residual-in_err-put_sizes.result c.args.buf.now.items c.put_sizes.new.buf.items _ c.from_residual-in_err-put_sizes.ensures.0
    (part_next c.args.buf.now.items c.put_names.new.buf.items c.put_sizes.new.buf.items _ c.in_ok-put_names.ensures
    (part_next c.put_names.new.buf.items c.put_metadata.new.buf.items c.put_sizes.new.buf.items _ c.in_ok-put_metadata.ensures c.in_err-put_sizes.ensures))

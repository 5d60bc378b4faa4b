use Rattle.mysql_wire_dump_lines.proofs.ValueLemmas.{Values}
use Rattle.mysql_wire_dump_lines.proofs.show.values.binary_values.Given as goal

abbrev pub invariant-columns : goal.invariant-columns
invariant-columns g l =
    Values l.row.nulls.0.now l.types l.place l.row.values.now l.rest.0.now l.fn.fields
    l.fields

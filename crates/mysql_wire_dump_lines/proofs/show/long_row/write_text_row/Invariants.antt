use Rattle.mysql_wire_dump_lines.proofs.ValueLemmas.{Writing}
use Rattle.mysql_wire_dump_lines.proofs.show.long_row.write_text_row.Given as goal

abbrev pub invariant-values : goal.invariant-values
invariant-values g l = Writing l.place l.payload l.rest.0.now l.fn.fields l.fields (g.W.Write.contents l.fn.output) (g.W.Write.contents l.output)

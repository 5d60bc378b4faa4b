use Rattle.std.proofs.Common.{◌≡◌}
use Rattle.wire_text.specs.Fields.{member_form}
use Rattle.mysql_wire_dump_lines.specs.RowEnds.{IsBehind}
use Rattle.mysql_wire_dump_lines.specs.ValueFields.{TextsSoFar}
use Rattle.mysql_wire_dump_lines.proofs.show.values.put_texts_in.Given as goal

abbrev pub invariant-values : goal.invariant-values
invariant-values g l =
    TextsSoFar l.place l.payload l.rest.0.now l.fn.fields l.fields × IsBehind l.payload l.rest.0.now
    × (l.form ≡ member_form l.fields.form)

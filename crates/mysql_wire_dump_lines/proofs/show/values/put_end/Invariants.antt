use Rattle.std.proofs.Common.{◌≡◌}
use Rattle.wire_text.specs.Fields.{Written, member_form}
use Rattle.mysql_wire_dump_lines.specs.RowEnds.{IsEndOf}
use Rattle.mysql_wire_dump_lines.specs.ValueFields.{TextsSoFar}
use Rattle.mysql_wire_dump_lines.proofs.show.values.put_end.Given as goal

abbrev pub invariant-values : goal.invariant-values
invariant-values g l =
    ((begun : Written) → TextsSoFar l.fn.places.0 l.payload l.left begun l.fn.fields
    → TextsSoFar l.place l.payload l.rest.0.now begun l.fields)
    × IsEndOf l.end l.rest.0.now × (l.form ≡ member_form l.fields.form)

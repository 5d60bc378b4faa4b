use Rattle.std.proofs.Common.{ap, ap₂, string_bytes, ◌∙◌}
use Rattle.wire_text.specs.Fields.{nothing_after}
use Rattle.mysql_wire_dump_lines.proofs.LineLemmas.{fields_pushed}
use Rattle.mysql_wire_dump_lines.proofs.dump.SessionLines.push_fields.Goals as goal

pub returns-clause-shows : goal.returns-clause-shows
returns-clause-shows g c called =
    fields_pushed c.args.came.0 c.args.came.1 c.args.payload.now c.args.self.now _ c.after-fields.result c.show_fields-shown.new.fields c.show_fields-shown.result
    (c.after-fields.ensures ∙ ap₂ nothing_after c.field_form.ensures (ap string_bytes c.replace-text.ensures.value)) (c.show_fields-shown.ensures called) c.into_text.ensures

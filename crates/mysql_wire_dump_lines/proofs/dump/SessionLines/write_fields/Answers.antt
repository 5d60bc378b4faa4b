use Rattle.std.proofs.Common.{ap, ap₂, string_bytes, sym, ◌∙◌}
use Rattle.wire_text.specs.Fields.{nothing_after}
use Rattle.mysql_wire_dump_lines.proofs.LineLemmas.{fields_written}
use Rattle.mysql_wire_dump_lines.proofs.dump.SessionLines.write_fields.Goals as goal

pub returns-clause-writes : goal.returns-clause-writes
returns-clause-writes g c =
    fields_written c.args.side c.args.id c.args.payload.now c.args.self.now _ c.after-fields.result c.write_fields-shown.new.fields
    (g.W.Write.contents c.args.output.now) (g.W.Write.contents c.write_fields-shown.new.output) c.write_fields-shown.result
    (c.after-fields.ensures ∙ ap₂ nothing_after c.field_form-form.ensures (ap string_bytes c.replace-text.ensures.value)) (c.write_fields-shown.ensures (sym c.requires)) c.into_text.ensures

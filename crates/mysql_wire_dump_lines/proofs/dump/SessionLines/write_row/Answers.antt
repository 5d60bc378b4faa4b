use Rattle.std.proofs.Common.{ap, refl, string_bytes, sym, List, ℕ, ◌++◌, ◌≡◌, ◌∙◌}
use Rattle.mysql_wire_dump_lines.specs.Dumped.{field_form}
use Rattle.mysql_wire_dump_lines.specs.Lines.{packet_head}
use Rattle.mysql_wire_dump_lines.specs.declared.lines.Seen.{Seen}
use Rattle.mysql_wire_session.specs.State.{state_of}
use Rattle.mysql_wire_session.specs.declared.packet_kind.PacketKind.{PacketKind}
use Rattle.mysql_wire_session.specs.declared.packet_kind.PacketKind.TheVariants.{Row}
use Rattle.mysql_wire_dump_lines.proofs.LineLemmas.{line_written, named_so}
use Rattle.mysql_wire_dump_lines.proofs.dump.SessionLines.write_row.Goals as goal

pub returns : goal.returns
returns g c =
    let old = c.args.self.now in
    let writes = c.in_ok-kind.ensures.writes in
    let seen : PacketKind → Seen = λ kind. record { side = c.args.side; id = c.args.id; len = c.args.len; kind = kind } in
    let head : List ℕ = packet_head old.options.form (seen Row) c.args.payload.now in
    let same : c.in_ok-kind.kind ≡ Row =
    named_so (field_form old.options) c.args.side c.args.id c.args.payload.now (state_of old.session) (state_of c.write_fields.new.self.session) writes.fields c.in_ok-kind.kind
    (sym c.is_refused.ensures ∙ c.if-is_refused.false) writes.names ∙ c.requires in
    record {
      kind = c.in_ok-kind.kind;
      fields = writes.fields;
      names = writes.names;
      written = writes.written;
      appended = writes.appended;
      line = line_written old.options.form (seen Row) (seen c.in_ok-kind.kind) c.args.payload.now (string_bytes old.text) head writes.fields writes.written
          (string_bytes c.write_fields.new.self.text) (string_bytes c.push_end.new.text) refl
          (writes.text ∙ ap (λ (z : List ℕ). z ++ writes.fields) c.in_ok-push_head.ensures) c.in_ok-push_end.ensures (ap seen (sym same));
      options_are = c.in_ok-kind.ensures.options;
    }

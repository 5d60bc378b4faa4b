use Rattle.std.proofs.Common.{ap, append_assoc, arith, length, refl, string_bytes, subst, sym, List, ℕ, ◌++◌, ◌≡◌, ◌∙◌, IsUtf8}
use Rattle.std.proofs.lemmas.List.{length-append}
use Rattle.std.proofs.lemmas.Str.{IsUtf8-string_bytes}
use Rattle.mysql_wire_dump_lines.specs.Dumped.{field_form}
use Rattle.mysql_wire_dump_lines.specs.Lines.{packet_head}
use Rattle.mysql_wire_dump_lines.specs.declared.lines.Seen.{Seen}
use Rattle.mysql_wire_session.specs.State.{state_of}
use Rattle.mysql_wire_session.specs.declared.packet_kind.PacketKind.{PacketKind}
use Rattle.mysql_wire_dump_lines.proofs.LineLemmas.{first_part, line_again, line_of_parts, named_so, part_within}
use Rattle.mysql_wire_dump_lines.proofs.dump.SessionLines.push_read.Goals as goal

pub push_again-requires-clause-begun : goal.push_again-requires-clause-begun
push_again-requires-clause-begun g c =
    let pushes = c.in_ok-kind.ensures.shows c.classify-kind.ensures in
    let before : List ℕ = string_bytes c.args.self.now.text in
    let head : List ℕ = packet_head c.args.self.now.options.form (record { side = c.args.side; id = c.args.id; len = c.args.len; kind = c.classify-kind.result }) c.args.payload.now in
    let long : c.len-begun.result ≡ length before = omega (arith, c.len-begun.ensures) in
    subst IsUtf8
    (sym (first_part c.len-begun.result (string_bytes c.push_fields.new.self.text) before (head ++ pushes.fields) long
    (pushes.text ∙ ap (λ (z : List ℕ). z ++ pushes.fields) c.in_ok-push_head.ensures ∙ append_assoc before head pushes.fields))) (IsUtf8-string_bytes c.args.self.now.text)

pub push_again-requires-clause-head : goal.push_again-requires-clause-head
push_again-requires-clause-head g c =
    let pushes = c.in_ok-kind.ensures.shows c.classify-kind.ensures in
    let long : c.len-head.result ≡ length (string_bytes c.push_head.new.text) = omega (arith, c.len-head.ensures) in
    subst IsUtf8 (sym (first_part c.len-head.result (string_bytes c.push_fields.new.self.text) (string_bytes c.push_head.new.text) pushes.fields long pushes.text))
    (IsUtf8-string_bytes c.push_head.new.text)

pub push_again-requires-clause-order : goal.push_again-requires-clause-order
push_again-requires-clause-order g c =
    let before : List ℕ = string_bytes c.args.self.now.text in
    let head : List ℕ = packet_head c.args.self.now.options.form (record { side = c.args.side; id = c.args.id; len = c.args.len; kind = c.classify-kind.result }) c.args.payload.now in
    omega (arith, c.len-begun.ensures, c.len-head.ensures, ap length c.in_ok-push_head.ensures, length-append before head)

pub push_again-requires-clause-within : goal.push_again-requires-clause-within
push_again-requires-clause-within g c =
    let pushes = c.in_ok-kind.ensures.shows c.classify-kind.ensures in
    let long : c.len-head.result ≡ length (string_bytes c.push_head.new.text) = omega (arith, c.len-head.ensures) in
    part_within c.len-head.result (string_bytes c.push_fields.new.self.text) (string_bytes c.push_head.new.text) pushes.fields long pushes.text

pub returns-in_ok-push_again : goal.returns-in_ok-push_again
returns-in_ok-push_again g c =
    let old = c.args.self.now in
    let pushes = c.in_ok-kind.ensures.shows c.classify-kind.ensures in
    let seen : PacketKind → Seen = λ kind. record { side = c.args.side; id = c.args.id; len = c.args.len; kind = kind } in
    let head : List ℕ = packet_head old.options.form (seen c.classify-kind.result) c.args.payload.now in
    let begun_is : c.len-begun.result ≡ length (string_bytes old.text) = omega (arith, c.len-begun.ensures) in
    let head_is : c.len-head.result ≡ length (string_bytes c.push_head.new.text) = omega (arith, c.len-head.ensures) in
    record {
      kind = c.in_ok-kind.kind;
      fields = pushes.fields;
      names = pushes.names;
      line = line_again c.len-begun.result c.len-head.result old.options.form (seen c.in_ok-kind.kind) c.args.payload.now (string_bytes old.text) head pushes.fields
          (string_bytes c.push_fields.new.self.text) (string_bytes c.push_again.new.text) begun_is (head_is ∙ ap length c.in_ok-push_head.ensures)
          (pushes.text ∙ ap (λ (z : List ℕ). z ++ pushes.fields) c.in_ok-push_head.ensures) c.in_ok-push_again.ensures;
      options_are = c.in_ok-kind.ensures.options;
    }

pub returns-in_ok-push_end : goal.returns-in_ok-push_end
returns-in_ok-push_end g c =
    let old = c.args.self.now in
    let pushes = c.in_ok-kind.ensures.shows c.classify-kind.ensures in
    let seen : PacketKind → Seen = λ kind. record { side = c.args.side; id = c.args.id; len = c.args.len; kind = kind } in
    let head : List ℕ = packet_head old.options.form (seen c.classify-kind.result) c.args.payload.now in
    let same : c.in_ok-kind.kind ≡ c.classify-kind.result =
    named_so (field_form old.options) c.args.side c.args.id c.args.payload.now (state_of old.session) (state_of c.push_fields.new.self.session) pushes.fields c.in_ok-kind.kind
    (sym c.is_refused.ensures ∙ c.if-is_refused.false) pushes.names ∙ sym c.classify-kind.ensures in
    record {
      kind = c.in_ok-kind.kind;
      fields = pushes.fields;
      names = pushes.names;
      line = line_of_parts old.options.form (seen c.classify-kind.result) (seen c.in_ok-kind.kind) c.args.payload.now (string_bytes old.text) head pushes.fields
          (string_bytes c.push_fields.new.self.text) (string_bytes c.push_end.new.text) refl
          (pushes.text ∙ ap (λ (z : List ℕ). z ++ pushes.fields) c.in_ok-push_head.ensures) c.in_ok-push_end.ensures (ap seen (sym same));
      options_are = c.in_ok-kind.ensures.options;
    }

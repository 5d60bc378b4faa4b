use Rattle.std.proofs.Common.{◌≡◌, ◌∙◌, ap, arith, length, string_bytes, sym}
use Rattle.wire_text.proofs.PartLemmas.{none_written, written_if}
use Rattle.wire_text.specs.Fields.{Written}
use Rattle.wire_text.proofs.fields.Fields.write_text_at.Goals as goal

pub returns-in_default : goal.returns-in_default
returns-in_default g c =
    none_written c.self.inside.form _ c.args.self.now _ (ap (λ (w : Written). w.form) (sym c.self.view_is)) (sym c.members.ensures ∙ c.in_default.is)

pub returns : goal.returns
returns g c =
    let fields = c.self.inside in
    let long : c.len.result ≡ length (string_bytes fields.text) = omega (arith, c.len.ensures) in
    written_if c.write_text_at-written.result fields.form c.in-Some.form fields.begin c.len.result (string_bytes fields.text) (string_bytes c.write_text_at-written.new.text) _ c.args.self.now _ _
    (sym c.self.view_is) (sym c.members.ensures ∙ c.in-Some.is) c.self.invariant.0 long c.write_text_at-written.ensures

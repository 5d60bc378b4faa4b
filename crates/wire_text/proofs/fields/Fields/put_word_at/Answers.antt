use Rattle.std.proofs.Common.{◌≡◌, ◌∙◌, ap, arith, length, string_bytes, sym}
use Rattle.wire_text.proofs.FieldLemmas.{none_before, put_hidden, put_pushed, stays_before}
use Rattle.wire_text.specs.Fields.{Written}
use Rattle.wire_text.proofs.fields.Fields.put_word_at.Goals as goal

pub returns-in_default : goal.returns-in_default
returns-in_default g c =
    put_hidden c.self.inside.form c.args.self.now _ (ap (λ (w : Written). w.form) (sym c.self.view_is)) (sym c.members.ensures ∙ c.in_default.is)

pub returns-else-is_err : goal.returns-else-is_err
returns-else-is_err g c =
    let fields = c.self.inside in
    let long : c.len.result ≡ length (string_bytes fields.text) = omega (arith, c.len.ensures) in
    put_pushed c.push_word_at-pushed.result fields.form c.in-Some.form fields.begin c.len.result (string_bytes fields.text) (string_bytes c.push_word_at-pushed.new.text) c.args.self.now _
    (sym c.self.view_is) (sym c.members.ensures ∙ c.in-Some.is) c.self.invariant.0 long c.push_word_at-pushed.ensures

pub invariant_of-self-else-is_err : goal.invariant_of-self-else-is_err
invariant_of-self-else-is_err g c =
    stays_before c.push_word_at-pushed.result c.self.inside.begin (string_bytes c.self.inside.text) (string_bytes c.push_word_at-pushed.new.text) _ c.if-is_err.ensures.value c.push_word_at-pushed.ensures c.self.invariant

pub invariant_of-self : goal.invariant_of-self
invariant_of-self g c = none_before (string_bytes c.push_word_at-pushed.new.text)

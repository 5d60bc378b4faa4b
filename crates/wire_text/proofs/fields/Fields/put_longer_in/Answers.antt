use Rattle.std.proofs.Common.{◌≡◌, ◌∙◌, ap, arith, length, string_bytes, sym, take}
use Rattle.std.specs.Result.{is_err}
use Rattle.std.specs.Fmt.{decimal}
use Rattle.wire_text.proofs.FieldLemmas.{put_pushed, stays_before}
use Rattle.wire_text.specs.Fields.{Words, Written, member_form}
use Rattle.wire_text.proofs.fields.Fields.put_longer_in.Goals as goal

pub returns-in-Ok-clause-put : goal.returns-in-Ok-clause-put
returns-in-Ok-clause-put g c is =
    let fields = c.self.inside in
    let long : c.len.result ≡ length (string_bytes fields.text) = omega (arith, c.len.ensures) in
    let put = put_pushed c.push_text_at.result fields.form c.args.form fields.begin c.len.result (string_bytes fields.text) (string_bytes c.push_text_at.new.text) c.args.self.now
    (decimal c.args.place, Words (take c.args.len c.args.bytes.now)) (sym c.self.view_is) (ap (λ (fields : Written). member_form fields.form) c.self.view_is ∙ c.requires) c.self.invariant.0 long c.push_text_at.ensures in
    rw c.in-Ok.is at put

pub invariant_of-self : goal.invariant_of-self
invariant_of-self g c =
    stays_before c.push_text_at.result c.self.inside.begin (string_bytes c.self.inside.text) (string_bytes c.push_text_at.new.text) _ (sym (ap (λ r. is_err r) c.in-Ok.is)) c.push_text_at.ensures c.self.invariant

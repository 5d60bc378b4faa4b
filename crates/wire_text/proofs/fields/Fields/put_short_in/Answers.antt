use Rattle.std.proofs.Common.{◌≡◌, ◌∙◌, ap, arith, inr, leb, length, refl, string_bytes, sym, take, Ok, false, inl}
use Rattle.std.specs.Result.{is_err}
use Rattle.std.proofs.lemmas.Bool.{leb-false}
use Rattle.std.specs.Fmt.{decimal}
use Rattle.wire_text.proofs.FieldLemmas.{put_hidden, put_pushed, same_answer, stays_before, shown_hidden, true_is_false, false_is_true, refused_is, less_in}
use Rattle.wire_text.specs.Fields.{Words, Written, member_form}
use Rattle.wire_text.proofs.fields.Fields.put_short_in.Goals as goal

pub returns-in_default-clause-put : goal.returns-in_default-clause-put
returns-in_default-clause-put g c is =
    put_hidden c.args.self.now.form c.args.self.now _ refl (sym c.requires ∙ c.in_default.is)

pub returns-in_default-clause-not : goal.returns-in_default-clause-not
returns-in_default-clause-not g c is =
    let above : leb c.args.len (length c.args.bytes.now) ≡ false = same_answer (Ok (leb c.args.len (length c.args.bytes.now))) _ _ refl is in
    (refl, inr (leb-false c.args.len (length c.args.bytes.now) above))

pub returns-in-Ok-clause-put : goal.returns-in-Ok-clause-put
returns-in-Ok-clause-put g c is =
    let fields = c.self.inside in
    let long : c.len.result ≡ length (string_bytes fields.text) = omega (arith, c.len.ensures) in
    let put = put_pushed c.push_front_at.result fields.form c.in-Some.form fields.begin c.len.result (string_bytes fields.text) (string_bytes c.push_front_at.new.text) c.args.self.now
    (decimal c.args.place, Words (take c.args.len c.args.bytes.now)) (sym c.self.view_is) (ap (λ (w : Written). member_form w.form) c.self.view_is ∙ sym c.requires ∙ c.in-Some.is) c.self.invariant.0 long c.push_front_at.ensures in
    rw c.in-Ok.is at put

pub invariant_of-self : goal.invariant_of-self
invariant_of-self g c =
    stays_before c.push_front_at.result c.self.inside.begin (string_bytes c.self.inside.text) (string_bytes c.push_front_at.new.text) _ (sym (ap (λ r. is_err r) c.in-Ok.is)) c.push_front_at.ensures c.self.invariant

pub returns-in-Err-clause-within : goal.returns-in-Err-clause-within
returns-in-Err-clause-within g c is = absurd (refused_is _ _ is)

pub returns-in-Err-clause-put : goal.returns-in-Err-clause-put
returns-in-Err-clause-put g c is = absurd (refused_is _ _ is)

pub returns-in-Err-clause-not : goal.returns-in-Err-clause-not
returns-in-Err-clause-not g c is = absurd (refused_is _ _ is)

pub returns-in-Err-clause-hidden : goal.returns-in-Err-clause-hidden
returns-in-Err-clause-hidden g c hidden =
    absurd (shown_hidden c.args.self.now.form c.args.form c.in-Some.form c.requires c.in-Some.is hidden)

pub returns-in-Ok-clause-hidden : goal.returns-in-Ok-clause-hidden
returns-in-Ok-clause-hidden g c = λ hidden within. refl

pub returns-in-Ok-clause-not : goal.returns-in-Ok-clause-not
returns-in-Ok-clause-not g c is = absurd (true_is_false is)

pub returns-in-Ok-clause-within : goal.returns-in-Ok-clause-within
returns-in-Ok-clause-within g c =
    λ is. less_in c.args.len 32 (length c.args.bytes.now) c.if-len-gt32.false c.if-bytes-lt32.false

pub returns-then-bytes-lt32-clause-within : goal.returns-then-bytes-lt32-clause-within
returns-then-bytes-lt32-clause-within g c is = absurd (false_is_true is)

pub returns-then-bytes-lt32-clause-put : goal.returns-then-bytes-lt32-clause-put
returns-then-bytes-lt32-clause-put g c is = absurd (false_is_true is)

pub returns-then-bytes-lt32-clause-not : goal.returns-then-bytes-lt32-clause-not
returns-then-bytes-lt32-clause-not g c = λ is. (refl, inl c.if-bytes-lt32.true)

pub returns-then-bytes-lt32-clause-hidden : goal.returns-then-bytes-lt32-clause-hidden
returns-then-bytes-lt32-clause-hidden g c hidden =
    absurd (shown_hidden c.args.self.now.form c.args.form c.in-Some.form c.requires c.in-Some.is hidden)

pub returns-then-len-gt32-clause-hidden : goal.returns-then-len-gt32-clause-hidden
returns-then-len-gt32-clause-hidden g c hidden =
    absurd (shown_hidden c.args.self.now.form c.args.form c.in-Some.form c.requires c.in-Some.is hidden)

pub returns-then-len-gt32-clause-within : goal.returns-then-len-gt32-clause-within
returns-then-len-gt32-clause-within g c = c.put_longer_in.ensures.within

pub returns-then-len-gt32-clause-put : goal.returns-then-len-gt32-clause-put
returns-then-len-gt32-clause-put g c = c.put_longer_in.ensures.put

pub returns-then-len-gt32-clause-not : goal.returns-then-len-gt32-clause-not
returns-then-len-gt32-clause-not g c is = let not = c.put_longer_in.ensures.not is in (not.0, inr not.1)

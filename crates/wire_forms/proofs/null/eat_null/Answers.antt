use Rattle.std.proofs.Common.{◌≡◌, ◌∷◌, ◌++◌, take, drop, refl, sym, ap, subst, ◌∙◌}
use Rattle.wire_forms.specs.NullTexts.{HasNoZero}
use Rattle.wire_forms.specs.NullTextLemmas.{found_at, found_none}
use Rattle.wire_forms.proofs.null.eat_null.Goals as goal

pub returns-in-Some : goal.returns-in-Some
returns-in-Some c =
    let old = c.args.buf.now.0.now in
    let end = c.in-Some.end in
    let (_, clean, parts, _) = found_at old end c.in-Some.ensures in
    let text : take end old ≡ c.eat-text.result.now = sym c.eat-text.ensures.eaten in
    let left : drop 1 (drop end old) ≡ c.skip.new.self.0.now =
    ap (drop 1) (sym c.eat-text.ensures.rest) ∙ sym c.skip.ensures in (
      parts ∙ ap (λ t. t ++ 0 ∷ drop 1 (drop end old)) text
          ∙ ap (λ r. c.eat-text.result.now ++ 0 ∷ r) left,
      subst HasNoZero text clean,
    )

pub returns-in-None : goal.returns-in-None
returns-in-None c = ((found_none c.args.buf.now.0.now c.in-None.ensures).0, refl)

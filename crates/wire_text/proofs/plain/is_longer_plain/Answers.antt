use Rattle.std.proofs.Common.{ap₂, length, refl, sym, take, Bool, ◌-◌, ◌∙◌, ◌≤◌}
use Rattle.std.specs.Prelude.{◌&&◌}
use Rattle.wire_text.proofs.PlainLemmas.{both_ends_plain, to_end}
use Rattle.wire_text.proofs.plain.is_longer_plain.Goals as goal

pub returns : goal.returns
returns c = λ are.
    let words = c.args.words.now in
    let least : 32 ≤ length words = c.if-len-lt32.false in
    let most : length words ≤ 64 = c.if-len-gt64.false in (
      least,
      most,
      both_ends_plain words (take 32 words) _ least most refl (to_end (length words - 32) words)
          (sym (ap₂ (λ (a b : Bool). a && b) c.are_both_plain.ensures c.are_both_plain-2.ensures) ∙ are),
    )

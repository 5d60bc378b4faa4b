use Rattle.std.proofs.Common.{ap, arith, length, sym, ◌-◌, ◌∙◌}
use Rattle.std.proofs.lemmas.Bool.{and_parts}
use Rattle.wire_text.specs.Fields.{all_ascii, in_ascii}
use Rattle.wire_text.proofs.PlainLemmas.{to_end}
use Rattle.wire_text.proofs.StandLemmas.{both_ends}
use Rattle.wire_text.proofs.escapes.is_longer_ascii.Goals as goal

pub returns : goal.returns
returns c = λ are.
    let words = c.args.words.now in
    let k = length words - 32 in
    let parts = and_parts _ _ are in (
      c.if-len-lt32.false,
      c.if-len-gt64.false,
      both_ends in_ascii k words (omega (arith, c.if-len-gt64.false)) (sym c.are_both_ascii.ensures ∙ parts.0)
          (ap all_ascii (sym (to_end k words)) ∙ sym c.are_both_ascii-2.ensures ∙ parts.1),
    )

use Rattle.std.proofs.lemmas.Bool.{eqb-true}
use Rattle.wire_text.proofs.WideLemmas.{wide_within}
use Rattle.wire_text.proofs.wide.is_wide_in_front.Goals as goal

pub returns-then-leads-within : goal.returns-then-leads-within
returns-then-leads-within c = λ on.
    wide_within c.args.block.now c.args.len _ _ c.requires.long c.requires.within c.if-len-ne0.false c.bits_of_both-leads.ensures.0 c.bits_of_both-leads.ensures.1
    c.if-leads-within.true (eqb-true _ _ on)

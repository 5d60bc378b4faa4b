use Rattle.std.proofs.Common.{sym, ◌∙◌}
use Rattle.std.proofs.lemmas.Bool.{eqb-true}
use Rattle.wire_text.proofs.WideLemmas.{wide_end}
use Rattle.wire_text.proofs.wide.is_wide_end.Goals as goal

pub returns-then-lead_bits-eq9362 : goal.returns-then-lead_bits-eq9362
returns-then-lead_bits-eq9362 c = λ goes.
    wide_end c.args.block.now c.requires (sym c.lead_bits.ensures ∙ c.if-lead_bits-eq9362.true) (sym c.going_bits.ensures ∙ eqb-true _ _ goes)

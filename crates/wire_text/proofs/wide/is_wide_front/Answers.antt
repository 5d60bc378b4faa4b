use Rattle.std.proofs.Common.{sym, ◌∙◌}
use Rattle.std.proofs.lemmas.Bool.{eqb-true}
use Rattle.wire_text.proofs.WideLemmas.{wide_front}
use Rattle.wire_text.proofs.wide.is_wide_front.Goals as goal

pub returns-then-lead_bits-eq37449 : goal.returns-then-lead_bits-eq37449
returns-then-lead_bits-eq37449 c = λ goes.
    wide_front c.args.block.now c.requires (sym c.lead_bits.ensures ∙ c.if-lead_bits-eq37449.true) (sym c.going_bits.ensures ∙ eqb-true _ _ goes)

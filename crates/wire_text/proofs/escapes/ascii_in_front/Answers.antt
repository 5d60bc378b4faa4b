use Rattle.std.proofs.Common.{◌∙◌, ◌+◌, ap, arith, ℕ}
use Rattle.wire_text.specs.Fields.{in_ascii}
use Rattle.wire_text.proofs.PlainLemmas.{run_in_first, run_past_first}
use Rattle.wire_text.proofs.escapes.ascii_in_front.Goals as goal

pub returns-then-front-lt16 : goal.returns-then-front-lt16
returns-then-front-lt16 c =
    c.ascii_in_block-front.ensures.run ∙ run_in_first in_ascii c.args.block.now (omega (arith, c.requires)) (omega (arith, c.if-front-lt16.true, c.ascii_in_block-front.ensures.run))

pub returns-else-front-lt16 : goal.returns-else-front-lt16
returns-else-front-lt16 c =
    ap (λ (n : ℕ). 16 + n) c.ascii_in_block-after.ensures.run
    ∙ run_past_first in_ascii c.args.block.now (omega (arith, c.requires)) (omega (arith, c.if-front-lt16.false, c.ascii_in_block-front.ensures.run))

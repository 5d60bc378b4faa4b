use Rattle.wire_text.proofs.DigitLemmas.{halves}
use Rattle.wire_text.proofs.digits.digits_of_32.Goals as goal

pub returns : goal.returns
returns c =
    halves 16 c.args.bytes.now c.split_at.result.0.now c.split_at.result.1.now c.digits_of.result c.digits_of-2.result _ c.split_at.ensures.front c.split_at.ensures.back
    c.digits_of.ensures c.digits_of-2.ensures c.fill.ensures

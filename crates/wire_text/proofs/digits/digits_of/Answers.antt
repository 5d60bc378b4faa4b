use Rattle.wire_text.proofs.DigitLemmas.{block_by_turns}
use Rattle.wire_text.proofs.digits.digits_of.Goals as goal

pub returns : goal.returns
returns c = block_by_turns c.args.bytes.now c.high_digits.result c.low_digits.result c.requires c.high_digits.ensures c.low_digits.ensures

use Rattle.wire_text.proofs.BackslashLemmas.{last_eight_are}
use Rattle.wire_text.proofs.backslashes.last_eight.Goals as goal

pub returns : goal.returns
returns c = last_eight_are c.args.letters c.fits-letters.0

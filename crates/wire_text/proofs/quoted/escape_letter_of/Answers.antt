use Rattle.wire_text.proofs.EscapeLemmas.{letter_is}
use Rattle.wire_text.proofs.quoted.escape_letter_of.Goals as goal

pub returns : goal.returns
returns c = letter_is c.args.byte c.ranges.byte.fits

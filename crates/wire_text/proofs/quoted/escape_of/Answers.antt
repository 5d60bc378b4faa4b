use Rattle.std.proofs.Common.{arith, refl}
use Rattle.wire_text.proofs.EscapeLemmas.{hex_letter, no_letter, short_letter}
use Rattle.wire_text.proofs.quoted.escape_of.Goals as goal

pub returns-then-letter-eq0 : goal.returns-then-letter-eq0
returns-then-letter-eq0 c = (refl, omega arith, no_letter c.args.byte c.escape_letter_of-letter.result c.ranges.byte.fits c.escape_letter_of-letter.ensures c.if-letter-eq0.true)

pub returns-then-letter-ne117 : goal.returns-then-letter-ne117
returns-then-letter-ne117 c = (refl, omega arith, short_letter c.args.byte c.escape_letter_of-letter.result c.ranges.byte.fits c.escape_letter_of-letter.ensures c.if-letter-eq0.false c.if-letter-ne117.true)

pub returns : goal.returns
returns c = (refl, omega arith, hex_letter c.args.byte c.escape_letter_of-letter.result c.ranges.byte.fits c.escape_letter_of-letter.ensures c.if-letter-ne117.false)

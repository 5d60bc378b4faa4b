use Rattle.std.proofs.Common.{arith}
use Rattle.wire_text.proofs.FieldLemmas.{three_digits}
use Rattle.mysql_wire_dump_lines.proofs.DigitLemmas.{one_digit, tens_of}
use Rattle.mysql_wire_dump_lines.proofs.lines.push_row_of_hundreds.Goals as goal

pub returns-then-id-lt10 : goal.returns-then-id-lt10
returns-then-id-lt10 g c =
    rw (one_digit c.args.id (omega (arith, c.if-id-lt10.true)), three_digits c.args.len c.requires.0 c.requires.1) c.push_letters.ensures

pub returns-then-id-lt100 : goal.returns-then-id-lt100
returns-then-id-lt100 g c =
    rw (tens_of c.args.id (omega (arith, c.if-id-lt10.false)) (omega (arith, c.if-id-lt100.true)), three_digits c.args.len c.requires.0 c.requires.1)
    c.push_letters-then-id-lt100.ensures

pub returns : goal.returns
returns g c =
    rw (three_digits c.args.id (omega (arith, c.if-id-lt100.false)) (omega (arith, c.ranges.id.fits)), three_digits c.args.len c.requires.0 c.requires.1)
    c.push_letters-2.ensures

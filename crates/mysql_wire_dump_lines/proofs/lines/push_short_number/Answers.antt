use Rattle.std.proofs.Common.{arith}
use Rattle.wire_text.proofs.FieldLemmas.{three_digits, two_digits}
use Rattle.mysql_wire_dump_lines.proofs.lines.push_short_number.Goals as goal

pub returns-then-number-lt100 : goal.returns-then-number-lt100
returns-then-number-lt100 g c =
    rw (two_digits c.args.number (omega (arith, c.if-number-lt10.false)) (omega (arith, c.if-number-lt100.true)))
    c.push_letters.ensures

pub returns : goal.returns
returns g c =
    rw (three_digits c.args.number (omega (arith, c.if-number-lt100.false)) (omega (arith, c.if-number-ge1000.false)))
    c.push_letters-2.ensures

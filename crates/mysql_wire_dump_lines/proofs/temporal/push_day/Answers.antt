use Rattle.std.proofs.Common.{arith}
use Rattle.mysql_wire_dump_lines.proofs.TemporalLemmas.{zeros_four, zeros_two}
use Rattle.mysql_wire_dump_lines.proofs.temporal.push_day.Goals as goal

pub returns : goal.returns
returns g c =
    let day = c.args.day.now in
    rw (zeros_four day.year (omega (arith, c.if-year-ge10000.false)), zeros_two day.month (omega (arith, c.if-month-ge100.false)), zeros_two day.day (omega (arith, c.if-day-ge100.false)))
    c.push_letters.ensures

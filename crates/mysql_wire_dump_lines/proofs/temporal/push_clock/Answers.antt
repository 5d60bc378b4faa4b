use Rattle.std.proofs.Common.{arith}
use Rattle.mysql_wire_dump_lines.proofs.TemporalLemmas.{zeros_two}
use Rattle.mysql_wire_dump_lines.proofs.temporal.push_clock.Goals as goal

pub returns : goal.returns
returns g c =
    let clock = c.args.clock.now in
    rw (zeros_two c.args.hours (omega (arith, c.if-hours-ge100.false)), zeros_two clock.minute (omega (arith, c.if-minute-ge100.false)), zeros_two clock.second (omega (arith, c.if-second-ge100.false)))
    c.push_letters.ensures

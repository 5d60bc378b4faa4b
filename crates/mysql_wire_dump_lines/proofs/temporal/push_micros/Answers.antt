use Rattle.std.proofs.Common.{arith}
use Rattle.mysql_wire_dump_lines.proofs.TemporalLemmas.{zeros_six}
use Rattle.mysql_wire_dump_lines.proofs.temporal.push_micros.Goals as goal

pub returns : goal.returns
returns g c = rw (zeros_six c.args.micros (omega (arith, c.if-micros-ge1000000.false))) c.push_letters.ensures

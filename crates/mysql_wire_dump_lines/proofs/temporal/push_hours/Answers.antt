use Rattle.mysql_wire_dump_lines.proofs.TemporalLemmas.{zeros_past_two}
use Rattle.mysql_wire_dump_lines.proofs.temporal.push_hours.Goals as goal

pub returns : goal.returns
returns g c = rw (zeros_past_two c.args.hours c.requires c.ranges.hours.fits) c.push_number.ensures

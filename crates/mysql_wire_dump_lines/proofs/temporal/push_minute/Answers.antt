use Rattle.mysql_wire_dump_lines.proofs.TemporalLemmas.{zeros_two}
use Rattle.mysql_wire_dump_lines.proofs.temporal.push_minute.Goals as goal

pub returns : goal.returns
returns g c =
    let clock = c.args.clock.now in
    rw (zeros_two clock.minute c.requires.0, zeros_two clock.second c.requires.1) c.push_letters.ensures

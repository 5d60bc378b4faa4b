use Rattle.std.proofs.Common.{string_bytes}
use Rattle.mysql_wire_dump_lines.proofs.TemporalLemmas.{pushed_three}
use Rattle.std.specs.Prelude.{codes}
use Rattle.mysql_wire_dump_lines.specs.TemporalTexts.{clock_text, day_text}
use Rattle.mysql_wire_dump_lines.proofs.temporal.push_moment.Goals as goal

pub returns : goal.returns
returns g c =
    pushed_three c.push_clock.result (string_bytes c.args.text.now) (string_bytes c.push_day.new.text) (string_bytes c.push_str.new.self) (string_bytes c.push_clock.new.text)
    (day_text c.args.day.now) (codes " ") (clock_text c.args.clock.now.hour c.args.clock.now) c.in_ok-push_day.ensures c.in_ok-push_str.ensures.bytes c.push_clock.ensures

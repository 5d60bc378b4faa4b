use Rattle.std.proofs.Common.{string_bytes}
use Rattle.mysql_wire_dump_lines.proofs.TemporalLemmas.{pushed, pushed_behind}
use Rattle.std.specs.Prelude.{codes}
use Rattle.mysql_wire_dump_lines.specs.TemporalTexts.{moment_text, zeros}
use Rattle.mysql_wire_dump_lines.proofs.temporal.DateWordPutWord.push.Goals as goal

pub returns-in-Zero : goal.returns-in-Zero
returns-in-Zero g c =
    rw c.in-Zero.is (pushed c.push_str.result (string_bytes c.args.text.now) (string_bytes c.push_str.new.self) (codes "0000-00-00 00:00:00") c.push_str.ensures.bytes)

pub returns-in-Date : goal.returns-in-Date
returns-in-Date g c = rw c.in-Date.is c.push_day.ensures

pub returns-in-Seconds : goal.returns-in-Seconds
returns-in-Seconds g c = rw c.in-Seconds.is c.push_moment.ensures

pub returns-in_ok-push_moment-in-Micros : goal.returns-in_ok-push_moment-in-Micros
returns-in_ok-push_moment-in-Micros g c =
    rw c.in-Micros.is (pushed_behind c.push_micros.result (string_bytes c.args.text.now) (string_bytes c.push_moment-in-Micros.new.text) (string_bytes c.push_micros.new.text)
    (moment_text c.in-Micros.day c.in-Micros.clock) (codes ".") (zeros 6 c.in-Micros.micros) c.in_ok-push_moment-in-Micros.ensures c.push_micros.ensures)

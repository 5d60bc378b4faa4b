use Rattle.std.proofs.Common.{string_bytes}
use Rattle.mysql_wire_dump_lines.proofs.TemporalLemmas.{pushed, pushed_behind}
use Rattle.std.specs.Prelude.{codes}
use Rattle.mysql_wire_dump_lines.specs.TemporalTexts.{span_text, zeros}
use Rattle.mysql_wire_dump_lines.proofs.temporal.TimeWordPutWord.push.Goals as goal

pub returns-in-Zero : goal.returns-in-Zero
returns-in-Zero g c =
    rw c.in-Zero.is (pushed c.push_str.result (string_bytes c.args.text.now) (string_bytes c.push_str.new.self) (codes "00:00:00") c.push_str.ensures.bytes)

pub returns-in-Seconds : goal.returns-in-Seconds
returns-in-Seconds g c = rw c.in-Seconds.is c.push_span.ensures

pub returns-in_ok-push_span-in-Micros : goal.returns-in_ok-push_span-in-Micros
returns-in_ok-push_span-in-Micros g c =
    rw c.in-Micros.is (pushed_behind c.push_micros.result (string_bytes c.args.text.now) (string_bytes c.push_span-in-Micros.new.text) (string_bytes c.push_micros.new.text)
    (span_text c.in-Micros.span) (codes ".") (zeros 6 c.in-Micros.micros) c.in_ok-push_span-in-Micros.ensures c.push_micros.ensures)

use Rattle.std.proofs.Common.{◌+◌, ◌*◌, ap, string_bytes}
use Rattle.mysql_wire_dump_lines.specs.TemporalTexts.{clock_text}
use Rattle.mysql_wire_dump_lines.proofs.TemporalLemmas.{pushed_signed, pushed_unsigned}
use Rattle.mysql_wire_dump_lines.proofs.temporal.push_span.Goals as goal
use Rattle.mysql_wire_dump_lines.proofs.temporal.push_span.Goals.{then-span-eq1+in_ok-push_str, else-span-eq1}

pub returns : goal.returns
returns g c =
    let span = c.args.span.now in
    let hours = clock_text (24 * span.days + span.clock.hour) span.clock in
    elim c.if-span-eq1.branch [
      | then-span-eq1+in_ok-push_str w ↦ pushed_signed c.push_clock.result span.sign (string_bytes c.args.text.now) (string_bytes w.push_str.new.self) (string_bytes c.if-span-eq1.text) (string_bytes c.push_clock.new.text) hours
          w.if-span-eq1.true w.in_ok-push_str.ensures.bytes (ap (λ z. string_bytes z) w.text-is) c.push_clock.ensures
      | else-span-eq1 w ↦ pushed_unsigned c.push_clock.result span.sign (string_bytes c.args.text.now) (string_bytes c.push_clock.new.text) hours
          w.if-span-eq1.false (rw w.text-is at c.push_clock.ensures)
    ]

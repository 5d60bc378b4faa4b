use Rattle.std.specs.Fmt.{decimal}
use Rattle.wire_text.proofs.PartLemmas.{nothing_written}
use Rattle.wire_text.specs.Fields.{Null, Words}
use Rattle.mysql_wire_dump_lines.proofs.show.long_row.write_value.Goals as goal

pub returns-in_ok-put_at-in-Text-2 : goal.returns-in_ok-put_at-in-Text-2
returns-in_ok-put_at-in-Text-2 g c =
    rw (c.in-Text-2.is) (nothing_written (decimal c.args.place, Words c.in-Text-2.text.now) c.args.fields.now c.put_at.new.self
    (g.W.Write.contents c.args.output.now) c.in_ok-put_at-in-Text-2.ensures)

pub returns-in_ok-put_at-in-Null : goal.returns-in_ok-put_at-in-Null
returns-in_ok-put_at-in-Null g c =
    rw (c.in-Null.is) (nothing_written (decimal c.args.place, Null) c.args.fields.now c.put_at-in-Null.new.self
    (g.W.Write.contents c.args.output.now) c.in_ok-put_at-in-Null.ensures)

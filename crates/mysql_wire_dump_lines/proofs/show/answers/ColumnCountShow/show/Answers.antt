use Rattle.std.proofs.lemmas.List.{append-nil}
use Rattle.std.proofs.Common.{refl}
use Rattle.mysql_wire_dump_lines.specs.AnswerFields.{column_count_fields}
use Rattle.mysql_wire_dump_lines.proofs.PacketLemmas.{puts_are}
use Rattle.mysql_wire_dump_lines.proofs.show.answers.ColumnCountShow.show.Goals as goal

pub returns : goal.returns
returns g c =
    puts_are c.put_all.result _ (column_count_fields c.args.self.now) c.args.fields.now c.put_all.new.self c.put_all.ensures (rw (c.number_if.ensures, c.number_if-2.ensures, append-nil) refl)

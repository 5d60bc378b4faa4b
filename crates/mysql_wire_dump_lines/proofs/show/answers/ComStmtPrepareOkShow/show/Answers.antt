use Rattle.std.proofs.Common.{refl}
use Rattle.mysql_wire_dump_lines.specs.AnswerFields.{prepared_fields}
use Rattle.mysql_wire_dump_lines.proofs.PacketLemmas.{puts_are}
use Rattle.mysql_wire_dump_lines.proofs.show.answers.ComStmtPrepareOkShow.show.Goals as goal

pub returns : goal.returns
returns g c =
    puts_are c.put_all.result _ (prepared_fields c.args.self.now) c.args.fields.now c.put_all.new.self c.put_all.ensures refl

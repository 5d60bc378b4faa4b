use Rattle.std.proofs.Common.{refl}
use Rattle.mysql_wire_dump_lines.specs.AnswerFields.{error_fields}
use Rattle.mysql_wire_dump_lines.proofs.PacketLemmas.{puts_are}
use Rattle.mysql_wire_dump_lines.proofs.show.answers.ErrPacketShow.show.Goals as goal

pub returns : goal.returns
returns g c =
    puts_are c.put_all.result _ (error_fields c.args.self.now) c.args.fields.now c.put_all.new.self c.put_all.ensures (rw (c.state_if.ensures, c.as_slice.ensures.value) refl)

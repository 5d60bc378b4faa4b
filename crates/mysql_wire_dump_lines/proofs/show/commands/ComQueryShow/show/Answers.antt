use Rattle.std.proofs.Common.{refl}
use Rattle.mysql_wire_session.specs.declared.client_command.ClientCommand.TheVariants.{Query}
use Rattle.mysql_wire_dump_lines.specs.CommandFields.{plain_fields}
use Rattle.mysql_wire_dump_lines.proofs.PacketLemmas.{puts_are}
use Rattle.mysql_wire_dump_lines.proofs.show.commands.ComQueryShow.show.Goals as goal

pub returns : goal.returns
returns g c =
    puts_are c.put.result _ (plain_fields (Query c.args.self.now)) c.args.fields.now c.put.new.self c.put.ensures (rw c.as_slice.ensures.value refl)

use Rattle.std.proofs.Common.{refl}
use Rattle.mysql_wire_session.specs.declared.client_command.ClientCommand.TheVariants.{AttributedQuery}
use Rattle.mysql_wire_dump_lines.specs.CommandFields.{plain_fields}
use Rattle.mysql_wire_dump_lines.proofs.PacketLemmas.{puts_are}
use Rattle.mysql_wire_dump_lines.proofs.show.commands.ComQueryWithAttributesShow.show.Goals as goal

pub returns : goal.returns
returns g c =
    puts_are c.put_all.result _ (plain_fields (AttributedQuery c.args.self.now)) c.args.fields.now c.put_all.new.self c.put_all.ensures (rw c.attributes_and_query.ensures refl)

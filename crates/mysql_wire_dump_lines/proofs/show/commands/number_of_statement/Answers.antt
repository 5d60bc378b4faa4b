use Rattle.std.proofs.Common.{refl}
use Rattle.mysql_wire_dump_lines.specs.CommandFields.{number_fields}
use Rattle.mysql_wire_dump_lines.proofs.PacketLemmas.{puts_are}
use Rattle.mysql_wire_dump_lines.proofs.show.commands.number_of_statement.Goals as goal

pub returns : goal.returns
returns g c =
    puts_are c.put.result _ (number_fields c.args.statement_id) c.args.fields.now c.put.new.self c.put.ensures refl

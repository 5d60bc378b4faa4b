use Rattle.std.proofs.Common.{refl}
use Rattle.mysql_wire_dump_lines.specs.CommandFields.{prepare_fields}
use Rattle.mysql_wire_dump_lines.proofs.PacketLemmas.{puts_are}
use Rattle.mysql_wire_dump_lines.proofs.show.commands.ComStmtPrepareShow.show.Goals as goal

pub returns : goal.returns
returns g c =
    puts_are c.put.result _ (prepare_fields c.args.self.now) c.args.fields.now c.put.new.self c.put.ensures refl

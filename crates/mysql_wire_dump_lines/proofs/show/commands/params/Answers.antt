use Rattle.std.proofs.Common.{refl}
use Rattle.mysql_wire_dump_lines.specs.CommandFields.{param_fields}
use Rattle.mysql_wire_dump_lines.proofs.PacketLemmas.{puts_are}
use Rattle.mysql_wire_dump_lines.proofs.show.commands.params.Goals as goal

pub returns-in-Some : goal.returns-in-Some
returns-in-Some g c =
    rw c.in-Some.is
    (puts_are c.put_all.result _ (param_fields c.in-Some.params) c.args.fields.now c.put_all.new.self c.put_all.ensures (rw (c.types_if.ensures) refl))

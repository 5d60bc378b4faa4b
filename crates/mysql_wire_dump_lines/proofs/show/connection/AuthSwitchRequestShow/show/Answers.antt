use Rattle.std.proofs.Common.{refl}
use Rattle.mysql_wire_dump_lines.specs.ConnectionFields.{auth_switch_fields}
use Rattle.mysql_wire_dump_lines.proofs.PacketLemmas.{puts_are}
use Rattle.mysql_wire_dump_lines.proofs.show.connection.AuthSwitchRequestShow.show.Goals as goal

pub returns : goal.returns
returns g c =
    puts_are c.put_all.result _ (auth_switch_fields c.args.self.now) c.args.fields.now c.put_all.new.self c.put_all.ensures (rw (c.as_slice.ensures.value, c.as_slice-2.ensures.value) refl)

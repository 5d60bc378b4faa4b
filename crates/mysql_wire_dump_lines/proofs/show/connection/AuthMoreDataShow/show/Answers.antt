use Rattle.std.proofs.Common.{refl}
use Rattle.mysql_wire_dump_lines.specs.ConnectionFields.{auth_more_data_fields}
use Rattle.mysql_wire_dump_lines.proofs.PacketLemmas.{puts_are}
use Rattle.mysql_wire_dump_lines.proofs.show.connection.AuthMoreDataShow.show.Goals as goal

pub returns : goal.returns
returns g c =
    puts_are c.put_all.result _ (auth_more_data_fields c.args.self.now) c.args.fields.now c.put_all.new.self c.put_all.ensures (rw c.as_slice.ensures.value refl)

use Rattle.std.proofs.Common.{refl}
use Rattle.mysql_wire_dump_lines.specs.ValueFields.{row_bytes_fields}
use Rattle.mysql_wire_dump_lines.proofs.PacketLemmas.{puts_are}
use Rattle.mysql_wire_dump_lines.proofs.show.values.BinaryRowShow.show.Goals as goal

pub returns : goal.returns
returns g c =
    puts_are c.put_all.result _ (row_bytes_fields c.args.self.now) c.args.fields.now c.put_all.new.self c.put_all.ensures refl

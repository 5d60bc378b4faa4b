use Rattle.std.proofs.lemmas.List.{append-nil}
use Rattle.std.proofs.Common.{refl}
use Rattle.mysql_wire_dump_lines.specs.ConnectionFields.{greeting_fields}
use Rattle.mysql_wire_dump_lines.proofs.PacketLemmas.{puts_are}
use Rattle.mysql_wire_dump_lines.proofs.show.connection.HandshakeV10Show.show.Goals as goal

pub returns : goal.returns
returns g c =
    puts_are c.put_all.result _ (greeting_fields c.args.self.now) c.args.fields.now c.put_all.new.self c.put_all.ensures (simp (c.as_slice.ensures.value, c.as_slice-2.ensures.value, c.side_if.ensures, append-nil) refl)

use Rattle.std.proofs.lemmas.List.{append-nil}
use Rattle.std.proofs.Common.{refl}
use Rattle.mysql_wire_dump_lines.specs.ConnectionFields.{login_fields}
use Rattle.mysql_wire_dump_lines.proofs.PacketLemmas.{puts_are}
use Rattle.mysql_wire_dump_lines.proofs.show.connection.HandshakeResponse41Show.show.Goals as goal

pub returns : goal.returns
returns g c =
    puts_are c.put_all.result _ (login_fields c.args.self.now) c.args.fields.now c.put_all.new.self c.put_all.ensures (simp (c.as_slice.ensures.value, c.of_side.ensures, c.words_if.ensures, c.words_if-2.ensures, c.bytes_if.ensures, c.number_if.ensures, append-nil) refl)

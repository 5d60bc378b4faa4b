use Rattle.std.proofs.Common.{subst, sym}
use Rattle.mysql_wire_dump_lines.specs.Packets.{PutsOwn, packet_fields}
use Rattle.mysql_wire_dump_lines.proofs.PacketLemmas.{own_fields, row_put}
use Rattle.mysql_wire_dump_lines.proofs.show.packet.show_own.Goals as goal

pub returns-in-Row : goal.returns-in-Row
returns-in-Row g c =
    rw c.in-Row.is (row_put c.show_row.result c.args.types.now c.args.kind c.in-Row.row c.args.fields.now c.show_row.new.fields c.show_row.ensures)

pub returns-in_ok-show_typed-in_default : goal.returns-in_ok-show_typed-in_default
returns-in_ok-show_typed-in_default g c =
    subst (λ named. PutsOwn c.args.types.now c.args.kind c.args.packet.now c.args.fields.now c.show_typed.new.fields named) (sym c.shown_kind.ensures)
    (record {
      members = packet_fields c.args.packet.now;
      has = own_fields c.args.types.now c.args.kind c.args.packet.now c.in_default.not-Row;
      puts = c.in_ok-show_typed-in_default.ensures;
    })

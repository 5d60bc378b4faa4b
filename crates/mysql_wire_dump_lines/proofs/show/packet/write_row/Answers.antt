use Rattle.mysql_wire_dump_lines.proofs.PacketLemmas.{none_written, texts_written}
use Rattle.mysql_wire_dump_lines.proofs.show.packet.write_row.Goals as goal

pub returns-in_default : goal.returns-in_default
returns-in_default g c =
    none_written c.show_row.result c.args.types.now c.args.kind c.args.row.now c.args.fields.now c.show_row.new.fields (g.W.Write.contents c.args.output.now) c.show_row.ensures

pub returns-in_ok-refusal-in-Text : goal.returns-in_ok-refusal-in-Text
returns-in_ok-refusal-in-Text g c =
    rw c.in-Text.is (texts_written c.in-Text.columns c.args.types.now c.args.kind c.row_kind.result c.in-Text.values c.in_ok-refusal-in-Text.refusal c.args.fields.now c.write_text_row.new.fields
    (g.W.Write.contents c.args.output.now) (g.W.Write.contents c.write_text_row.new.output) c.row_kind.ensures c.in_ok-refusal-in-Text.ensures)

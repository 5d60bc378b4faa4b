use Rattle.mysql_wire_dump_lines.proofs.PacketLemmas.{puts_row, texts_put}
use Rattle.mysql_wire_dump_lines.proofs.show.packet.show_row.Goals as goal

pub returns-in_ok-refusal-in-Binary : goal.returns-in_ok-refusal-in-Binary
returns-in_ok-refusal-in-Binary g c =
    let put = puts_row c.in-Binary.columns c.args.types.now c.in-Binary.row c.in_ok-refusal-in-Binary.refusal c.args.fields.now c.binary_row.new.fields c.in_ok-refusal-in-Binary.ensures in
    rw c.in-Binary.is (record {
      members = put.0;
      has = (c.in_ok-refusal-in-Binary.refusal, c.row_kind-in-Binary.ensures, put.1);
      puts = put.2;
    })

pub returns-in_ok-refusal-in-Text : goal.returns-in_ok-refusal-in-Text
returns-in_ok-refusal-in-Text g c =
    rw c.in-Text.is (texts_put c.in-Text.columns c.args.types.now c.args.kind c.row_kind.result c.in-Text.values c.in_ok-refusal-in-Text.refusal c.args.fields.now c.text_row.new.fields
    c.row_kind.ensures c.in_ok-refusal-in-Text.ensures)

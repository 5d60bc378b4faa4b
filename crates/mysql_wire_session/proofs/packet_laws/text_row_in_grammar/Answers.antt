use Rattle.std.specs.Cow.{cow_slice_items}
use Rattle.mysql_wire_session.proofs.PacketLemmas.{text_row_in_grammar}
use Rattle.mysql_wire_session.proofs.packet_laws.text_row_in_grammar.Goals as goal

pub returns : goal.returns
returns c = λ id some. text_row_in_grammar id (cow_slice_items c.args.row.now.values.0) some

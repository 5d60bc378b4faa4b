use Rattle.std.specs.Cow.{cow_slice_items}
use Rattle.mysql_wire_session.proofs.PacketLemmas.{definition_in_grammar}
use Rattle.mysql_wire_session.proofs.packet_laws.column_definition_in_grammar.Goals as goal

pub returns : goal.returns
returns c = λ id. definition_in_grammar id (cow_slice_items c.args.column.now.catalog.0) _ _ _

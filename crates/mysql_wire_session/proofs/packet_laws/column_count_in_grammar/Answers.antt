use Rattle.mysql_wire_session.proofs.PacketLemmas.{count_in_grammar}
use Rattle.mysql_wire_session.proofs.packet_laws.column_count_in_grammar.Goals as goal

pub returns : goal.returns
returns c = λ id agreed good some follows.
    count_in_grammar id agreed c.args.count.now some follows (c.payload_back.ensures (agreed.capabilities, agreed.mariadb) c.args.count.now c.known.ensures good)

use Rattle.wire_packet_io.proofs.RelayLemmas.{relayed_front_is, relayed_packet_is}
use Rattle.wire_packet_io.proofs.laws.relayed_packet.Goals as goal

pub returns-clause-whole : goal.returns-clause-whole
returns-clause-whole c = relayed_packet_is

pub returns-clause-front : goal.returns-clause-front
returns-clause-front c = relayed_front_is

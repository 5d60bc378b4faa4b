use Rattle.wire_packet_io.proofs.CopyLemmas.{copied_packet_is}
use Rattle.wire_packet_io.proofs.laws.copied_packet.Goals as goal

pub returns : goal.returns
returns c = copied_packet_is

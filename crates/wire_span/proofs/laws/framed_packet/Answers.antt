use Rattle.wire_span.proofs.FrameLemmas.{framed_packet_is}
use Rattle.wire_span.proofs.laws.framed_packet.Goals as goal

pub returns : goal.returns
returns c = framed_packet_is

use Rattle.wire_packet_io.proofs.BoundLemmas.{bounded_reads_is}
use Rattle.wire_packet_io.proofs.laws.bounded_reads.Goals as goal

pub returns : goal.returns
returns c = bounded_reads_is

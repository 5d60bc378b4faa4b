use Rattle.wire_span.proofs.FrameLemmas.{framed_stream_is}
use Rattle.wire_span.proofs.laws.framed_stream.Goals as goal

pub returns : goal.returns
returns c = framed_stream_is

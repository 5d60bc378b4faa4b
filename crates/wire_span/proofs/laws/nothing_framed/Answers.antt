use Rattle.wire_span.proofs.FrameLemmas.{nothing_framed_is}
use Rattle.wire_span.proofs.laws.nothing_framed.Goals as goal

pub returns : goal.returns
returns c = nothing_framed_is

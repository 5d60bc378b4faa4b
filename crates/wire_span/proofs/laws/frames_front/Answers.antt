use Rattle.wire_span.proofs.FrameLemmas.{frames_front_is}
use Rattle.wire_span.proofs.laws.frames_front.Goals as goal

pub returns : goal.returns
returns c = frames_front_is

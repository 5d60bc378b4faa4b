use Rattle.wire_span.proofs.FrameLemmas.{joined_frames_is}
use Rattle.wire_span.proofs.laws.joined_frames.Goals as goal

pub returns : goal.returns
returns c = joined_frames_is

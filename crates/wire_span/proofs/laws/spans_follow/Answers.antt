use Rattle.wire_span.proofs.MixLemmas.{spans_follow_is}
use Rattle.wire_span.proofs.laws.spans_follow.Goals as goal

pub returns : goal.returns
returns c = spans_follow_is

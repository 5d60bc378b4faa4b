use Rattle.wire_span.proofs.MixLemmas.{spans_end_is}
use Rattle.wire_span.proofs.laws.spans_end.Goals as goal

pub returns : goal.returns
returns c = spans_end_is

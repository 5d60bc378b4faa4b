use Rattle.wire_span.proofs.PartLemmas.{spans_stand_is}
use Rattle.wire_span.proofs.laws.spans_stand.Goals as goal

pub returns : goal.returns
returns c = spans_stand_is

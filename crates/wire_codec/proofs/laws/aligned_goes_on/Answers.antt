use Rattle.wire_codec.proofs.BoundLemmas.{aligned_goes_on_is}
use Rattle.wire_codec.proofs.laws.aligned_goes_on.Goals as goal

pub returns : goal.returns
returns c = aligned_goes_on_is

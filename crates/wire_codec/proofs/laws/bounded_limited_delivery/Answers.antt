use Rattle.wire_codec.proofs.BoundLemmas.{bounded_limited_delivery_is}
use Rattle.wire_codec.proofs.laws.bounded_limited_delivery.Goals as goal

pub returns : goal.returns
returns c = bounded_limited_delivery_is

use Rattle.wire_codec.proofs.LimitedLemmas.{delivers_join_under}
use Rattle.wire_codec.proofs.laws.joined_limited_runs.Goals as goal

pub returns : goal.returns
returns c = delivers_join_under

use Rattle.wire_codec.proofs.RunLemmas.{appended_run_is}
use Rattle.wire_codec.proofs.laws.appended_run.Goals as goal

pub returns : goal.returns
returns c = appended_run_is

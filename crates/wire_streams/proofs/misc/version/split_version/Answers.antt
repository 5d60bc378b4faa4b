use Rattle.wire_streams.proofs.VersionLemmas.{ReadsVersion-unwrap_or}
use Rattle.wire_streams.proofs.misc.version.split_version.Goals as goal

pub returns : goal.returns
returns c = ReadsVersion-unwrap_or c.args.version_str.now c.version_of.result c.unwrap_or.result
    c.version_of.ensures c.unwrap_or.ensures

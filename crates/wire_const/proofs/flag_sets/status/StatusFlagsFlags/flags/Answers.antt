use Rattle.std.proofs.Common.{rules}
use Rattle.wire_const.proofs.flag_sets.status.StatusFlagsFlags.flags.Goals as goal

pub returns : goal.returns
returns c = search rules

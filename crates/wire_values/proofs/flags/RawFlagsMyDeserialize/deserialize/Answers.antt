use Rattle.std.proofs.Common.{rules}
use Rattle.wire_values.proofs.flags.RawFlagsMyDeserialize.deserialize.Goals as goal

pub returns : goal.returns
returns g c = search rules

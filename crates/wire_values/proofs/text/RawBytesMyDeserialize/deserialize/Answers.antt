use Rattle.std.proofs.Common.{rules}
use Rattle.wire_values.proofs.text.RawBytesMyDeserialize.deserialize.Goals as goal

pub returns : goal.returns
returns g c = search rules

use Rattle.std.proofs.Common.{rules}
use Rattle.wire_buf.proofs.io.ParseBuf.parse_front.Goals as goal

pub returns : goal.returns
returns g c = search rules

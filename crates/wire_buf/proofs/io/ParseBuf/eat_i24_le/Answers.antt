use Rattle.std.proofs.Common.{rules}
use Rattle.wire_buf.proofs.io.ParseBuf.eat_i24_le.Goals as goal

pub returns : goal.returns
returns c = search rules

use Rattle.std.proofs.Common.{rules}
use Rattle.wire_buf.proofs.io.ParseBuf.checked_eat_u8.Goals as goal

pub returns-then-len-ge1 : goal.returns-then-len-ge1
returns-then-len-ge1 c = search rules

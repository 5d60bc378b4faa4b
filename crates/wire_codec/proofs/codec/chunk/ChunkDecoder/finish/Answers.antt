-- Written out, so that a body that breaks one of these is refused at once.
use Rattle.std.proofs.Common.{rules}
use Rattle.wire_codec.proofs.codec.chunk.ChunkDecoder.finish.Goals as goal

pub returns-then-len-lt-HEADER_LEN : goal.returns-then-len-lt-HEADER_LEN
returns-then-len-lt-HEADER_LEN g c = search rules

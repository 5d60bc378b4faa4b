use Rattle.wire_buf.specs.SpellingLemmas.{reads_text}
use Rattle.wire_buf.specs.Lenenc.{IsLenencOrMark}
use Rattle.wire_buf.proofs.io.ParseBuf.checked_eat_lenenc_str.Goals as goal

pub returns : goal.returns
returns c = reads_text IsLenencOrMark 1 _ _ _ _ c.checked_eat.result c.in_ok-len.ensures
    c.checked_eat.ensures

use Rattle.wire_buf.specs.SpellingLemmas.{text_there, eats_text}
use Rattle.wire_buf.specs.Lenenc.{IsLenencOrMark}
use Rattle.wire_buf.specs.LenencLemmas.{IsLenencOrMark-free}
use Rattle.wire_buf.proofs.io.ParseBuf.eat_lenenc_str.Goals as goal

pub eat-requires : goal.eat-requires
eat-requires c = text_there IsLenencOrMark IsLenencOrMark-free _ _ _ c.requires
    c.eat_lenenc_int-len.ensures

pub returns : goal.returns
returns c = eats_text IsLenencOrMark IsLenencOrMark-free _ _ _ _ _ c.requires
    c.eat_lenenc_int-len.ensures c.eat.ensures.eaten c.eat.ensures.rest

use Rattle.wire_buf.specs.Spelling.{IsFixed}
use Rattle.wire_buf.specs.SpellingLemmas.{IsFixed-free, eats_fixed, text_there, eats_text}
use Rattle.wire_buf.proofs.io.ParseBuf.eat_u8_str.Goals as goal

pub eat-requires : goal.eat-requires
eat-requires c =
    let read = eats_fixed 1 _ _ _ c.requires c.eat_u8-len.ensures in
    text_there (IsFixed 1) (IsFixed-free 1) _ _ _ c.requires read

pub returns : goal.returns
returns c =
    let read = eats_fixed 1 _ _ _ c.requires c.eat_u8-len.ensures in
    eats_text (IsFixed 1) (IsFixed-free 1) _ _ _ _ _ c.requires read c.eat.ensures.eaten
    c.eat.ensures.rest

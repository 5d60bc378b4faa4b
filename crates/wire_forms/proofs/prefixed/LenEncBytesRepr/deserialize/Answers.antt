use Rattle.wire_buf.specs.Lenenc.{IsLenencOrMark}
use Rattle.wire_forms.specs.PrefixedTexts.{text_told, text_missing}
use Rattle.wire_forms.proofs.prefixed.LenEncBytesRepr.deserialize.Goals as goal

pub returns-in-Some : goal.returns-in-Some
returns-in-Some g c = text_told IsLenencOrMark 1 c.args.buf.now.0.now c.in-Some.text.now
    c.checked_eat_lenenc_str.new.self.0.now c.in-Some.ensures

pub returns-in-None : goal.returns-in-None
returns-in-None g c = text_missing IsLenencOrMark 1 c.args.buf.now.0.now
    c.checked_eat_lenenc_str.new.self.0.now c.in-None.ensures

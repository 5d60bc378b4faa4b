use Rattle.wire_buf.specs.Spelling.{IsFixed}
use Rattle.wire_forms.specs.PrefixedTexts.{text_told, text_missing}
use Rattle.wire_forms.proofs.prefixed.U8BytesBytesRepr.deserialize.Goals as goal

pub returns-in-Some : goal.returns-in-Some
returns-in-Some g c = text_told (IsFixed 1) 0 c.args.buf.now.0.now c.in-Some.text.now
    c.checked_eat_u8_str.new.self.0.now c.in-Some.ensures

pub returns-in-None : goal.returns-in-None
returns-in-None g c = text_missing (IsFixed 1) 0 c.args.buf.now.0.now
    c.checked_eat_u8_str.new.self.0.now c.in-None.ensures

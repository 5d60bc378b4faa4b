use Rattle.std.proofs.Common.{◌∙◌, length}
use Rattle.wire_buf.specs.Lenenc.{lenenc_bytes}
use Rattle.wire_forms.proofs.PutText.{put-whole}
use Rattle.wire_forms.proofs.prefixed.LenEncBytesRepr.serialize.Goals as goal

pub returns : goal.returns
returns g c =
    let both = put-whole c.put_lenenc_str.result c.all_or_nothing.result c.is_ok-put.result
    c.len-at.result _ c.args.buf.now.items c.put_lenenc_str.new.self.items
    c.all_or_nothing.new.buf.items (lenenc_bytes (length c.args.text.now)) c.args.text.now
    (c.len-at.ensures ∙ c.args.buf.now.ok.0) c.put_lenenc_str.ensures.text c.is_ok-put.ensures.value
    c.all_or_nothing.ensures.all c.all_or_nothing.ensures.nothing in
    record { ok = both.0; err = both.1 }

use Rattle.std.proofs.Common.{◌∙◌, length, take}
use Rattle.wire_buf.specs.Numbers.{le_bytes}
use Rattle.wire_ext.specs.Texts.{u32_max}
use Rattle.wire_forms.proofs.PutText.{put-whole}
use Rattle.wire_forms.proofs.prefixed.U32BytesBytesRepr.serialize.Goals as goal

pub returns : goal.returns
returns g c =
    let cut = take u32_max c.args.text.now in
    let both = put-whole c.put_u32_str.result c.all_or_nothing.result c.is_ok-put.result
    c.len-at.result _ c.args.buf.now.items c.put_u32_str.new.self.items
    c.all_or_nothing.new.buf.items (le_bytes 4 (length cut)) cut (c.len-at.ensures ∙ c.args.buf.now.ok.0)
    c.put_u32_str.ensures.text c.is_ok-put.ensures.value c.all_or_nothing.ensures.all
    c.all_or_nothing.ensures.nothing in
    record { ok = both.0; err = both.1 }

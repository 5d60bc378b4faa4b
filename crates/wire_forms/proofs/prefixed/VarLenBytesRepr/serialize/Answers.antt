use Rattle.std.proofs.Common.{ℕ, List, ◌++◌, ◌∙◌, length, take, ap, subst}
use Rattle.wire_forms.specs.Groups.{groups_bytes}
use Rattle.wire_forms.proofs.PutText.{Appended, behind-whole}
use Rattle.wire_forms.proofs.prefixed.VarLenBytesRepr.serialize.Goals as goal

pub returns : goal.returns
returns g c =
    let cut = c.first_bytes-cut.result.now in
    let old = c.args.buf.now.items in
    let new = c.all_or_nothing.new.buf.items in
    let both = behind-whole c.append.result c.all_or_nothing.result c.is_ok-put.result
    c.len-at.result old c.put_groups.new.buf.items c.append.new.buf.items new
    (groups_bytes (length cut)) cut (c.len-at.ensures ∙ c.args.buf.now.ok.0)
    c.in_ok-put_groups.ensures.ok c.append.ensures.ok c.append.ensures.err
    c.is_ok-put.ensures.value c.all_or_nothing.ensures.all c.all_or_nothing.ensures.nothing in
    let whole = subst (λ (text : List ℕ).
    Appended c.all_or_nothing.result old new (groups_bytes (length text) ++ text))
    (◌∙◌ {b = take c.longest_u32_str.result c.args.text.now} c.first_bytes-cut.ensures.first
    (ap (λ (most : ℕ). take most c.args.text.now) c.longest_u32_str.ensures.value)) both in
    record { ok = whole.0; err = whole.1 }

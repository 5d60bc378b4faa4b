use Rattle.std.proofs.Common.{ℕ, ap, arith, length, subst, sym, take, ◌≡◌, ◌∙◌, IsUtf8}
use Rattle.std.proofs.lemmas.Str.{IsUtf8-append, IsUtf8-string_bytes}
use Rattle.json.proofs.Printed.Utf8.{IsUtf8-quoted}
use Rattle.wire_text.proofs.quoted.push_long_escaped.Goals as goal

pub from_utf8_unchecked-requires : goal.from_utf8_unchecked-requires
from_utf8_unchecked-requires g c =
    let held = ap (λ v. v.items) c.into_bytes-all.ensures.value in
    subst IsUtf8 (sym c.in-Ok.ensures.ok) (IsUtf8-append _ _
    (subst IsUtf8 (sym held) (IsUtf8-string_bytes c.replace.result)) (IsUtf8-quoted c.as_bytes.result.now c.as_bytes.ensures.utf8))

pub from_utf8_unchecked-requires-in-Err : goal.from_utf8_unchecked-requires-in-Err
from_utf8_unchecked-requires-in-Err g c =
    let held = ap (λ v. v.items) c.into_bytes-all.ensures.value in
    let long : c.len-len.result ≡ length c.into_bytes-all.result.items = omega (arith, c.len-len.ensures) in
    subst IsUtf8 (sym (c.truncate.ensures.items ∙ ap (λ (n : ℕ). take n c.push_blocks.new.text.items) long ∙ c.in-Err.ensures.front ∙ held)) (IsUtf8-string_bytes c.replace.result)

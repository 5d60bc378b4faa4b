use Rattle.std.proofs.Common.{ap, subst, sym, ◌∙◌, IsUtf8}
use Rattle.std.proofs.lemmas.Str.{IsUtf8-append, IsUtf8-string_bytes}
use Rattle.wire_text.proofs.DigitLemmas.{digits_utf8}
use Rattle.wire_text.proofs.digits.push_digits_to.Goals as goal

pub from_utf8_unchecked-requires : goal.from_utf8_unchecked-requires
from_utf8_unchecked-requires g c =
    let held = ap (λ v. v.items) c.into_bytes-all.ensures.value in
    subst IsUtf8 (sym c.in-Ok.ensures.ok) (IsUtf8-append _ _
    (subst IsUtf8 (sym held) (IsUtf8-string_bytes c.replace.result)) (digits_utf8 c.args.bytes.now))

pub from_utf8_unchecked-requires-in-Err : goal.from_utf8_unchecked-requires-in-Err
from_utf8_unchecked-requires-in-Err g c =
    let held = ap (λ v. v.items) c.into_bytes-all.ensures.value in
    subst IsUtf8 (sym (c.in-Err.ensures.err ∙ held)) (IsUtf8-string_bytes c.replace.result)

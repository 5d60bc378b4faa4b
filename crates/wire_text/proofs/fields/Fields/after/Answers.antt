use Rattle.std.proofs.Common.{◌≡◌, arith, length, string_bytes, subst, sym, IsUtf8}
use Rattle.std.proofs.lemmas.List.{take_all}
use Rattle.std.proofs.lemmas.Str.{IsUtf8-string_bytes}
use Rattle.wire_text.proofs.fields.Fields.after.Goals as goal

pub invariant_of-result : goal.invariant_of-result
invariant_of-result g c =
    let long : c.len.result ≡ length (string_bytes c.args.text) = omega (arith, c.len.ensures) in
    (omega (arith, long), subst IsUtf8 (sym (take_all c.len.result (string_bytes c.args.text) (omega (arith, long)))) (IsUtf8-string_bytes c.args.text))

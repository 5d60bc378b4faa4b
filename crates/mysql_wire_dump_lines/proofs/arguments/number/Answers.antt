use Rattle.std.proofs.Common.{arith, ◌<◌, ◌≤◌, length, ◌^◌, sym, ◌∙◌}
use Rattle.std.proofs.lemmas.Int.Digits.{digits_value-lt}
use Rattle.std.proofs.Math.Nat.{pow-le-pow_right}
use Rattle.std.specs.Str.Parse.{digits_value}
use Rattle.mysql_wire_dump_lines.proofs.NumberLemmas.{no_number}
use Rattle.mysql_wire_dump_lines.proofs.arguments.number.Goals as goal

pub returns-in-Err : goal.returns-in-Err
returns-in-Err c is =
    let plain = sym (c.starts_with.ensures.byte (omega arith) (omega arith) (λ w o h. h)) ∙ c.if-starts_with.false in
    let most : 10 ^ length c.args.word.now ≤ 10 ^ 10 = pow-le-pow_right (omega arith) is.1 in
    let short : digits_value 10 c.args.word.now < 2 ^ 64 = omega (arith, digits_value-lt 10 c.args.word.now is.0.1, most) in
    no_number c.args.word.now c.parse.result c.in-Err.field-0 plain c.parse.ensures.value.0 c.in-Err.is (is.0, short)

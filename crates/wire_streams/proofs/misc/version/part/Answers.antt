use Rattle.std.proofs.Common.{rules, ◌≡◌, ◌<◌, ◌-◌, get_or, length, arith}
use Rattle.std.specs.Char.{digit_value}
use Rattle.wire_streams.proofs.VersionLemmas.{digits_value-from, digits-end}
use Rattle.wire_streams.proofs.misc.version.part.Goals as goal

pub returns-in_err-checked_mul : goal.returns-in_err-checked_mul
returns-in_err-checked_mul c =
    let large = digits_value-from c.loop-digit.number c.loop-digit.digit-index c.args.digits.now
    c.loop-digit-test.true c.loop-digit.invariant.value in
    rw c.from_residual.ensures (λ small.
    c.in_err-checked_mul.ensures (omega (arith, large, small.1)))

pub returns-in_err-number : goal.returns-in_err-number
returns-in_err-number c =
    let large = digits_value-from c.loop-digit.number c.loop-digit.digit-index c.args.digits.now
    c.loop-digit-test.true c.loop-digit.invariant.value in
    let digit = get_or c.args.digits.now c.loop-digit.digit-index 0 in
    let value : digit_value digit ≡ digit - 48 = search rules in
    rw c.from_residual-in_err-number.ensures
    (λ small. c.in_err-number.ensures
    (omega (arith, large, small.1, value, c.in_ok-checked_mul.ensures)))

pub returns : goal.returns
returns c =
    let (value, all) = digits-end c.loop-digit.number c.loop-digit.digit-index c.args.digits.now
    c.loop-digit-test.false c.loop-digit.invariant.value c.loop-digit.invariant.from in
    let some : 0 < length c.args.digits.now = search rules in
    (((some, all), omega (arith, value, c.loop-digit.invariant.small)), value)

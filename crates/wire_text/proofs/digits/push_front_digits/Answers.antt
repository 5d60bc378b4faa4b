use Rattle.std.proofs.Common.{◌≡◌, ◌+◌, [], length, refl, arith}
use Rattle.wire_text.proofs.DigitLemmas.{none_yet, block_more, digits_of_block}
use Rattle.wire_text.proofs.digits.push_front_digits.Goals as goal

pub loop-block-init : goal.loop-block-init
loop-block-init g c = (([], refl, none_yet c.args.text.now.items c.args.text.now.items refl), c.requires)

pub loop-block-preserved : goal.loop-block-preserved
loop-block-preserved g c =
    let split = c.in-Some.ensures.cases in
    let left : length c.in-Some.after.now + 64 ≡ length c.loop-block.rest.now = split.2 in
    let long = digits_of_block 64 c.loop-block.rest.now c.in-Some.block.now c.in-Some.after.now c.digits_of_64.result split.0 left c.digits_of_64.ensures in
    let appended = c.in_ok-extend_from_slice.ensures in (
      block_more 64 c.args.bytes.now c.loop-block.rest.now c.in-Some.block.now c.in-Some.after.now c.args.text.now.items c.loop-block.text.items c.digits_of_64.result _
          c.loop-block.invariant.0 split.0 split.1 c.digits_of_64.ensures appended.items,
      omega (arith, c.loop-block.invariant.1, left, long, appended.len, appended.capacity),
    )

pub returns-in_err-extend_from_slice-clause-ok : goal.returns-in_err-extend_from_slice-clause-ok
returns-in_err-extend_from_slice-clause-ok g c =
    let split = c.in-Some.ensures.cases in
    let left : length c.in-Some.after.now + 64 ≡ length c.loop-block.rest.now = split.2 in
    let long = digits_of_block 64 c.loop-block.rest.now c.in-Some.block.now c.in-Some.after.now c.digits_of_64.result split.0 left c.digits_of_64.ensures in
    absurd (omega (arith, c.loop-block.invariant.1, left, long, c.in_err-extend_from_slice.ensures.full))

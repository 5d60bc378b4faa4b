use Rattle.wire_text.proofs.FieldLemmas.{none_put}
use Rattle.std.proofs.Common.{◌≡◌, ◌+◌, ◌*◌, List, ℕ, OnOk, length, vec_len, vec_capacity, subst, arith}
use Rattle.wire_text.specs.Digits.{Pushed}
use Rattle.wire_text.proofs.DigitLemmas.{block_more, all_pushed, digits_of_block, never_full}
use Rattle.wire_text.proofs.digits.push_digits.Goals as goal

pub loop-block-init : goal.loop-block-init
loop-block-init g c =
    let held = c.in_ok-reserve.ensures.items in
    (subst (λ (z : List ℕ). Pushed c.args.bytes.now c.in_ok-rest.rest.now z c.push_front_digits.new.text.items) held c.in_ok-rest.ensures.pushed, c.in_ok-rest.ensures.room)

pub loop-block-preserved : goal.loop-block-preserved
loop-block-preserved g c =
    let split = c.in-Some.ensures.cases in
    let left : length c.in-Some.after.now + 16 ≡ length c.loop-block.rest.now = split.2 in
    let long = digits_of_block 16 c.loop-block.rest.now c.in-Some.block.now c.in-Some.after.now c.digits_of.result split.0 left c.digits_of.ensures in
    let appended = c.in_ok-extend_from_slice.ensures in (
      block_more 16 c.args.bytes.now c.loop-block.rest.now c.in-Some.block.now c.in-Some.after.now c.args.text.now.items c.loop-block.text.items c.digits_of.result _
          c.loop-block.invariant.0 split.0 split.1 c.digits_of.ensures appended.items,
      omega (arith, c.loop-block.invariant.1, left, long, appended.len, appended.capacity),
    )

pub returns-in_err-extend_from_slice-clause-err : goal.returns-in_err-extend_from_slice-clause-err
returns-in_err-extend_from_slice-clause-err g c =
    let split = c.in-Some.ensures.cases in
    let left : length c.in-Some.after.now + 16 ≡ length c.loop-block.rest.now = split.2 in
    let long = digits_of_block 16 c.loop-block.rest.now c.in-Some.block.now c.in-Some.after.now c.digits_of.result split.0 left c.digits_of.ensures in
    absurd (omega (arith, c.loop-block.invariant.1, left, long, c.in_err-extend_from_slice.ensures.full))

pub returns-clause-ok : goal.returns-clause-ok
returns-clause-ok g c =
    subst (λ (z : List ℕ). OnOk c.push_last_digits.result (c.push_last_digits.new.text.items ≡ z))
    (all_pushed c.args.bytes.now c.loop-block.rest.now c.args.text.now.items c.loop-block.text.items c.loop-block.invariant.0) c.push_last_digits.ensures.ok

pub returns-clause-err : goal.returns-clause-err
returns-clause-err g c =
    never_full c.push_last_digits.result _ (vec_len c.loop-block.text) (2 * length c.loop-block.rest.now) (vec_capacity c.loop-block.text) c.push_last_digits.ensures.full c.loop-block.invariant.1

pub returns-in_err-reserve-clause-ok : goal.returns-in_err-reserve-clause-ok
returns-in_err-reserve-clause-ok g c = none_put c.from_residual.result _ c.from_residual.ensures.0

pub returns-in_err-rest-clause-ok : goal.returns-in_err-rest-clause-ok
returns-in_err-rest-clause-ok g c = none_put c.from_residual-in_err-rest.result _ c.from_residual-in_err-rest.ensures.0

pub returns-in_err-extend_from_slice-clause-ok : goal.returns-in_err-extend_from_slice-clause-ok
returns-in_err-extend_from_slice-clause-ok g c =
    none_put c.from_residual-in_err-extend_from_slice.result _ c.from_residual-in_err-extend_from_slice.ensures.0

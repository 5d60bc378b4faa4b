use Rattle.std.proofs.Common.{◌<◌, arith, length, rules}
use Rattle.mysql_wire_queries.proofs.SkipLemmas.{none_passed, null_passed, short_passed}
use Rattle.mysql_wire_queries.proofs.text_values.end_of_short.Goals as goal
use Rattle.mysql_wire_queries.proofs.text_values.end_of_short.Goals.{then-first-le-LONGEST, else-first-le-LONGEST+else-first}

pub values-init : goal.values-init
values-init c = (omega arith, λ within values begins begun. none_passed values c.args.bytes.now begins)

pub values-preserved : goal.values-preserved
values-preserved c =
    let bytes = c.args.bytes.now in
    let below : c.values.at < length bytes = search (rules, c.in_ok-first.ensures.lookup.0) in
    let first_is = c.in_ok-first.ensures.lookup.1 in
    let so = c.values.invariant.1 (omega (arith, below)) in
    elim c.if-first-le-LONGEST.branch [
      | then-first-le-LONGEST w ↦ rw (w.at-is) (
        omega (arith, below, w.if-first-le-LONGEST.true),
        λ within. short_passed c.values.counter c.values.at c.in_ok-first.field-0.now _ bytes below first_is (omega (arith, w.if-first-le-LONGEST.true)) within so,
      )
      | else-first-le-LONGEST+else-first w ↦ rw (w.at-is) (
        omega (arith, below),
        λ within. null_passed c.values.counter c.values.at c.in_ok-first.field-0.now _ bytes below first_is (search (rules, w.if-first.false)) so,
      )
    ]

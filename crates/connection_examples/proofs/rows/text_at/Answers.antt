use Rattle.std.proofs.Common.{arith, refl, [], ◌∷◌, ◌++◌}
use Rattle.std.proofs.lemmas.List.{length-append}
use Rattle.mysql_wire_queries.specs.declared.text_row.TextValue.{TextValue}
use Rattle.connection_examples.proofs.RowLemmas.{given_more}
use Rattle.connection_examples.proofs.rows.text_at.Goals as goal

pub values-init : goal.values-init
values-init c =
    ([], refl, (c.new-values.result, c.new-values.ensures.rest, c.new-values.ensures.begins, refl))

pub returns-in_err-next_value-clause-none : goal.returns-in_err-next_value-clause-none
returns-in_err-next_value-clause-none c none =
    let (before, long, begins) = c.values.invariant in
    (before, c.values.values, omega (arith, long, c.values-test.true), begins, c.in_err-next_value.ensures.none refl)

pub values-preserved : goal.values-preserved
values-preserved c =
    let (before, long, (all, are, begun, given)) = c.values.invariant in
    let value : TextValue = c.in_ok-next_value.field-0 in (
      before ++ value ∷ [],
      omega (arith, long, length-append before (value ∷ [])),
      (all, are, begun, given_more before all c.values.values c.next_value.new.values value given c.in_ok-next_value.ensures.given),
    )

pub returns-in-Some-clause-there : goal.returns-in-Some-clause-there
returns-in-Some-clause-there c =
    let (before, long, begins) = c.values.invariant in
    (before, c.values.values, c.next_value-2.new.values, omega (arith, long), begins, c.in-Some.ensures.given)

pub returns-in-None-clause-none : goal.returns-in-None-clause-none
returns-in-None-clause-none c none =
    let (before, long, begins) = c.values.invariant in
    (before, c.values.values, omega (arith, long), begins, c.in-None.ensures.none refl)

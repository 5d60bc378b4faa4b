use Rattle.std.proofs.Common.{◌∙◌, ℕ, ap, arith, subst, sym}
use Rattle.wire_text.specs.Fields.{member_form}
use Rattle.mysql_wire_dump_lines.specs.ValueFields.{TextsSoFar}
use Rattle.mysql_wire_dump_lines.proofs.RowEndLemmas.{is_end_behind}
use Rattle.mysql_wire_dump_lines.proofs.ValueLemmas.{one_put-form, texts-left, texts-more, texts-refused}
use Rattle.mysql_wire_dump_lines.proofs.show.values.put_end.Goals as goal

pub returns-in-Some : goal.returns-in-Some
returns-in-Some g c begun so =
    texts-refused c.args.places.1 c.values.place c.args.payload.now c.values.rest.0.now begun c.values.fields c.put_last_text.new.fields c.in-Some.refusal
    (c.values.invariant.0 begun so) c.values-test.true (rw c.in-Some.is at c.in_ok-put_last_text.ensures)

pub values-preserved : goal.values-preserved
values-preserved g c =
    let put = rw c.in-None.is at c.in_ok-put_last_text.ensures in (
      λ begun so. texts-more c.values.place c.args.payload.now c.values.rest.0.now c.put_last_text.new.rest.0.now begun c.values.fields
          c.put_last_text.new.fields (c.values.invariant.0 begun so) put,
      is_end_behind c.take.new.self put.1.0.eaten c.values.rest.0.now c.put_last_text.new.rest.0.now put.1.0.behind_is c.values.invariant.1,
      c.values.invariant.2 ∙ ap member_form (sym (one_put-form put.0 c.values.fields c.put_last_text.new.fields put.1.1)),
    )

pub returns : goal.returns
returns g c begun so =
    texts-left c.args.places.1 c.args.payload.now c.values.rest.0.now begun c.values.fields c.left_over.result
    (subst (λ (place : ℕ). TextsSoFar place c.args.payload.now c.values.rest.0.now begun c.values.fields) (omega (arith, c.requires.order))
    (c.values.invariant.0 begun so))
    c.left_over.ensures.none c.left_over.ensures.some

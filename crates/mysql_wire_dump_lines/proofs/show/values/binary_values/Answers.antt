use Rattle.std.proofs.Common.{ℕ, List, ◌∙◌, get_or, refl, subst, sym, arith}
use Rattle.std.proofs.lemmas.List.{take_more}
use Rattle.wire_text.specs.Fields.{Member, Puts}
use Rattle.mysql_wire_dump_lines.proofs.ValueLemmas.{Values, rest-none, rest-there, values-ended, values-more, values-refused}
use Rattle.mysql_wire_dump_lines.proofs.show.values.binary_values.Goals as goal

pub returns-in-Some : goal.returns-in-Some
returns-in-Some g c =
    values-refused c.args.types.now c.columns.place c.args.row.now c.columns.rest.0.now c.args.fields.now c.columns.fields c.put_column.new.fields c.in-Some.refusal
    c.columns.invariant c.columns-test.true (rw c.in-Some.is at c.in_ok-put_column.ensures)

pub columns-preserved : goal.columns-preserved
columns-preserved g c =
    values-more c.args.row.now.nulls.0.now c.args.types.now c.columns.place (get_or c.args.types.now c.columns.place 0) c.args.row.now.values.now c.columns.rest.0.now
    c.put_column.new.rest.0.now c.args.fields.now c.columns.fields c.put_column.new.fields (take_more c.args.types.now c.columns.place 0 c.columns-test.true)
    c.columns.invariant (rw c.in-None.is at c.in_ok-put_column.ensures)

pub returns-in_ok-put : goal.returns-in_ok-put
returns-in_ok-put g c =
    values-ended c.args.types.now c.args.row.now c.columns.rest.0.now c.args.fields.now c.columns.fields c.put.new.self
    (subst (λ (place : ℕ). Values c.args.row.now.nulls.0.now c.args.types.now place c.args.row.now.values.now c.columns.rest.0.now c.args.fields.now c.columns.fields)
    (omega arith) c.columns.invariant)
    (subst (λ (members : List Member). Puts members c.columns.fields c.put.new.self) (sym (rest-there c.columns.rest.0.now (sym c.is_empty.ensures ∙ c.if-not-is_empty.true)))
    c.in_ok-put.ensures)

pub returns-else-not-is_empty : goal.returns-else-not-is_empty
returns-else-not-is_empty g c =
    values-ended c.args.types.now c.args.row.now c.columns.rest.0.now c.args.fields.now c.columns.fields c.columns.fields
    (subst (λ (place : ℕ). Values c.args.row.now.nulls.0.now c.args.types.now place c.args.row.now.values.now c.columns.rest.0.now c.args.fields.now c.columns.fields)
    (omega arith) c.columns.invariant)
    (subst (λ (members : List Member). Puts members c.columns.fields c.columns.fields) (sym (rest-none c.columns.rest.0.now (sym c.is_empty.ensures ∙ c.if-not-is_empty.false)))
    (record { are = refl }))

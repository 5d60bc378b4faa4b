use Rattle.std.proofs.Common.{ℕ, ◌∙◌, subst, sym, arith}
use Rattle.mysql_wire_dump_lines.proofs.ValueLemmas.{Writing, is_empty, is_some, writes-ended, writes-refused, writes-trailing, writing-more, writing-none}
use Rattle.mysql_wire_dump_lines.proofs.show.long_row.write_text_row.Goals as goal

pub values-init : goal.values-init
values-init g c = writing-none c.args.payload.now c.args.fields.now (g.W.Write.contents c.args.output.now)

pub returns-in-Some : goal.returns-in-Some
returns-in-Some g c =
    writes-refused c.args.columns c.values.place c.args.payload.now c.values.rest.0.now c.args.fields.now c.values.fields c.write_text.new.fields c.in-Some.refusal
    (g.W.Write.contents c.args.output.now) (g.W.Write.contents c.values.output) (g.W.Write.contents c.write_text.new.output)
    c.values.invariant c.values-test.true (rw c.in-Some.is at c.in_ok-write_text.ensures)

pub values-preserved : goal.values-preserved
values-preserved g c =
    writing-more c.values.place c.args.payload.now c.values.rest.0.now c.write_text.new.rest.0.now c.args.fields.now c.values.fields c.write_text.new.fields
    (g.W.Write.contents c.args.output.now) (g.W.Write.contents c.values.output) (g.W.Write.contents c.write_text.new.output)
    c.values.invariant (rw c.in-None.is at c.in_ok-write_text.ensures)

pub returns-then-is_empty : goal.returns-then-is_empty
returns-then-is_empty g c =
    writes-ended c.args.columns c.args.payload.now c.values.rest.0.now c.args.fields.now c.values.fields (g.W.Write.contents c.args.output.now) (g.W.Write.contents c.values.output)
    (subst (λ (place : ℕ). Writing place c.args.payload.now c.values.rest.0.now c.args.fields.now c.values.fields (g.W.Write.contents c.args.output.now) (g.W.Write.contents c.values.output))
    (omega arith) c.values.invariant)
    (is_empty c.values.rest.0.now (sym c.is_empty.ensures ∙ c.if-is_empty.true))

pub returns-else-is_empty : goal.returns-else-is_empty
returns-else-is_empty g c =
    writes-trailing c.args.columns c.args.payload.now c.values.rest.0.now c.args.fields.now c.values.fields (g.W.Write.contents c.args.output.now) (g.W.Write.contents c.values.output)
    (subst (λ (place : ℕ). Writing place c.args.payload.now c.values.rest.0.now c.args.fields.now c.values.fields (g.W.Write.contents c.args.output.now) (g.W.Write.contents c.values.output))
    (omega arith) c.values.invariant)
    (is_some c.values.rest.0.now (sym c.is_empty.ensures ∙ c.if-is_empty.false))

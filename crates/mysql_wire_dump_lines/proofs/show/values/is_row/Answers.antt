use Rattle.std.proofs.Common.{ℕ, ◌∙◌, subst, sym}
use Rattle.mysql_wire_queries.specs.RowValues.{PassesTo}
use Rattle.mysql_wire_dump_lines.proofs.GivenLemmas.{row_passed}
use Rattle.mysql_wire_dump_lines.proofs.ValueLemmas.{is_empty}
use Rattle.mysql_wire_dump_lines.proofs.show.values.is_row.Goals as goal

pub returns-then-skip_values-columns : goal.returns-then-skip_values-columns
returns-then-skip_values-columns c is fields hidden =
    let left = c.skip_values.new.self.rest.0.now in
    let none = sym c.rest.ensures ∙ is_empty c.rest.result.now (sym c.is_empty.ensures ∙ is) in
    let passed = subst (λ (count : ℕ). PassesTo c.new-values.result count left) c.if-skip_values-columns.true c.skip_values.ensures.passed.0 in
    row_passed c.args.columns c.args.payload.now c.new-values.result left c.new-values.ensures.rest passed none fields hidden

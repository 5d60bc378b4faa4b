use Rattle.mysql_wire_queries.proofs.SkipLemmas.{given_passed}
use Rattle.mysql_wire_queries.proofs.text_values.TextValues.skip_each.Goals as goal

pub values-preserved : goal.values-preserved
values-preserved c =
    given_passed c.args.self.now c.values.self c.next.new.self c.values.passed c.in-Some-Ok.field-0-0 c.values.invariant
    (rw (c.in-Some-Ok.field-0-is) at c.in-Some-Ok.ensures.steps)

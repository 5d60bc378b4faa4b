use Rattle.std.proofs.Common.{inl, inr}
use Rattle.connection_examples.proofs.rows.next_value.Goals as goal

pub returns-in-Some-Err-clause-none : goal.returns-in-Some-Err-clause-none
returns-in-Some-Err-clause-none c none =
    (c.next.new.self, inr (c.in-Some-Err.field-0-0, rw c.in-Some-Err.field-0-is at c.in-Some-Err.ensures.steps))

pub returns-in-None-clause-none : goal.returns-in-None-clause-none
returns-in-None-clause-none c none = (c.next.new.self, inl c.in-None.ensures.steps)

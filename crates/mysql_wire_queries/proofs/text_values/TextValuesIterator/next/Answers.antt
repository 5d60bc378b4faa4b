use Rattle.std.proofs.Common.{rules, refl}
use Rattle.mysql_wire_queries.proofs.text_values.TextValuesIterator.next.Goals as goal

pub returns-in-Err-clause-steps : goal.returns-in-Err-clause-steps
returns-in-Err-clause-steps c = (search rules, refl, refl, (_, c.in-Err.ensures))

use Rattle.std.proofs.Common.{rules}
use Rattle.wire_repr.proofs.field_laws.number_comes_back.Goals as goal

pub returns-clause-good : goal.returns-clause-good
returns-clause-good g c = search rules

pub returns-clause-kept : goal.returns-clause-kept
returns-clause-kept g c = search rules

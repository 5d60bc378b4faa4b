use Rattle.std.proofs.Common.{rules}
use Rattle.wire_list.proofs.field_laws.lists.seq_u64_comes_back.Goals as goal

pub returns-clause-good : goal.returns-clause-good
returns-clause-good g c = search rules

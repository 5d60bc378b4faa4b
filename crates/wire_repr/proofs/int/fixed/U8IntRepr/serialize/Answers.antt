use Rattle.std.proofs.Common.{rules}
use Rattle.wire_repr.proofs.int.fixed.U8IntRepr.serialize.Goals as goal

pub returns-clause-ok : goal.returns-clause-ok
returns-clause-ok g c = search rules

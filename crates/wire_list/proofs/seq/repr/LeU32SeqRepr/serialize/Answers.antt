use Rattle.std.proofs.Common.{rules, sym}
use Rattle.wire_list.specs.Counted.{cut-least}
use Rattle.wire_list.proofs.seq.repr.LeU32SeqRepr.serialize.Goals as goal

pub returns-clause-ok : goal.returns-clause-ok
returns-clause-ok g c = rw (sym (cut-least 4294967295 c.args.seq.now)) (search rules)

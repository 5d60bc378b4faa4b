use Rattle.std.proofs.Common.{rules, arith}
use Rattle.std.proofs.lemmas.List.{take_all}
use Rattle.wire_list.proofs.seq.repr.UnknownSeqRepr.serialize.Goals as goal

pub returns-clause-ok : goal.returns-clause-ok
returns-clause-ok g c =
    let whole = take_all 0xffff_ffff_ffff_ffff c.args.seq.now (omega arith) in
    rw whole (search rules)

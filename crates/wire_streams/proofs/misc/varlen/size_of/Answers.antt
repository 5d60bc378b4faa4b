use Rattle.std.proofs.Common.{arith}
use Rattle.wire_streams.proofs.VarlenLemmas.{IsVarlenSize-from_bits}
use Rattle.std.proofs.lemmas.Nat.{leading_length}
use Rattle.wire_streams.proofs.misc.varlen.size_of.Goals as goal

pub returns : goal.returns
returns c =
    let (bits, all, above, below) = leading_length 64 c.args.value (omega arith) in
    IsVarlenSize-from_bits c.args.value bits c.clamp.result above below
    (omega (arith, all, c.div_ceil.ensures, c.clamp.ensures))

use Rattle.std.proofs.Common.{ap, ◌∙◌, arith}
use Rattle.std.proofs.lemmas.List.{take_rest}
use Rattle.byteorder.specs.Endian.{little_from}
use Rattle.wire_streams.proofs.VarlenLemmas.{IsVarlenUint-marked, IsVarlenUint-marked_nine}
use Rattle.wire_streams.proofs.misc.varlen.value_of.Goals as goal

pub returns-then-size-eq9 : goal.returns-then-size-eq9
returns-then-size-eq9 c =
    let bytes = c.args.spelling.now in
    IsVarlenUint-marked_nine bytes _ (λ i. (c.type_inv.spelling i).fits) c.if-size-eq9.true
    c.requires.marked (c.read_u64.ensures ∙ ap (little_from 0 8) (take_rest bytes 1))

pub returns-else-size-eq9 : goal.returns-else-size-eq9
returns-else-size-eq9 c =
    IsVarlenUint-marked c.args.spelling.now _ (omega (arith, c.requires.high, c.if-size-eq9.false))
    c.requires.marked c.read_uint.ensures

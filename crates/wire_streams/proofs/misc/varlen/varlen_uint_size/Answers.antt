use Rattle.std.proofs.Common.{sym, arith}
use Rattle.wire_streams.specs.Varlen.{varlen_bytes}
use Rattle.wire_streams.proofs.VarlenLemmas.{varlen_bytes-shortest}
use Rattle.wire_streams.proofs.misc.varlen.varlen_uint_size.Goals as goal

pub returns : goal.returns
returns c =
    let size = c.size_of.result in
    let (shortest, len) = varlen_bytes-shortest size c.args.value (omega arith) c.size_of.ensures in
    (varlen_bytes size c.args.value, shortest, sym len)

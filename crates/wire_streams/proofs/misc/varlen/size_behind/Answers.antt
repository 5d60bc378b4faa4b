use Rattle.std.proofs.Common.{◌+◌, ap, arith}
use Rattle.wire_streams.proofs.MarkLemmas.{IsMark-trailing_ones}
use Rattle.wire_streams.proofs.misc.varlen.size_behind.Goals as goal

pub returns-clause-mark : goal.returns-clause-mark
returns-clause-mark c =
    (IsMark-trailing_ones c.args.first (c.trailing_ones.result + 1) (omega arith)
    (ap (λ n. n + 1) c.trailing_ones.ensures)).2

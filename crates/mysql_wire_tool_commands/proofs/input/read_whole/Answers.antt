use Rattle.mysql_wire_tool_commands.proofs.ReadLemmas.{none_on, none_if}
use Rattle.std.proofs.Common.{◌++◌, ◌∙◌, ℕ, List, ap}
use Rattle.std.proofs.KnownBytes.{Consumes-trans, Consumes-nil}
use Rattle.mysql_wire_tool_commands.proofs.input.read_whole.Goals as goal

pub reads-preserved : goal.reads-preserved
reads-preserved g c =
    let came = c.in_ok-read_from.ensures.ok in
    rw (came.2 ∙ ap (λ (z : List ℕ). z ++ came.0) c.reserve.ensures.items)
    (Consumes-trans _ _ _ c.reads.whole.items came.0 c.reads.invariant came.3)

pub returns-in_err-reserve-clause-bytes : goal.returns-in_err-reserve-clause-bytes
returns-in_err-reserve-clause-bytes g c = none_if c.from_residual.result _ c.from_residual.ensures.0

pub returns-in_err-reserve-clause-end : goal.returns-in_err-reserve-clause-end
returns-in_err-reserve-clause-end g c = none_on c.from_residual.result _ c.from_residual.ensures.0

pub returns-in_err-read_from-clause-bytes : goal.returns-in_err-read_from-clause-bytes
returns-in_err-read_from-clause-bytes g c =
    none_if c.from_residual-in_err-read_from.result _ c.from_residual-in_err-read_from.ensures.0

pub returns-in_err-read_from-clause-end : goal.returns-in_err-read_from-clause-end
returns-in_err-read_from-clause-end g c =
    none_on c.from_residual-in_err-read_from.result _ c.from_residual-in_err-read_from.ensures.0

pub returns-clause-bytes : goal.returns-clause-bytes
returns-clause-bytes g c = tt

pub returns-clause-end : goal.returns-clause-end
returns-clause-end g c = tt

pub reads-init : goal.reads-init
reads-init g c = rw c.new-whole.ensures.items (Consumes-nil _)

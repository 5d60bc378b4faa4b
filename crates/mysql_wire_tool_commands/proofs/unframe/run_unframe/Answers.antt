use Rattle.std.proofs.Common.{ℕ, List, [], sym}
use Rattle.wire_codec.specs.Laws.{empty_state}
use Rattle.wire_codec.specs.Limited.{Limits}
use Rattle.wire_codec.specs.LimitedRuns.{WaitsUnder, run_limits}
use Rattle.wire_codec.specs.Runs.{WaitsFrom}
use Rattle.mysql_wire_tool_commands.proofs.ReadLemmas.{asked_step, while_alike}
use Rattle.mysql_wire_tool_commands.proofs.UnframeLemmas.{one_limit, unframe_alike, waits_alike}
use Rattle.mysql_wire_tool_commands.proofs.unframe.run_unframe.Goals as goal

pub returns-clause-ended : goal.returns-clause-ended
returns-clause-ended g c =
    let ended = unframe_alike c.equal_limits.ensures c.nothing_read.ensures c.args.limit c.unframe.result _ _ _ _ c.unframe.ensures.ended in
    rw (sym c.exit_status.ensures) at ended

pub returns-clause-asked : goal.returns-clause-asked
returns-clause-asked g c = asked_step c.args.step _ _ c.unframe.ensures.reads.0

pub returns-clause-stops : goal.returns-clause-stops
returns-clause-stops g c =
    let limits : Limits = run_limits (empty_state 0 c.args.limit) [] in
    while_alike (λ (front : List ℕ). WaitsUnder limits 0 front []) (λ (front : List ℕ). WaitsFrom 0 front [] c.args.limit) _ _ _
    (waits_alike c.equal_limits.ensures c.nothing_read.ensures c.args.limit) (c.unframe.ensures.reads.1 limits (one_limit c.args.limit))

use Rattle.std.proofs.Common.{refl, sym}
use Rattle.mysql_wire_tool_commands.specs.Unframe.{place_limits}
use Rattle.mysql_wire_tool_commands.proofs.UnframeLemmas.{unframe_limited}
use Rattle.mysql_wire_tool_commands.proofs.unframe.run_unframe_limited.Goals as goal

pub returns-clause-ended : goal.returns-clause-ended
returns-clause-ended g c =
    let ended = unframe_limited c.args.limit c.args.later c.args.at c.unframe.result _ _ _ _ c.unframe.ensures.ended in
    rw (sym c.exit_status.ensures) at ended

pub returns-clause-asked : goal.returns-clause-asked
returns-clause-asked g c = c.unframe.ensures.reads.0

pub returns-clause-stops : goal.returns-clause-stops
returns-clause-stops g c = c.unframe.ensures.reads.1 (place_limits c.args.limit c.args.later c.args.at) (λ place. refl)

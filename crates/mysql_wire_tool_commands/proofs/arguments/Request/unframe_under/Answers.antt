use Rattle.std.proofs.Common.{ℕ, ap}
use Rattle.mysql_wire_tool_commands.proofs.ArgumentLemmas.{two_asked, two_refused}
use Rattle.mysql_wire_tool_commands.proofs.arguments.Request.unframe_under.Goals as goal

pub returns : goal.returns
returns c =
    let known = c.in_ok-step.ensures in
    two_asked c.args.step.now c.args.limit.now _ _ known.0.0 known.0.1 (ap (λ (p : ℕ × ℕ). p.0) known.1) (ap (λ (p : ℕ × ℕ). p.1) known.1)

pub returns-in_err-step : goal.returns-in_err-step
returns-in_err-step c = rw c.from_residual.ensures (two_refused c.args.step.now c.args.limit.now c.in_err-step.ensures)

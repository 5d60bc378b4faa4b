use Rattle.std.proofs.Common.{ℕ, ap}
use Rattle.mysql_wire_tool_commands.proofs.ArgumentLemmas.{four_asked, four_refused}
use Rattle.mysql_wire_tool_commands.proofs.arguments.Request.unframe_limited.Goals as goal

pub returns : goal.returns
returns c =
    let first = c.in_ok-step.ensures in
    let second = c.in_ok-later.ensures in
    four_asked c.args.step.now c.args.limit.now c.args.later.now c.args.at.now _ _ _ _ first.0.0 first.0.1 second.0.0 second.0.1
    (ap (λ (p : ℕ × ℕ). p.0) first.1) (ap (λ (p : ℕ × ℕ). p.1) first.1) (ap (λ (p : ℕ × ℕ). p.0) second.1) (ap (λ (p : ℕ × ℕ). p.1) second.1)

pub returns-in_err-step : goal.returns-in_err-step
returns-in_err-step c =
    rw c.from_residual.ensures (four_refused c.args.step.now c.args.limit.now c.args.later.now c.args.at.now (λ fit. c.in_err-step.ensures (fit.0, fit.1)))

pub returns-in_err-later : goal.returns-in_err-later
returns-in_err-later c =
    rw c.from_residual-in_err-later.ensures (four_refused c.args.step.now c.args.limit.now c.args.later.now c.args.at.now (λ fit. c.in_err-later.ensures (fit.2, fit.3)))

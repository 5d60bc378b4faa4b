use Rattle.mysql_wire_examples.proofs.RelayedLemmas.{err_on_ok}
use Rattle.mysql_wire_examples.proofs.both_ends.pass_noted.Goals as goal

pub returns-in_err-pass : goal.returns-in_err-pass
returns-in_err-pass g c =
    let answer = c.from_residual.result in
    let is = c.from_residual.ensures.0 in
    record { handed = err_on_ok answer _ is; in_step = err_on_ok answer _ is; counted = err_on_ok answer _ is; noted = err_on_ok answer _ is }

pub returns-in_err-push : goal.returns-in_err-push
returns-in_err-push g c =
    let answer = c.from_residual-in_err-push.result in
    let is = c.from_residual-in_err-push.ensures.0 in
    record { handed = err_on_ok answer _ is; in_step = err_on_ok answer _ is; counted = err_on_ok answer _ is; noted = err_on_ok answer _ is }

pub returns-clause-handed : goal.returns-clause-handed
returns-clause-handed g c = c.in_ok-pass.ensures.handed

pub returns-clause-in_step : goal.returns-clause-in_step
returns-clause-in_step g c = c.in_ok-pass.ensures.in_step

pub returns-clause-counted : goal.returns-clause-counted
returns-clause-counted g c = c.in_ok-pass.ensures.counted

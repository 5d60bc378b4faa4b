use Rattle.std.proofs.Common.{rules, ℕ, List, ◌++◌, drop}
use Rattle.mysql_wire.specs.Runs.{joined}
use Rattle.mysql_wire_examples.proofs.TallyLemmas.{tally_packets}
use Rattle.mysql_wire_examples.proofs.RelayedLemmas.{err_if_ok}
use Rattle.mysql_wire_examples.proofs.in_place.count_packets.Goals as goal

pub returns : goal.returns
returns g c =
    let call = c.deliver_each-result in
    let runs = call.ensures.runs in
    let left : List ℕ = call.new.src.items ++ joined (drop call.result.0 c.args.answer.now) in
    (runs.0, tally_packets runs.0 call.new.visitor runs.1, (call.new.dst.items, left, search rules))

pub returns-in_err-result : goal.returns-in_err-result
returns-in_err-result g c = err_if_ok c.from_residual.result _ c.from_residual.ensures.0

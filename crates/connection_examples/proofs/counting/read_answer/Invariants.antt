use Rattle.mysql_wire_session.specs.State.{state_of}
use Rattle.connection_examples.specs.Answers.{CountsRows}
use Rattle.connection_examples.proofs.counting.read_answer.Given as goal

abbrev pub invariant-packets : goal.invariant-packets
invariant-packets g l = CountsRows l.rows (state_of l.fn.session) (state_of l.session)

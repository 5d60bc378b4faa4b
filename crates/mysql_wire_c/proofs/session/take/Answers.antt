use Rattle.mysql_wire_c.proofs.SessionLemmas.{taken_past}
use Rattle.mysql_wire_session.specs.State.{state_of}
use Rattle.mysql_wire_c.proofs.session.take.Goals as goal

pub returns-in-Ok-clause-takes : goal.returns-in-Ok-clause-takes
returns-in-Ok-clause-takes c =
    taken_past c.args.side c.args.id c.args.payload.now (state_of c.args.session.now) (state_of c.advance_past-taken.new.session) c.in-Ok.received c.advance_past-taken.result
    c.in-Ok.ensures.receives c.advance_past-taken.ensures.taken c.advance_past-taken.ensures.goes

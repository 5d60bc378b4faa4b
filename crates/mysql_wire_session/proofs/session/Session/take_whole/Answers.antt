use Rattle.mysql_wire_session.proofs.FrontLemmas.{refused_after, taken_whole}
use Rattle.mysql_wire_session.specs.State.{state_of}
use Rattle.mysql_wire_session.proofs.session.Session.take_whole.Goals as goal

pub returns-in-Ok-clause-takes : goal.returns-in-Ok-clause-takes
returns-in-Ok-clause-takes g c =
    taken_whole c.args.side c.args.id c.args.payload.now (state_of c.args.self.now) (state_of c.advance_past-taken.new.self) c.in-Ok.received c.advance_past-taken.result
    c.in-Ok.ensures.receives c.advance_past-taken.ensures.kind c.advance_past-taken.ensures.goes

pub returns-in-Ok-clause-fails : goal.returns-in-Ok-clause-fails
returns-in-Ok-clause-fails g c =
    refused_after c.args.side c.args.id c.args.payload.now (state_of c.args.self.now) c.in-Ok.received c.advance_past-taken.result
    c.in-Ok.ensures.receives c.advance_past-taken.ensures.fails

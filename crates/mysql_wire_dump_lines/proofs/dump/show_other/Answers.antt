use Rattle.mysql_wire_dump_lines.proofs.ReadLemmas.{came_and_shown}
use Rattle.mysql_wire_session.specs.State.{state_of}
use Rattle.mysql_wire_dump_lines.proofs.dump.show_other.Goals as goal

pub returns-in-Ok : goal.returns-in-Ok
returns-in-Ok g c =
    came_and_shown c.args.came.0 c.args.came.1 c.args.payload.now (state_of c.args.session.now) (state_of c.show_received-told.new.session) c.in-Ok.received
    c.args.fields.now c.show_received-told.new.fields c.show_received-told.result c.in-Ok.ensures.receives c.show_received-told.ensures.puts c.show_received-told.ensures.goes

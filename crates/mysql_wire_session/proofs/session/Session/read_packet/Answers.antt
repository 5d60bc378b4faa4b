use Rattle.mysql_wire_session.proofs.OpeningLemmas.{gives_opened}
use Rattle.mysql_wire_session.specs.State.{state_of}
use Rattle.mysql_wire_session.proofs.session.Session.read_packet.Goals as goal

pub returns-in-Ok : goal.returns-in-Ok
returns-in-Ok g c = rw c.in-Ok.is (rw c.of.ensures at c.read_as-in-Ok.ensures)

pub returns-in-Error : goal.returns-in-Error
returns-in-Error g c = rw c.in-Error.is (rw c.error_capabilities-capabilities.ensures at c.read_as-in-Error.ensures)

pub returns-in_default : goal.returns-in_default
returns-in_default g c =
    gives_opened c.args.kind c.args.opened (state_of c.args.self.now) c.args.payload.now c.read_command.result c.in_default.not-Error c.in_default.not-Eof c.in_default.not-Column
    c.read_command.ensures

use Rattle.mysql_wire_dump_lines.proofs.ReadLemmas.{row_shown}
use Rattle.mysql_wire_session.specs.State.{state_of}
use Rattle.mysql_wire_dump_lines.proofs.dump.read_and_show.Goals as goal

pub returns-in-Row : goal.returns-in-Row
returns-in-Row g c called =
    row_shown c.args.came.0 c.args.came.1 c.args.payload.now c.args.came.2 (state_of c.args.session.now) (state_of c.show_row_of.new.session) c.args.fields.now c.show_row_of.new.fields
    c.show_row_of.result called c.in-Row.is c.show_row_of.ensures

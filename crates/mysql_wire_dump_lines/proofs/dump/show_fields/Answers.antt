use Rattle.mysql_wire_dump_lines.proofs.ReadLemmas.{fields_shown}
use Rattle.mysql_wire_session.specs.State.{state_of}
use Rattle.mysql_wire_dump_lines.proofs.dump.show_fields.Goals as goal

pub returns : goal.returns
returns g c called =
    fields_shown c.args.came.0 c.args.came.1 c.args.payload.now (state_of c.args.session.now) (state_of c.read_and_show.new.session) c.in_ok-kind.kind c.args.fields.now
    c.read_and_show.new.fields c.end.new.self (c.in_ok-kind.ensures called) c.in_ok-end.ensures

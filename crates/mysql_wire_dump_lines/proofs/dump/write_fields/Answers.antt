use Rattle.mysql_wire_dump_lines.proofs.ReadLemmas.{fields_part}
use Rattle.mysql_wire_session.specs.State.{state_of}
use Rattle.mysql_wire_dump_lines.proofs.dump.write_fields.Goals as goal

pub returns : goal.returns
returns g c called =
    fields_part c.args.came.0 c.args.came.1 c.args.payload.now c.args.came.2 (state_of c.args.session.now) (state_of c.write_row_of.new.session) c.in_ok-kind.kind c.args.fields.now
    c.write_row_of.new.fields c.end.new.self (g.W.Write.contents c.args.output.now) (g.W.Write.contents c.write_row_of.new.output) called c.requires c.in_ok-kind.ensures c.in_ok-end.ensures

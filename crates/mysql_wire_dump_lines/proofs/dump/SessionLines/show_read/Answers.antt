use Rattle.mysql_wire_dump_lines.proofs.LineLemmas.{read_unwritten}
use Rattle.mysql_wire_dump_lines.proofs.dump.SessionLines.show_read.Goals as goal

pub returns-else-payload-ge-WRITE_SIZE : goal.returns-else-payload-ge-WRITE_SIZE
returns-else-payload-ge-WRITE_SIZE g c =
    read_unwritten c.push_read.result c.args.side c.args.id c.args.len c.args.payload.now c.args.self.now c.push_read.new.self (g.W.Write.contents c.args.output.now) c.push_read.ensures

use Rattle.wire_text.proofs.FieldLemmas.{puts_then}
use Rattle.mysql_wire_dump_lines.proofs.show.commands.ComStmtExecuteShow.show.Goals as goal

pub returns : goal.returns
returns g c =
    puts_then c.in_ok-put_all.ensures c.in_ok-params.ensures

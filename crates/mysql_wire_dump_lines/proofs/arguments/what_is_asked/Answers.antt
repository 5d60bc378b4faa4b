use Rattle.mysql_wire_dump_lines.specs.Arguments.{Help, Dump, session_of}
use Rattle.mysql_wire_dump_lines.proofs.ArgumentLemmas.{is_asked, nothing_asked}
use Rattle.mysql_wire_dump_lines.proofs.arguments.what_is_asked.Goals as goal

pub returns-then-is_help : goal.returns-then-is_help
returns-then-is_help g c = is_asked _ Help c.if-is_help.ensures

pub returns-in_err-of : goal.returns-in_err-of
returns-in_err-of g c = rw c.from_residual.ensures (nothing_asked _ c.if-is_help.ensures c.in_err-of.ensures)

pub returns : goal.returns
returns g c = is_asked _ (Dump (session_of c.in_ok-of.field-0)) c.in_ok-of.ensures

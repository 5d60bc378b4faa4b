use Rattle.mysql_wire_dump_lines.proofs.ArgumentLemmas.{no_limit}
use Rattle.mysql_wire_dump_lines.proofs.arguments.Request.with_limit.Goals as goal

pub returns-in_err-number : goal.returns-in_err-number
returns-in_err-number c = rw c.from_residual.ensures (no_limit c.args.word.now c.args.self c.in_err-number.ensures)

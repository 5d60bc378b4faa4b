use Rattle.std.proofs.Common.{sym, ◌∙◌}
use Rattle.mysql_wire_dump.proofs.FileLemmas.{gives_up}
use Rattle.mysql_wire_dump.proofs.files.dump_files.Goals as goal

pub returns-in_err-client : goal.returns-in_err-client
returns-in_err-client g c some = gives_up c.args.request c.in-Some.sides _ _ c.from_residual.result (sym c.sides.ensures ∙ c.in-Some.is) c.from_residual.ensures.0

pub returns-in_err-server : goal.returns-in_err-server
returns-in_err-server g c some = gives_up c.args.request c.in-Some.sides _ _ c.from_residual-in_err-server.result (sym c.sides.ensures ∙ c.in-Some.is) c.from_residual-in_err-server.ensures.0

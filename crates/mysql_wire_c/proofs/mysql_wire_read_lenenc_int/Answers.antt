use Rattle.std.proofs.Common.{rules}
use Rattle.mysql_wire_c.proofs.mysql_wire_read_lenenc_int.Goals as goal

pub returns-clause-missing : goal.returns-clause-missing
returns-clause-missing c missing = c.read_lenenc_int.ensures.missing (search rules)

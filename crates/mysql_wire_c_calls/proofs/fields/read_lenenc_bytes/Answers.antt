use Rattle.std.proofs.Common.{rules, inl}
use Rattle.mysql_wire_c_calls.proofs.fields.read_lenenc_bytes.Goals as goal

pub returns-then-code-ne-OK-clause-missing : goal.returns-then-code-ne-OK-clause-missing
returns-then-code-ne-OK-clause-missing c missing =
    inl (c.read_lenenc_int-code.ensures.missing (search rules))

use Rattle.std.proofs.Common.{rules}
use Rattle.wire_ext.proofs.put.BufMutExt.put_u24_le.Goals as goal

pub returns-in_err-put_uint_le-clause-spare : goal.returns-in_err-put_uint_le-clause-spare
returns-in_err-put_uint_le-clause-spare g c = search rules

pub returns-clause-ok : goal.returns-clause-ok
returns-clause-ok g c = search rules

pub returns-clause-spare : goal.returns-clause-spare
returns-clause-spare g c = search rules

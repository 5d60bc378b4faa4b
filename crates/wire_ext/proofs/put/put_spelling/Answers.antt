use Rattle.std.proofs.Common.{rules}
use Rattle.wire_ext.proofs.put.put_spelling.Goals as goal

pub returns-then-n-lt251-clause-ok : goal.returns-then-n-lt251-clause-ok
returns-then-n-lt251-clause-ok g c = search rules

pub returns-then-n-lt251-clause-spare : goal.returns-then-n-lt251-clause-spare
returns-then-n-lt251-clause-spare g c = search rules

pub returns-then-n-lt65536-clause-ok : goal.returns-then-n-lt65536-clause-ok
returns-then-n-lt65536-clause-ok g c = search rules

pub returns-then-n-lt65536-clause-spare : goal.returns-then-n-lt65536-clause-spare
returns-then-n-lt65536-clause-spare g c = search rules

pub returns-then-n-lt16777216-clause-ok : goal.returns-then-n-lt16777216-clause-ok
returns-then-n-lt16777216-clause-ok g c = search rules

pub returns-then-n-lt16777216-clause-spare : goal.returns-then-n-lt16777216-clause-spare
returns-then-n-lt16777216-clause-spare g c = search rules

use Rattle.std.proofs.Common.{rules}
use Rattle.wire_const.proofs.column_type.ColumnTypeTryFromU8.try_from.Goals as goal

pub returns-in_default : goal.returns-in_default
returns-in_default c = search rules

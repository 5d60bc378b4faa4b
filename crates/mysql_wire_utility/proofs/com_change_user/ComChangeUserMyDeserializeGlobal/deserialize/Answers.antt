use Rattle.std.proofs.Common.{sym}
use Rattle.mysql_wire_utility.proofs.com_change_user.ComChangeUserMyDeserializeGlobal.deserialize.Goals as goal

pub returns-in-Ok : goal.returns-in-Ok
returns-in-Ok c = rw (
  c.under-name.ensures,
  c.under-attrs.ensures,
  c.bits-bits.ensures,
  sym c.of_fields.ensures,
) at c.in-Ok.ensures

pub returns-in-Err : goal.returns-in-Err
returns-in-Err c = rw (
  c.under-name.ensures,
  c.under-attrs.ensures,
  c.bits-bits.ensures,
) at c.in-Err.ensures

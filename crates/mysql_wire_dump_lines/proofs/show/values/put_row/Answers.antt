use Rattle.std.proofs.Common.{inr, refl}
use Rattle.mysql_wire_dump_lines.proofs.show.values.put_row.Goals as goal

pub returns : goal.returns
returns g c =
    inr (c.if-types-columns.false, (refl, c.in_ok-show.ensures))

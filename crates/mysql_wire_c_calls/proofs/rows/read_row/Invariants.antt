use Rattle.std.proofs.Common.{◌-◌, ◌≤◌, length, take}
use Rattle.mysql_wire_c_calls.specs.Rows.{ReadsRow}
use Rattle.mysql_wire_c_calls.proofs.rows.read_row.Given as goal

abbrev pub invariant-texts : goal.invariant-texts
invariant-texts l = record {
  room : l.count ≤ length l.texts;
  so_far : ReadsRow l.fn.bytes l.fn.at (take l.count l.texts) l.end;
}

abbrev pub decreases-texts : goal.decreases-texts
decreases-texts l = length l.texts - l.count

use Rattle.mysql_wire_dump_lines.proofs.ReadLemmas.{row_part}
use Rattle.mysql_wire_session.specs.State.{state_of}
use Rattle.mysql_wire_dump_lines.proofs.dump.write_row_of.Goals as goal

pub returns-in-Ok-write_row : goal.returns-in-Ok-write_row
returns-in-Ok-write_row g c =
    row_part {known = state_of c.args.session.now} c.in-Ok.row c.in-Ok.ensures (rw c.column_types-types.ensures at c.in-Ok-write_row.ensures) c.advance_by_kind.ensures

use Rattle.std.proofs.Common.{refl, []}
use Rattle.mysql_wire_statements.proofs.laws.row_comes_back.Goals as goal

pub returns : goal.returns
returns c = λ nulls values count at. c.parse_back.ensures.back
    (record {
      nulls = record { 0 = record { ref_ptr = (0, 0); now = nulls } };
      values = record { ref_ptr = (0, 0); now = values };
    }) [] tt (count, refl) at

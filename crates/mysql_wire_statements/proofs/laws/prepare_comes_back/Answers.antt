use Rattle.std.proofs.Common.{refl, []}
use Rattle.mysql_wire_statements.proofs.laws.prepare_comes_back.Goals as goal

pub returns : goal.returns
returns c = λ query at. c.parse_back.ensures.back (record { query = record { ref_ptr = (0, 0); now = query } }) [] tt refl at

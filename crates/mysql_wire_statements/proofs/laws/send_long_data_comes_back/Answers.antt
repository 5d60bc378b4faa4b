use Rattle.std.proofs.Common.{refl, []}
use Rattle.mysql_wire_statements.proofs.laws.send_long_data_comes_back.Goals as goal

pub returns : goal.returns
returns c = λ id param part is_id is_param at. c.parse_back.ensures.back (record { statement_id = id; param_id = param; «data» = record { ref_ptr = (0, 0); now = part } }) [] (is_id, is_param) refl at

use Rattle.mysql_wire_statements.proofs.laws.value_comes_back.Goals as goal

pub returns : goal.returns
returns c = λ value is same rest at. c.parse_back.ensures.back value rest is same at

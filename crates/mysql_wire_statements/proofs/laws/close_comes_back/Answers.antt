use Rattle.mysql_wire_statements.proofs.laws.close_comes_back.Goals as goal

pub returns : goal.returns
returns c = λ id is_id rest at. c.parse_back.ensures.back (record { statement_id = id }) rest is_id tt at

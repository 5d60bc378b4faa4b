use Rattle.mysql_wire_statements.proofs.laws.fetch_comes_back.Goals as goal

pub returns : goal.returns
returns c = λ id rows is_id is_rows rest at. c.parse_back.ensures.back (record { statement_id = id; num_rows = rows }) rest (is_id, is_rows) tt at

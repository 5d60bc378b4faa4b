use Rattle.mysql_wire_statements.proofs.laws.value_is_written_back.Goals as goal

pub returns : goal.returns
returns c = c.is_written_back.ensures.again

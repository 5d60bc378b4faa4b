use Rattle.mysql_wire_statements.proofs.com_stmt_prepare_ok.ComStmtPrepareOkMyDeserialize.deserialize.Goals as goal

pub returns-in-Ok : goal.returns-in-Ok
returns-in-Ok g c = c.in-Ok.ensures

pub returns-in-Err : goal.returns-in-Err
returns-in-Err g c = c.in-Err.ensures

use Rattle.mysql_wire_statements.proofs.com_stmt_execute.ComStmtExecuteMyDeserialize.deserialize.Goals as goal

pub returns-in-Err : goal.returns-in-Err
returns-in-Err g c = rw c.params_ctx-params.ensures at c.in-Err.ensures

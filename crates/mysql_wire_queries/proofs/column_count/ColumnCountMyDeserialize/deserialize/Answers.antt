use Rattle.mysql_wire_queries.proofs.column_count.ColumnCountMyDeserialize.deserialize.Goals as goal

pub returns-in-Err : goal.returns-in-Err
returns-in-Err g c = rw (c.under-follows.ensures, c.bits.ensures, c.cached_under.ensures) at c.in-Err.ensures

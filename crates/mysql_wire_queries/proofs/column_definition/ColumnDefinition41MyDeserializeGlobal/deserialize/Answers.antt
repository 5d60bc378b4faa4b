use Rattle.std.proofs.Common.{sym}
use Rattle.mysql_wire_queries.proofs.column_definition.ColumnDefinition41MyDeserializeGlobal.deserialize.Goals as goal

pub returns-in-Ok : goal.returns-in-Ok
returns-in-Ok c =
    rw (c.metadata_under-metadata.ensures, sym c.of_fields.ensures) at c.in-Ok.ensures

pub returns-in-Err : goal.returns-in-Err
returns-in-Err c = rw c.metadata_under-metadata.ensures at c.in-Err.ensures

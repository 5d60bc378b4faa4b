use Rattle.std.proofs.Common.{sym}
use Rattle.mysql_wire_connection.proofs.ssl_request.SslRequestMyDeserialize.deserialize.Goals as goal

pub returns-in-Ok : goal.returns-in-Ok
returns-in-Ok g c = rw (sym c.of_fields.ensures) at c.in-Ok.ensures

use Rattle.mysql_wire_connection.proofs.handshake_response.HandshakeResponse41MySerialize.serialize.Goals as goal

pub returns-clause-ok : goal.returns-clause-ok
returns-clause-ok g c = rw c.field_of_byte-level.ensures at c.serialize.ensures.ok

use Rattle.std.proofs.Common.{sym, refl, inr, ◌+◌}
use Rattle.mysql_wire_parts.specs.Then.{both_eaten}
use Rattle.mysql_wire_connection.proofs.handshake_response.HandshakeResponse41MyDeserializeGlobal.deserialize.Goals as goal

pub returns-in-Ok-deserialize : goal.returns-in-Ok-deserialize
returns-in-Ok-deserialize c =
    let client_is = sym c.of_fields.ensures.client in
    let (taken, there, left, read) = rw client_is at c.in-Ok.ensures in
    let (after, more, end, next) = rw (
      c.under-answer.ensures,
      c.under-database.ensures,
      c.under-plugin.ensures,
      c.under-attrs.ensures,
      c.under-level.ensures,
      client_is,
      sym c.of_fields.ensures.answer,
    ) at c.in-Ok-deserialize.ensures in
    let eaten = both_eaten _ _ _ taken after there left more end in
    (taken + after, eaten.0, eaten.1, (taken, after, there, read, rw left at next, refl))

pub returns-in-Ok : goal.returns-in-Ok
returns-in-Ok c =
    let (taken, there, left, read) = c.in-Ok.ensures in
    let (after, more, end, next) = rw (
      c.under-answer.ensures,
      c.under-database.ensures,
      c.under-plugin.ensures,
      c.under-attrs.ensures,
      c.under-level.ensures,
    ) at c.in-Err-deserialize.ensures in
    let eaten = both_eaten _ _ _ taken after there left more end in (
      taken + after,
      eaten.0,
      eaten.1,
      inr (c.in-Ok.client, taken, after, there, read, rw left at next, refl),
    )

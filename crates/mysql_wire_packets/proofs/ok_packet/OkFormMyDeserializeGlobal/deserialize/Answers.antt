use Rattle.std.proofs.Common.{sym, refl, inr, ◌+◌}
use Rattle.mysql_wire_parts.specs.Then.{both_eaten}
use Rattle.mysql_wire_packets.proofs.ok_packet.OkFormMyDeserializeGlobal.deserialize.Goals as goal

pub returns-in-Ok-parse : goal.returns-in-Ok-parse
returns-in-Ok-parse g c =
    let counts_is = sym c.of_fields.ensures.counts in
    let (taken, there, left, read) = rw counts_is at c.in-Ok.ensures in
    let (after, more, end, next) =
    rw (c.context-ctx.ensures, counts_is, sym c.of_fields.ensures.words) at c.in-Ok-parse.ensures in
    let eaten = both_eaten _ _ _ taken after there left more end in
    (taken + after, eaten.0, eaten.1, (taken, after, there, read, rw left at next, refl))

pub returns-in-Err-parse : goal.returns-in-Err-parse
returns-in-Err-parse g c =
    let (taken, there, left, read) = c.in-Ok.ensures in
    let (after, more, end, next) = rw c.context-ctx.ensures at c.in-Err-parse.ensures in
    let eaten = both_eaten _ _ _ taken after there left more end in (
      taken + after,
      eaten.0,
      eaten.1,
      inr (c.in-Ok.counts, taken, after, there, read, rw left at next, refl),
    )

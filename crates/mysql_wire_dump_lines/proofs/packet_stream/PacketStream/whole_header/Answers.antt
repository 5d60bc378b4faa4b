use Rattle.std.proofs.Common.{rules, arith, refl}
use Rattle.wire_codec.specs.Framing.{max_payload_is}
use Rattle.mysql_wire_dump_lines.proofs.packet_stream.PacketStream.whole_header.Goals as goal

pub returns-then-header-len : goal.returns-then-header-len
returns-then-header-len g c =
    let said = rw c.as_slice.ensures at c.in_ok-header.ensures in
    let whole = said.there.0 refl in
    record {
      short = search (rules, max_payload_is);
      there = omega (arith, c.if-header-len.true, c.len.ensures.value, whole);
      spelled = rw (said.len, said.id) (said.spelled whole);
    }

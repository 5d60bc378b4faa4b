use Rattle.wire_packet_io.proofs.LendingLemmas.{front_decodes, front_ready, lent_ready, lost_unready}
use Rattle.wire_packet_io.proofs.reader.PacketReader.is_ready.Goals as goal

pub returns-then-self-clause-ready : goal.returns-then-self-clause-ready
returns-then-self-clause-ready g c = rw (← c.self.view_is) (lost_unready c.self.inside.input.lost _ c.if-self.true)

pub returns-in-Some-clause-ready : goal.returns-in-Some-clause-ready
returns-in-Some-clause-ready g c =
    let now = c.self.inside in
    rw (← c.self.view_is) (lent_ready now.lent c.in-Some.field-0 now.input.src.items now.input.lost _ c.in-Some.is c.if-self.false)

pub returns-in-None-clause-ready : goal.returns-in-None-clause-ready
returns-in-None-clause-ready g c =
    let now = c.self.inside in
    rw (← c.self.view_is)
    (front_ready now.lent c.front_packet.result c.is_some.result now.input.lost c.args.codec.now now.input.src.items now.input.dst.items c.as_slice.result.now
    c.in-None.is c.if-self.false c.is_some.ensures c.as_slice.ensures.value c.front_packet.ensures.there)

pub returns-in-None-clause-decodes : goal.returns-in-None-clause-decodes
returns-in-None-clause-decodes g c t none =
    let now = c.self.inside in
    rw (← c.self.view_is)
    (front_decodes now.lent c.front_packet.result c.is_some.result c.args.codec.now now.input.src.items now.input.dst.items c.as_slice.result.now
    c.in-None.is c.is_some.ensures c.as_slice.ensures.value c.front_packet.ensures.decodes t)

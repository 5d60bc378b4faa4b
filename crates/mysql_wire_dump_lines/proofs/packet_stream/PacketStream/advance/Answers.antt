use Rattle.std.proofs.Common.{ap, refl, rules, subst}
use Rattle.wire_span.specs.Spans.{span_state}
use Rattle.mysql_wire_dump_lines.specs.declared.packet_stream.Next.{Next}
use Rattle.mysql_wire_dump_lines.specs.PacketStreams.{StandsNext, collected}
use Rattle.mysql_wire_dump_lines.proofs.PacketStreamLemmas.{passed}
use Rattle.mysql_wire_dump_lines.proofs.packet_stream.PacketStream.advance.Goals as goal

pub returns-clause-passes : goal.returns-clause-passes
returns-clause-passes g c packets came id is stands =
    let next = subst (λ (n : Next). StandsNext n stands.begun (collected c.args.self.now)) is stands.next in (
      next.0,
      next.1,
      passed c.args.self.now _ packets came id next.0 stands next.1 c.drop_lent.ensures.unread c.drop_lent.ensures.none (search rules) refl refl c.clear.ensures.items
          (ap (λ s. span_state s.decoder) c.drop_lent.ensures.rest) (ap (λ s. s.decoder.max_allowed_packet) c.drop_lent.ensures.rest) refl,
    )

use Rattle.std.proofs.Common.{◌≡◌, ◌+◌, ◌-◌, ◌≤◌, ℕ, List, length, ap, refl, rules, subst}
use Rattle.wire_span.specs.Spans.{span_state}
use Rattle.mysql_wire_dump_lines.specs.PacketStreams.{Collected, Steps, collecting}
use Rattle.mysql_wire_dump_lines.proofs.PacketStreamLemmas.{took}
use Rattle.mysql_wire_dump_lines.proofs.packet_stream.PacketStream.take_read.Goals as goal

pub returns : goal.returns
returns g c =
    let old = c.args.self.now in
    let piece : List ℕ = c.as_slice-piece.result.now in
    let left : List ℕ = c.take_span.new.piece.now in
    let piece_is : piece ≡ old.src.items = c.as_slice-piece.ensures in
    let after : Collected =
    record { state = span_state c.take_span.new.decoder; len = c.take_span.new.len; limit = old.limit; held = c.take_span.new.held.items; unread = left } in
    let count : ℕ = length piece - length left in
    let steps = subst (λ (z : List ℕ). Steps c.in_ok-step.step (record (collecting old) { unread = z }) after) piece_is c.in_ok-step.ensures.steps in
    let shorter = subst (λ (z : List ℕ). length left ≤ length z) piece_is c.in_ok-step.ensures.kept.1 in
    let taken : c.in-Some.taken ≡ old.taken + count = search rules in
    record {
      eats = took c.in_ok-step.step (collecting old) after c.advance.new.self.items count old.taken c.in-Some.taken steps shorter
          (ap (λ (z : List ℕ). length z - length left) piece_is) c.advance.ensures.items taken;
      most_is = c.in_ok-step.ensures.kept.0;
      at = refl;
      limit = refl;
      next = refl;
      lent = refl;
    }

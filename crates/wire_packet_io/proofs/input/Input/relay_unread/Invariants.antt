use Rattle.std.proofs.Common.{◌≡◌, ◌+◌, ◌≤◌, [], length, false}
use Rattle.wire_span.specs.Spans.{header_came, span_state}
use Rattle.wire_span.specs.Passing.{most_bytes}
use Rattle.wire_packet_io.specs.Relaying.{Relays}
use Rattle.wire_packet_io.proofs.input.Input.relay_unread.Given as goal

abbrev pub invariant-steps : goal.invariant-steps
invariant-steps g l = record {
  uncut : header_came (span_state l.decoder).place ≡ [];
  limit : l.decoder.max_allowed_packet ≡ l.fn.decoder.max_allowed_packet;
  rest : l.self ≡ record l.fn.self { src = l.self.src };
  writer : l.writer.writer ≡ l.fn.writer.writer;
  fewer : most_bytes (span_state l.decoder) + length l.fn.self.src.items ≤ most_bytes (span_state l.fn.decoder) + length l.self.src.items;
  goes : Relays false (span_state l.fn.decoder) l.fn.next_id l.fn.self.src.items l.fn.writer.pending
      (span_state l.decoder) l.next_id l.self.src.items l.writer.pending;
}

abbrev pub decreases-steps : goal.decreases-steps
decreases-steps g l = length l.self.src.items

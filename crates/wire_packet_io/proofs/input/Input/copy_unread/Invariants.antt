use Rattle.std.proofs.Common.{◌≡◌, ◌+◌, ◌≤◌, [], length, false}
use Rattle.wire_span.specs.Spans.{header_came, span_state}
use Rattle.wire_span.specs.Passing.{most_bytes}
use Rattle.wire_packet_io.specs.Copying.{Copies}
use Rattle.wire_packet_io.proofs.input.Input.copy_unread.Given as goal

abbrev pub invariant-steps : goal.invariant-steps
invariant-steps g l = record {
  uncut : header_came (span_state l.decoder).place ≡ [];
  limit : l.decoder.max_allowed_packet ≡ l.fn.decoder.max_allowed_packet;
  rest : l.self ≡ record l.fn.self { src = l.self.src };
  fewer : most_bytes (span_state l.decoder) + length l.fn.self.src.items ≤ most_bytes (span_state l.fn.decoder) + length l.self.src.items;
  goes : Copies false (span_state l.fn.decoder) l.fn.self.src.items (g.W.Write.contents l.fn.writer)
      (span_state l.decoder) l.self.src.items (g.W.Write.contents l.writer);
}

abbrev pub decreases-steps : goal.decreases-steps
decreases-steps g l = length l.self.src.items

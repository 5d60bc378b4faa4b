use Rattle.std.proofs.Common.{◌≡◌, ◌-◌, [], length, None}
use Rattle.wire_span.specs.Spans.{header_came, span_state}
use Rattle.wire_span.specs.Passing.{most_bytes}
use Rattle.wire_packet_io.specs.Lending.{lender}
use Rattle.wire_packet_io.specs.Copying.{CopiesTo}
use Rattle.wire_packet_io.proofs.CopyLemmas.{so_far as stopped}
use Rattle.wire_packet_io.proofs.input.Input.copy.Given as goal

abbrev pub invariant-reads : goal.invariant-reads
invariant-reads g l = record {
  uncut : header_came (span_state l.decoder).place ≡ [];
  limit : l.decoder.max_allowed_packet ≡ l.fn.decoder.max_allowed_packet;
  held : l.self.dst ≡ l.fn.self.dst;
  lost : l.self.lost ≡ l.fn.self.lost;
  so_far : CopiesTo g.R.Read.remaining g.W.Write.contents (span_state l.fn.decoder) (lender None l.fn.self) l.fn.writer stopped
      (span_state l.decoder) (lender None l.self) l.writer;
}

abbrev pub decreases-reads : goal.decreases-reads
decreases-reads g l = most_bytes (span_state l.decoder) - length l.self.src.items

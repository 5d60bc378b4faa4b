use Rattle.std.proofs.Common.{◌≡◌, ◌≤◌, ◌⊎◌, [], length, ◌-◌}
use Rattle.wire_span.specs.Spans.{header_came, span_state}
use Rattle.wire_span.specs.Renumbering.{RenumbersFront}
use Rattle.wire_span.proofs.span.renumber.Renumber.renumber.Given as goal

abbrev pub invariant-steps : goal.invariant-steps
invariant-steps l = record {
  same : l.self.decoder.max_allowed_packet ≡ l.initial.self.decoder.max_allowed_packet;
  within : l.at ≤ length l.piece;
  long : length l.piece ≡ length l.initial.piece;
  fresh : (l.at ≡ 0) ⊎ ((l.at ≡ length l.piece) ⊎ (header_came (span_state l.self.decoder).place ≡ []));
  so_far : RenumbersFront (span_state l.initial.self.decoder) l.initial.self.next_id l.initial.piece l.piece l.at (span_state l.self.decoder) l.self.next_id;
}

abbrev pub decreases-steps : goal.decreases-steps
decreases-steps l = length l.piece - l.at

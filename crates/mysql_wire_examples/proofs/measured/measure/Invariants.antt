use Rattle.std.proofs.Common.{◌≡◌, ℕ, List, take}
use Rattle.mysql_wire.specs.Runs.{joined}
use Rattle.mysql_wire.specs.Spans.{CameTo, span_state}
use Rattle.mysql_wire_examples.specs.Measured.{Measures}
use Rattle.mysql_wire_examples.proofs.measured.measure.Given as goal

abbrev pub invariant-loop-piece : goal.invariant-loop-piece
invariant-loop-piece l = record {
  same : l.decoder.max_allowed_packet ≡ l.fn.limit;
  came : (packets : List (List ℕ)) × (opened : List ℕ)
      × CameTo 0 l.fn.limit (joined (take l.piece-index l.fn.pieces)) packets opened (span_state l.decoder)
      × Measures l.size packets opened;
}

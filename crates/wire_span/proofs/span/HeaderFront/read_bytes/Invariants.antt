use Rattle.std.proofs.Common.{◌≡◌, ◌++◌, ◌≤◌, length}
use Rattle.wire_span.specs.Spans.{front_bytes}
use Rattle.wire_span.proofs.span.HeaderFront.read_bytes.Given as goal

abbrev pub invariant-bytes : goal.invariant-bytes
invariant-bytes l = record {
  so_far : front_bytes l.came ++ l.rest ≡ front_bytes l.fn.self ++ l.piece;
  shorter : length l.rest ≤ length l.piece;
}

abbrev pub decreases-bytes : goal.decreases-bytes
decreases-bytes l = length l.rest

-- The spans of a piece, one after another.
use Rattle.std.specs.Prelude.{◌≡◌, ℕ, ◌<◌, ◌≤◌, ◌⊎◌, List, [], ◌∷◌, ◌++◌, length, Bool, true}
use Rattle.wire_span.specs.Spans.{SpanState, EatsSpans}
use Rattle.wire_span.specs.Passing.{left_in}

-- the span that `next_span` hands out in front of this piece, and what is left then
pub record IsNextSpan (before : SpanState) (piece : List ℕ) (span : List ℕ × Bool) (left : List ℕ)
    (after : SpanState) : Type 0 where
  pub eats : EatsSpans before piece (span ∷ []) left after
  pub shorter : length left < length piece
  -- it is the end of what was eaten, and in front of it is at most a header
  pub behind : (front : List ℕ) × (piece ≡ front ++ (span.0 ++ left)) × (length front ≤ 4)
  -- without a byte it is the end of a packet
  pub some : (0 < length span.0) ⊎ (span.1 ≡ true)
  -- it goes to the end of its chunk, or of the piece
  pub longest : (left ≡ []) ⊎ (left_in after.place ≡ 0)
  pub limit : after.limit ≡ before.limit

-- each of these spans is the next one of what those before it left
abbrev pub NextSpans : SpanState → List ℕ → List (List ℕ × Bool) → List ℕ → SpanState → Type 0
NextSpans before piece [] left after = (piece ≡ left) × (before ≡ after)
NextSpans before piece (span ∷ spans) left after =
    (rest : List ℕ) × (between : SpanState) × IsNextSpan before piece span rest between
    × NextSpans between rest spans left after

-- and after them what is eaten has no span: it is at most a header
abbrev pub HandsOutAll : SpanState → List ℕ → List (List ℕ × Bool) → List ℕ → SpanState → Type 0
HandsOutAll before piece spans left after =
    (rest : List ℕ) × (between : SpanState) × NextSpans before piece spans rest between
    × EatsSpans between rest [] left after

-- Spans that are visited one after another.
use Rattle.std.proofs.Common.{◌≡◌, ℕ, ◌<◌, ◌≤◌, ◌⊎◌, List, [], ◌∷◌, ◌++◌, length, refl, sym, subst, Bool, true}
use Rattle.std.specs.Prelude.{IfSome, Option, Some}
use Rattle.wire_span.specs.declared.span.Span.{Span}
use Rattle.wire_span.specs.Spans.{SpanState, span_of, spans_of, EatsSpans}
use Rattle.wire_span.specs.Passing.{left_in}
use Rattle.wire_span.specs.Visits.{IsNextSpan, NextSpans}

-- the span that a call handed out
pub next_span_is : (before after : SpanState) (piece left : List ℕ) (found : Option Span) (span : Span) → found ≡ Some span → EatsSpans before piece (spans_of found) left after
    → IfSome found (λ _. length left < length piece)
    → IfSome found (λ span. (front : List ℕ) × (piece ≡ front ++ (span.bytes.now ++ left)) × (length front ≤ 4))
    → IfSome found (λ span. (0 < length span.bytes.now) ⊎ (span.ends_packet ≡ true))
    → IfSome found (λ _. (left ≡ []) ⊎ (left_in after.place ≡ 0)) → after.limit ≡ before.limit
    → IsNextSpan before piece (span_of span) left after
next_span_is before after piece left found span is eats shorter behind some longest limit = record {
  eats = subst (λ (z : Option Span). EatsSpans before piece (spans_of z) left after) is eats;
  shorter = subst (λ (z : Option Span). IfSome z (λ _. length left < length piece)) is shorter;
  behind = subst (λ (z : Option Span). IfSome z (λ span. (front : List ℕ) × (piece ≡ front ++ (span.bytes.now ++ left)) × (length front ≤ 4))) is behind;
  some = subst (λ (z : Option Span). IfSome z (λ span. (0 < length span.bytes.now) ⊎ (span.ends_packet ≡ true))) is some;
  longest = subst (λ (z : Option Span). IfSome z (λ _. (left ≡ []) ⊎ (left_in after.place ≡ 0))) is longest;
  limit = limit;
}

-- one more
pub next_spans_push : (a c d : SpanState) (p q r : List ℕ) (spans : List (List ℕ × Bool)) (span : List ℕ × Bool) → NextSpans a p spans q c → IsNextSpan c q span r d → NextSpans a p (spans ++ span ∷ []) r d
next_spans_push a c d p q r [] span (same, stays) next =
    (r, d, subst (λ (z : SpanState). IsNextSpan z p span r d) (sym stays) (subst (λ (z : List ℕ). IsNextSpan c z span r d) (sym same) next), (refl, refl))
next_spans_push a c d p q r (first ∷ spans) span (rest, between, is, others) next =
    (rest, between, is, next_spans_push between c d rest q r spans span others next)

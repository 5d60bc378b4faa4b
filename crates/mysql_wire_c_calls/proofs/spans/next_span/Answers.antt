use Rattle.std.proofs.Common.{refl, ap, subst, ◌≡◌, ◌<◌, ◌≤◌, ◌⊎◌, ◌++◌, List, ℕ, length, true, Ok}
use Rattle.std.specs.Prelude.{Option, IfSome}
use Rattle.wire_span.specs.declared.span.Span.{Span}
use Rattle.wire_span.specs.Spans.{span_state, spans_of, EatsSpans}
use Rattle.mysql_wire_c_calls.proofs.SpanLemmas.{span_taken, span_waits, span_stops, code_back}
use Rattle.mysql_wire_c_calls.proofs.spans.next_span.Goals as goal

pub returns-in-Ok-Some : goal.returns-in-Ok-Some
returns-in-Ok-Some c =
    let old = c.in-Some.ensures in
    let new = c.in-Ok-Some.ensures in
    let set = c.set.ensures in
    let B : List ℕ = c.args.bytes.now in
    let R : List ℕ = c.next_span.new.piece.now in
    let is = c.in-Ok-Some.field-0-is in
    span_taken B c.in-Ok-Some.found.bytes.now R c.show-in-Ok-Some.new.self.len c.in-Ok-Some.found.ends_packet
    c.args.spans.now c.set.new.self (span_state c.in-Some.decoder) (span_state c.next_span.new.self)
    old.some (old.exact.0 refl) c.spans_stand.ensures
    (subst (λ (o : Option Span). EatsSpans (span_state c.in-Some.decoder) B (spans_of o) R (span_state c.next_span.new.self)) is new.ok)
    (subst (λ (o : Option Span). IfSome o (λ _. length R < length B)) is new.shorter)
    (subst (λ (o : Option Span). IfSome o (λ s. (f : List ℕ) × (B ≡ f ++ (s.bytes.now ++ R)) × (length f ≤ 4))) is new.end)
    (subst (λ (o : Option Span). IfSome o (λ s. (0 < length s.bytes.now) ⊎ (s.ends_packet ≡ true))) is new.some)
    c.show-in-Ok-Some.ensures new.limit (set.tidy, set.state) set.settings

pub returns-in-Ok-None : goal.returns-in-Ok-None
returns-in-Ok-None c =
    let old = c.in-Some.ensures in
    let new = c.in-Ok-None.ensures in
    let set = c.set-in-Ok-None.ensures in
    let B : List ℕ = c.args.bytes.now in
    let R : List ℕ = c.next_span.new.piece.now in
    let is = c.in-Ok-None.field-0-is in
    span_waits B R c.show.new.self.len c.args.spans.now c.set-in-Ok-None.new.self (span_state c.in-Some.decoder) (span_state c.next_span.new.self)
    old.some (old.exact.0 refl) c.spans_stand.ensures
    (subst (λ (o : Option Span). EatsSpans (span_state c.in-Some.decoder) B (spans_of o) R (span_state c.next_span.new.self)) is new.ok)
    (new.none (ap (λ (o : Option Span). Ok o) is))
    c.show.ensures new.limit (set.tidy, set.state) set.settings

pub returns-in-Err : goal.returns-in-Err
returns-in-Err c =
    let old = c.in-Some.ensures in
    span_stops c.in-Err.error _ c.args.bytes.now c.show.new.self.len c.args.spans.now (span_state c.in-Some.decoder)
    (code_back c.in-Err.error c.code_of.result c.code_of.ensures) old.some (old.exact.0 refl) c.in-Err.ensures.refused c.show.ensures

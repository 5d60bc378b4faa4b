use Rattle.std.proofs.Common.{refl, sym, ◌∙◌, ap, subst, arith, ℕ, List, length, inl, inr, take, true≢false}
use Rattle.std.proofs.lemmas.List.{nil_from_length}
use Rattle.std.specs.Prelude.{Option, IsSome}
use Rattle.wire_span.specs.declared.span.SpanDecoder.{SpanDecoder}
use Rattle.wire_span.specs.Spans.{front_bytes}
use Rattle.wire_span.specs.Parts.{place_at, CanStand}
use Rattle.wire_span.proofs.SpanLemmas.{front_short}
use Rattle.wire_span.proofs.PartLemmas.{state_at, stands_place, place_stands}
use Rattle.wire_span.proofs.span.SpanDecoder.from_parts.Goals as goal

pub returns-clause-exact : goal.returns-clause-exact
returns-clause-exact c =
    let p = c.args.parts in
    let came = c.in_ok-came.came in
    let some = c.in_ok-came.ensures.some in
    let long = c.in_ok-came.ensures.len in
    let tidy = c.in_ok-came.ensures.exact.0 refl in
    let place = c.in_ok-place.ensures.exact.0 refl in (
      λ _. (
        (
          tidy.0,
          tidy.1,
          elim place.1 [
            | inl none ↦ inl none
            | inr empty ↦ inr (sym long ∙ ap (λ (z : List ℕ). length z) empty)
          ],
        ),
        subst (λ (z : List ℕ). CanStand (state_at p.max_allowed_packet p.seq_id p.size (place_at p.size p.left z))) some
            (place_stands p.max_allowed_packet p.seq_id p.size p.left (front_bytes came) (omega arith) (front_short came) place.0),
      ),
      λ _. refl,
    )

pub returns-in_err-place-clause-exact : goal.returns-in_err-place-clause-exact
returns-in_err-place-clause-exact c =
    let p = c.args.parts in
    let came = c.in_ok-came.came in
    let some = c.in_ok-came.ensures.some in
    let long = c.in_ok-came.ensures.len in
    let none = c.in_err-place.ensures.exact.1 in
    let gone = c.from_residual-in_err-place.ensures in (
      λ h. absurd (true≢false (sym (subst (λ (r : Option SpanDecoder). IsSome r) gone h))),
      λ h. absurd (true≢false (sym (none (
        stands_place p.max_allowed_packet p.seq_id p.size p.left (take p.header_len p.header) h.1,
        elim h.0.2 [
          | inl no_left ↦ inl no_left
          | inr no_header ↦ inr (nil_from_length (front_bytes came) (long ∙ no_header))
        ],
      )))),
    )

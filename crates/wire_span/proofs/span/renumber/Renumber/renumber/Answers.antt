use Rattle.std.proofs.Common.{◌≡◌, ℕ, ◌+◌, List, [], inl, inr, length-drop, length, take, drop, ◌-◌, refl, sym, ap, ◌∙◌, subst, arith}
use borrow.Rule.Slice.PartMut.{put_mid}
use Rattle.wire_span.specs.declared.span.renumber.Renumber.{Renumber}
use Rattle.wire_span.specs.Spans.{header_came, span_state, StopsBefore}
use Rattle.wire_span.specs.Renumbering.{RenumbersFront}
use Rattle.wire_span.proofs.RenumberLemmas.{renumbers_none, renumbers_length, rest_all, put_same_rest, step_more}
use Rattle.wire_span.proofs.span.renumber.Renumber.renumber.Goals as goal

pub steps-init : goal.steps-init
steps-init c = record {
  same = refl;
  within = omega arith;
  long = refl;
  fresh = inl refl;
  so_far = renumbers_none (span_state c.args.self.now.decoder) c.args.self.now.next_id c.args.piece.now;
}

pub steps-preserved : goal.steps-preserved
steps-preserved c =
    let inv = c.steps.invariant in
    let at = c.steps.at in
    let P = c.args.piece.now in
    let Q = c.steps.piece in
    let new = put_mid at (length Q - at) Q c.step.new.piece in
    let a = span_state c.args.self.now.decoder in
    let m = span_state c.steps.self.decoder in
    let z = span_state c.step.new.self.decoder in
    let i = c.args.self.now.next_id in
    let k = c.step.new.self.next_id in
    let far : RenumbersFront a i P new (at + c.in-Ok.count) z k =
    step_more a m z i c.steps.self.next_id k at c.in-Ok.count P Q (take (length Q - at) (drop at Q)) c.step.new.piece inv.same inv.so_far refl c.in-Ok.ensures.ok in
    let long = renumbers_length a z i k (at + c.in-Ok.count) P new far in
    let size : length (take (length Q - at) (drop at Q)) ≡ length Q - at = ap (λ (w : List ℕ). length w) (rest_all at Q inv.within) ∙ length-drop at Q in
    record {
      same = c.step.ensures.limit ∙ inv.same;
      within = long.0;
      long = long.1;
      fresh = elim c.in-Ok.ensures.uncut [
        | inl all ↦ inr (inl (omega (arith, all, size, inv.within, inv.long, long.1)))
        | inr none ↦ inr (inr none)
      ];
      so_far = far;
    }

pub returns-in-Err-clause-err : goal.returns-in-Err-clause-err
returns-in-Err-clause-err c =
    let inv = c.steps.invariant in
    let at = c.steps.at in
    let P = c.args.piece.now in
    let Q = c.steps.piece in
    let a = span_state c.args.self.now.decoder in
    let i = c.args.self.now.next_id in
    let err = c.in-Err.ensures.err in
    subst (λ (r : Renumber). RenumbersFront a i P (put_mid at (length Q - at) Q c.step.new.piece) at (span_state r.decoder) r.next_id) (sym err.0)
    (subst (λ (w : List ℕ). RenumbersFront a i P w at (span_state c.steps.self.decoder) c.steps.self.next_id) (sym (put_same_rest at Q c.step.new.piece inv.within (err.1 ∙ rest_all at Q inv.within))) inv.so_far)

pub returns-in-Err-clause-refused : goal.returns-in-Err-clause-refused
returns-in-Err-clause-refused c =
    let inv = c.steps.invariant in
    let at = c.steps.at in
    let Q = c.steps.piece in
    let err = c.in-Err.ensures.err in
    subst (λ (r : Renumber). StopsBefore (span_state r.decoder) (drop at (put_mid at (length Q - at) Q c.step.new.piece)) c.in-Err.error) (sym err.0)
    (subst (λ (w : List ℕ). StopsBefore (span_state c.steps.self.decoder) w c.in-Err.error)
    (rest_all at Q inv.within ∙ ap (λ (w : List ℕ). drop at w) (sym (put_same_rest at Q c.step.new.piece inv.within (err.1 ∙ rest_all at Q inv.within)))) c.in-Err.ensures.refused)

pub returns-in-Err-clause-place : goal.returns-in-Err-clause-place
returns-in-Err-clause-place c =
    let err = c.in-Err.ensures.err in
    elim c.steps.invariant.fresh [
      | inl none ↦ inl none
      | inr more ↦ elim more [
        | inl all ↦ absurd (omega (arith, all))
        | inr uncut ↦ inr (subst (λ (r : Renumber). header_came (span_state r.decoder).place ≡ []) (sym err.0) uncut)
      ]
    ]

-- Spans after a codec, and a codec after spans.
use Rattle.std.proofs.Common.{◌≡◌, ℕ, ◌<◌, ◌≤◌, List, [], ◌∷◌, ◌++◌, length, sym, ap, ◌∙◌, subst, arith, append-nil}
use Rattle.std.specs.Prelude.{All}
use Rattle.std.proofs.lemmas.List.Elements.{All-nil, All-cons}
use Rattle.wire_codec.specs.Framing.{front, stream, id_after}
use Rattle.wire_codec.specs.Delivery.{AreWithin, Delivers, Waiting}
use Rattle.wire_codec.proofs.RunLemmas.{front-nil}
use Rattle.wire_span.specs.Spans.{SpanPlace, SpanState, InNextHeader, Begins, CameTo, IsBetween}
use Rattle.wire_span.proofs.SpanLemmas.{begins_between}
use Rattle.wire_span.proofs.RenumberLemmas.{came_between, nothing_long}

all_within : (L : ℕ) (ps : List (List ℕ)) → AreWithin [] L ps [] → All (λ (o : List ℕ). length o ≤ L) ps
all_within L [] a = All-nil (λ (o : List ℕ). length o ≤ L)
all_within L (p ∷ ps) a = All-cons (λ (o : List ℕ). length o ≤ L) p ps (let k = a.0.small in omega arith) a.1

pub spans_follow_is : (s L : ℕ) (S : List ℕ) (ps : List (List ℕ)) (state : SpanState) → state.id < 256 → IsBetween state → state.id ≡ id_after s ps
    → Delivers [] S s L ps Waiting [] [] → CameTo s L S ps [] state
spans_follow_is s L S ps state small between same d = (
  [],
  d.splits.is ∙ ap (λ (z : List ℕ). stream s ps ++ z) (append-nil (front (id_after s ps) []) ∙ front-nil (id_after s ps)),
  all_within L ps d.splits.within,
  subst (λ (p : SpanPlace). Begins (id_after s ps) L state.id state.size p [] []) (sym between.1)
      (subst (λ (n : ℕ). InNextHeader (id_after s ps) L state.id n [] [] []) (sym between.0) (begins_between (id_after s ps) L state.id (sym same) small)),
)

pub spans_end_is : (s L : ℕ) (S : List ℕ) (ps : List (List ℕ)) (o : List ℕ) (state : SpanState) → s < 256 → IsBetween state
    → CameTo s L S ps o state → (S ≡ stream s ps) × (o ≡ []) × (state.id ≡ id_after s ps)
spans_end_is s L S ps o state small ends came =
    let begins : InNextHeader (id_after s ps) L state.id 0 [] o came.0 =
    subst (λ (p : SpanPlace). Begins (id_after s ps) L state.id 0 p o came.0) ends.1
    (subst (λ (n : ℕ). Begins (id_after s ps) L state.id n state.place o came.0) ends.0 came.3) in
    let is = came_between s L state.id S ps o small (came.0, came.1, came.2, begins) in
    (is.0, nothing_long o (sym begins.size_is), is.1)

-- Runs over pieces under one limit, from runs whose pieces each have it.
use Rattle.std.proofs.Common.{◌≡◌, ◌≢◌, ℕ, ◌+◌, ◌<◌, ◌≤◌, List, [], ◌∷◌, ◌++◌, length, take, drop, refl, subst, ap, ◌∙◌, arith, Option, Result, Ok, Err, OnOk, All, Bor}
use Rattle.std.proofs.lemmas.List.{length-map, take-map, drop-map, map-id}
use Rattle.std.proofs.lemmas.List.Elements.{All-nil, All-cons}
use Rattle.wire_codec.proofs.Declared.{PacketCodecError, PacketsOutOfSync}
use Rattle.wire_codec.specs.Delivery.{Waiting, IsBounded}
use Rattle.wire_codec.specs.Codec.{CodecState, first_id, input_of, Stands}
use Rattle.wire_codec.specs.LimitedRuns.{Aligned, limited_bytes, last_limit}
use Rattle.wire_codec.specs.Runs.{joined, RunsFrom, RunsTo, RunsOver, Waits}
use Rattle.wire_codec.specs.GoingOn.{HavePieceLimits}
use Rattle.wire_codec.specs.Taking.{pieces_under, RunsPieces}
use Rattle.wire_codec.proofs.BoundLemmas.{bounded_delivery_is}
use Rattle.wire_codec.proofs.ConstantLimit.{one, stands_on, runs_one, leaves_one}
use Rattle.wire_codec.proofs.EqualLimits.{equal_limits_is}
use Rattle.wire_codec.proofs.RunLemmas.{runs_stand}

-- a codec that stands is aligned
pub stands_aligned : (state : CodecState) → Stands state → Aligned state
stands_aligned state stands = (stands_on state.limit 0 state.header state.unread state.held stands).aligned

-- pieces that all have this limit
abbrev all_at : ℕ → List (Bor (List ℕ)) → List (ℕ × Bor (List ℕ))
all_at limit pieces = pieces_under (λ (own : ℕ) (piece : Bor (List ℕ)). (own, piece)) limit pieces

joined_all : (limit : ℕ) (pieces : List (Bor (List ℕ))) → limited_bytes (all_at limit pieces) ≡ joined pieces
joined_all limit [] = refl
joined_all limit (piece ∷ pieces) = ap (λ (z : List ℕ). piece.now ++ z) (joined_all limit pieces)

same_all : (limit : ℕ) (pieces : List (Bor (List ℕ))) → All (λ (piece : ℕ × Bor (List ℕ)). piece.0 ≡ limit) (all_at limit pieces)
same_all limit [] = All-nil (λ (piece : ℕ × Bor (List ℕ)). piece.0 ≡ limit)
same_all limit (piece ∷ pieces) = All-cons (λ (piece : ℕ × Bor (List ℕ)). piece.0 ≡ limit) (limit, piece) (all_at limit pieces) refl (same_all limit pieces)

have_all : (limit place : ℕ) (pieces : List (Bor (List ℕ))) → HavePieceLimits (one limit) place (all_at limit pieces)
have_all limit place [] = tt
have_all limit place (piece ∷ pieces) = (λ i inside. refl, have_all limit (place + length piece.now) pieces)

last_all : (limit : ℕ) (pieces : List (Bor (List ℕ))) → last_limit limit (all_at limit pieces) ≡ limit
last_all limit [] = refl
last_all limit (piece ∷ pieces) = last_all limit pieces

joined_take : (limit n : ℕ) (pieces : List (Bor (List ℕ))) → limited_bytes (take n (all_at limit pieces)) ≡ joined (take n pieces)
joined_take limit n pieces = ap (λ (z : List (ℕ × Bor (List ℕ))). limited_bytes z) (take-map (λ (piece : Bor (List ℕ)). (limit, piece)) n pieces) ∙ joined_all limit (take n pieces)

joined_drop : (limit n : ℕ) (pieces : List (Bor (List ℕ))) → limited_bytes (drop n (all_at limit pieces)) ≡ joined (drop n pieces)
joined_drop limit n pieces = ap (λ (z : List (ℕ × Bor (List ℕ))). limited_bytes z) (drop-map (λ (piece : Bor (List ℕ)). (limit, piece)) n pieces) ∙ joined_all limit (drop n pieces)

bounded_run : (answer : Result (Unit {0}) PacketCodecError) (first : ℕ) (input held : List ℕ) (limit : ℕ) (ps : List (List ℕ)) (id : ℕ) (header : Option (ℕ × ℕ)) (src dst : List ℕ)
    → RunsFrom first input held limit answer ps id header src dst → OnOk answer (IsBounded limit held dst src)
bounded_run (Ok u) first input held limit ps id header src dst r = bounded_delivery_is held input first limit ps dst src r.0
bounded_run (Err e) first input held limit ps id header src dst r = tt

-- what a run over pieces under one limit makes of them
pub record RunsSame {O : Type 0} (took : O → List (List ℕ) → O → Type 0) (before : CodecState) (pieces : List (Bor (List ℕ))) (count : ℕ) (answer : Result (Unit {0}) PacketCodecError) (old new : O) (after : CodecState) : Type 0 where
  pub runs : (gained : List (List ℕ)) × took old gained new × RunsTo before (joined (take count pieces)) answer gained after
      × RunsOver before (joined pieces) answer gained after (joined (drop count pieces))
  pub few : count ≤ length pieces
  pub least : (j : ℕ) → j < count → Waits before (joined (take j pieces))
  pub all : OnOk answer (count ≡ length pieces)
  pub bounded : OnOk answer (IsBounded before.limit before.held after.held after.unread)
  pub stands : answer ≢ Err PacketsOutOfSync → Stands after
  pub limit : after.limit ≡ before.limit

pub runs_same : {O : Type 0} (took : O → List (List ℕ) → O → Type 0) (before : CodecState) (pieces : List (Bor (List ℕ))) (count : ℕ) (answer : Result (Unit {0}) PacketCodecError) (old new : O) (after : CodecState)
    → Stands before → RunsPieces took before (all_at before.limit pieces) count answer old new after → RunsSame took before pieces count answer old new after
runs_same took before pieces count answer old new after stands run =
    let first = first_id before in
    let limits = one before.limit in
    let many : length (all_at before.limit pieces) ≡ length pieces = length-map pieces (λ (piece : Bor (List ℕ)). (before.limit, piece)) in
    let on = run.on limits 0 0 (stands_on before.limit 0 before.header before.unread before.held stands) (have_all before.limit _ pieces) in
    let gained = on.0 in
    let to = runs_one answer before.limit first _ before.held gained after.id after.header after.unread after.held (rw (joined_take before.limit count pieces) at on.2.0) in
    let over = leaves_one answer before.limit first _ before.held gained after.unread _ after.held (rw (joined_drop before.limit count pieces, joined_all before.limit pieces) at on.2.1) in
    let kept : after.limit ≡ before.limit = run.limit ∙ ap (λ (z : List (ℕ × Bor (List ℕ))). last_limit before.limit z) (take-map (λ (piece : Bor (List ℕ)). (before.limit, piece)) count pieces) ∙ last_all before.limit (take count pieces) in
    record {
      runs = (gained, on.1, to, over);
      few = (let f = run.few in omega (arith, many, f));
      least = λ j less.
          let w = run.least j less in (
            w.0,
            w.1,
            w.2,
            (equal_limits_is before (all_at before.limit pieces) (joined (take j pieces)) w.0 Waiting w.1 w.2 stands (same_all before.limit pieces)).0 (rw (joined_take before.limit j pieces) at w.3),
          );
      all = rw many at run.all;
      bounded = bounded_run answer (first_id before) (input_of before ++ joined (take count pieces)) before.held before.limit gained after.id after.header after.unread after.held to;
      stands = λ other. runs_stand answer (first_id before) (input_of before ++ joined (take count pieces)) before.held before.limit after.limit gained after.id after.header after.unread after.held kept to other;
      limit = kept;
    }

-- pieces that each have a limit of their own
pub runs_given : {O : Type 0} (took : O → List (List ℕ) → O → Type 0) (before : CodecState) (pieces : List (ℕ × Bor (List ℕ))) (count : ℕ) (answer : Result (Unit {0}) PacketCodecError) (old new : O) (after : CodecState)
    → RunsPieces took before (pieces_under (λ (own : ℕ) (piece : ℕ × Bor (List ℕ)). piece) before.limit pieces) count answer old new after → RunsPieces took before pieces count answer old new after
runs_given took before pieces count answer old new after run =
    subst (λ (z : List (ℕ × Bor (List ℕ))). RunsPieces took before z count answer old new after) (map-id pieces) run

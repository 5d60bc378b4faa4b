-- Runs over pieces, one piece after another.
use Rattle.std.proofs.Common.{◌≡◌, ℕ, ◌+◌, ◌<◌, ◌≤◌, List, ◌++◌, length, take, get_or, sym, subst, ap, ◌∙◌, append-nil, arith, Result, Ok, Err, below_more, Bor, inl, inr}
use Rattle.wire_codec.proofs.Declared.{PacketCodecError, OutOfMemory}
use Rattle.wire_codec.specs.Framing.{front, id_after}
use Rattle.wire_codec.specs.Codec.{CodecState, first_id, input_of}
use Rattle.wire_codec.specs.GoingOn.{GoesOn, HavePieceLimits}
use Rattle.wire_codec.specs.Limited.{Limits, place_after}
use Rattle.wire_codec.specs.LimitedRuns.{Aligned, run_limits, limited_bytes, last_limit, RunsUnder, RemembersLimited, WaitsLimited}
use Rattle.wire_codec.specs.Taking.{Drains, RunsPieces}
use Rattle.wire_codec.proofs.RunLemmas.{open_waiting}
use Rattle.wire_codec.proofs.LimitedLemmas.{place_after-append, splits_more, length-splits_under}
use Rattle.wire_codec.proofs.GoingOnLemmas.{goes_on_start, start_mark}
use Rattle.wire_codec.proofs.LimitedRunLemmas.{Pieces, aligned_after, memory_under, start_before, remembers_limited, run_limits_have, last_limit_more, goes_on_next, marked_on, remembers_on, stopped_leaves, waited_on, limited_more, runs_trans}
use Rattle.wire_codec.proofs.TakenChunk.{open_small}

-- the codec with another limit and other bytes to be read
abbrev pub with_unread : ℕ → List ℕ → CodecState → CodecState
with_unread limit unread state = record { limit = limit; id = state.id; header = state.header; unread = unread; held = state.held }

-- what a run that began in this place made of the first pieces, this many of them
abbrev RunsIn : {O : Type 0} → (O → List (List ℕ) → O → Type 0) → Limits → ℕ → CodecState → Pieces → ℕ → Result (Unit {0}) PacketCodecError → O → O → CodecState → Type 0
RunsIn took limits place before pieces count answer old now state =
    (gained : List (List ℕ)) × took old gained now
    × RunsUnder limits place (first_id before) (input_of before ++ limited_bytes (take count pieces)) before.held answer gained state.id state.header state.unread state.held

-- and where it goes on, if it was refused memory
abbrev StopsIn : {O : Type 0} → (O → List (List ℕ) → O → Type 0) → Limits → ℕ → ℕ → CodecState → Pieces → ℕ → Result (Unit {0}) PacketCodecError → O → O → CodecState → Type 0
StopsIn took limits mark place before pieces count answer old now state =
    (run : RunsIn took limits place before pieces count answer old now state) × (answer ≡ Err OutOfMemory → GoesOn limits mark (place_after place run.0) state)

-- in every place
abbrev InPlaces : CodecState → Pieces → (Limits → ℕ → ℕ → Type 0) → Type 0
InPlaces before pieces A = (limits : Limits) (mark place : ℕ) → GoesOn limits mark place before → HavePieceLimits limits (place + length (input_of before)) pieces → A limits mark place

-- a run over the first pieces, this many of them, that waits
pub record HasRun {O : Type 0} (took : O → List (List ℕ) → O → Type 0) (before : CodecState) (pieces : Pieces) (count : ℕ) (old now : O) (state : CodecState) : Type 0 where
  pub limit : state.limit ≡ last_limit before.limit (take count pieces)
  pub waits : (j : ℕ) → j < count → WaitsLimited before pieces j
  pub on : InPlaces before pieces (λ limits mark place. RunsIn took limits place before pieces count (Ok tt) old now state)

-- this is the next piece, and the limit and the bytes to be read are those with it
pub record Comes (pieces : Pieces) (i : ℕ) (state : CodecState) (piece : ℕ × Bor (List ℕ)) (limit : ℕ) (unread : List ℕ) : Type 0 where
  pub inside : i < length pieces
  pub is : get_or pieces i piece ≡ piece
  pub set : limit ≡ piece.0
  pub came : unread ≡ state.unread ++ piece.1.now

-- the run as a stream of its own
own : (A : Limits → ℕ → ℕ → Type 0) (before : CodecState) (pieces : Pieces) → Aligned before → InPlaces before pieces A → A (run_limits before pieces) (start_mark before.header before.held) 0
own A before pieces aligned on =
    on (run_limits before pieces) (start_mark before.header before.held) 0
    (goes_on_start before.limit before.id before.header before.unread before.held pieces aligned) (run_limits_have before pieces aligned)

-- before the first piece
none_yet : {O : Type 0} (took : O → List (List ℕ) → O → Type 0) (answer : Result (Unit {0}) PacketCodecError) (before : CodecState) (pieces : Pieces) (old new : O) (after : CodecState)
    → Drains took before answer old new after → InPlaces before pieces (λ limits mark place. StopsIn took limits mark place before pieces 0 answer old new after)
none_yet took answer before pieces old new after drains limits mark place at known =
    let run = drains limits mark place at in
    let runs = subst (λ (z : List ℕ). RunsUnder limits place (first_id before) z before.held answer run.0 after.id after.header after.unread after.held) (sym (append-nil (input_of before))) run.2 in
    ((run.0, run.1, runs), run.3)

pub has_run_first : {O : Type 0} (took : O → List (List ℕ) → O → Type 0) (before : CodecState) (pieces : Pieces) (old new : O) (after : CodecState)
    → Drains took before (Ok tt) old new after → after.limit ≡ before.limit → HasRun took before pieces 0 old new after
has_run_first took before pieces old new after drains same = record {
  limit = same;
  waits = λ j less. absurd (omega arith);
  on = λ limits mark place at known. (none_yet took (Ok tt) before pieces old new after drains limits mark place at known).0;
}

-- one piece more
next : {O : Type 0} {took : O → List (List ℕ) → O → Type 0} (joins : (a b c : O) (ps qs : List (List ℕ)) → took a ps b → took b qs c → took a (ps ++ qs) c)
    (answer : Result (Unit {0}) PacketCodecError) {before : CodecState} {pieces : Pieces} {i : ℕ} {old mid : O} (new : O) {state : CodecState} {piece : ℕ × Bor (List ℕ)} {limit : ℕ} {unread : List ℕ} (after : CodecState)
    → HasRun took before pieces i old mid state → Comes pieces i state piece limit unread → Drains took (with_unread limit unread state) answer mid new after
    → InPlaces before pieces (λ limits mark place. StopsIn took limits (place + length (input_of before ++ limited_bytes (take i pieces))) place before pieces (i + 1) answer old new after)
next joins answer {before = before} {pieces = pieces} {i = i} {old = old} {mid = mid} new {state = state} {piece = piece} {limit = limit} {unread = unread} after so_far comes drains limits mark place at known =
    let S : List ℕ = input_of before ++ limited_bytes (take i pieces) in
    let first : ℕ = first_id before in
    let run = so_far.on limits mark place at known in
    let gained = run.0 in
    let behind = goes_on_next limits place first (input_of before) before.held pieces i piece gained state.id state.header state.unread state.held known comes.inside run.2 in
    let more = drains limits (place + length S) (place_after place gained) (rw (comes.set, comes.came) (rw comes.is at behind)) in
    let runs : ℕ → List ℕ → Type 0 = λ first z. RunsUnder limits (place_after place gained) first (front first state.held ++ z) state.held answer more.0 after.id after.header after.unread after.held in
    let opened : first_id state ≡ id_after first gained = open_waiting first gained state.id state.held (open_small before.id before.held) run.2.1 in
    let bytes : S ++ piece.1.now ≡ input_of before ++ limited_bytes (take (i + 1) pieces) =
    ap (λ (p : ℕ × Bor (List ℕ)). S ++ p.1.now) (sym comes.is) ∙ limited_more (input_of before) pieces i piece comes.inside in (
      (
        gained ++ more.0,
        joins old mid new gained more.0 run.1 more.1,
        subst (λ (z : List ℕ). RunsUnder limits place first z before.held answer (gained ++ more.0) after.id after.header after.unread after.held) bytes
            (runs_trans answer more.0 after.id after.header after.unread after.held (splits_more piece.1.now run.2.0.splits)
            (subst (λ (z : List ℕ). runs (id_after first gained) z) comes.came (subst (λ (z : ℕ). runs z unread) opened more.2))),
      ),
      λ e. rw (place_after-append place gained more.0) (more.3 e),
    )

limit_next : (last : ℕ) {pieces : Pieces} {i : ℕ} {state : CodecState} {piece : ℕ × Bor (List ℕ)} {limit : ℕ} {unread : List ℕ} → Comes pieces i state piece limit unread → limit ≡ last_limit last (take (i + 1) pieces)
limit_next last {pieces = pieces} {i = i} {piece = piece} comes = comes.set ∙ ap (λ (p : ℕ × Bor (List ℕ)). p.0) (sym comes.is) ∙ sym (last_limit_more last pieces i piece comes.inside)

waits_next : {O : Type 0} {took : O → List (List ℕ) → O → Type 0} {before : CodecState} {pieces : Pieces} {i : ℕ} {old mid : O} {state : CodecState}
    → Aligned before → HasRun took before pieces i old mid state → (j : ℕ) → j < i + 1 → WaitsLimited before pieces j
waits_next {took = took} {before = before} {pieces = pieces} {i = i} {old = old} {mid = mid} {state = state} aligned so_far =
    let run = own (λ limits mark place. RunsIn took limits place before pieces i (Ok tt) old mid state) before pieces aligned so_far.on in
    below_more _ _ so_far.waits (run.0, state.held, state.unread, run.2.0)

pub has_run_more : {O : Type 0} {took : O → List (List ℕ) → O → Type 0} (joins : (a b c : O) (ps qs : List (List ℕ)) → took a ps b → took b qs c → took a (ps ++ qs) c)
    {before : CodecState} {pieces : Pieces} {i : ℕ} {old mid : O} (new : O) {state : CodecState} {piece : ℕ × Bor (List ℕ)} {limit : ℕ} {unread : List ℕ} (after : CodecState)
    → Aligned before → HasRun took before pieces i old mid state → Comes pieces i state piece limit unread
    → Drains took (with_unread limit unread state) (Ok tt) mid new after → after.limit ≡ limit → HasRun took before pieces (i + 1) old new after
has_run_more joins {before = before} new after aligned so_far comes drains kept = record {
  limit = kept ∙ limit_next before.limit comes;
  waits = waits_next aligned so_far;
  on = λ limits mark place at known. (next joins (Ok tt) new after so_far comes drains limits mark place at known).0;
}

-- a run that stops
stops : {O : Type 0} (took : O → List (List ℕ) → O → Type 0) (error : PacketCodecError) (before : CodecState) (pieces : Pieces) (count : ℕ) (old new : O) (after : CodecState) (behind : ℕ → ℕ → ℕ)
    → Aligned before → InPlaces before pieces (λ limits mark place. StopsIn took limits (behind mark place) place before pieces count (Err error) old new after)
    → ((run : StopsIn took (run_limits before pieces) (behind (start_mark before.header before.held) 0) 0 before pieces count (Err error) old new after)
    → ◌≡◌ {A = Result (Unit {0}) PacketCodecError} (Err error) (Err OutOfMemory) → RemembersLimited before pieces count run.0.0 after.header after.unread after.held)
    → count ≤ length pieces → ((j : ℕ) → j < count → WaitsLimited before pieces j) → after.limit ≡ last_limit before.limit (take count pieces)
    → RunsPieces took before pieces count (Err error) old new after
stops took error before pieces count old new after behind aligned on remembers few waits limit =
    let mine = own (λ limits mark place. StopsIn took limits (behind mark place) place before pieces count (Err error) old new after) before pieces aligned on in
    let leaves = λ (limits : Limits) (place : ℕ) (run : RunsIn took limits place before pieces count (Err error) old new after).
    stopped_leaves error limits place (first_id before) (input_of before) before.held pieces count run.0 after.id after.header after.unread after.held run.2 in
    record {
      runs = (mine.0.0, mine.0.1, (mine.0.2, leaves (run_limits before pieces) 0 mine.0, remembers mine));
      on = λ limits mark place at known.
          let there = on limits mark place at known in
          (there.0.0, there.0.1, (there.0.2, leaves limits place there.0, λ which. (behind mark place, there.1 (elim which [ inl e ↦ absurd cc | inr e ↦ e ]))));
      few = few;
      least = waits;
      all = tt;
      aligned = λ other. aligned_after (Err error) (run_limits before pieces) 0 (first_id before) _ before.held mine.0.0 after.id after.header after.unread after.held mine.0.2 other;
      limit = limit;
    }

-- before the first piece
pub stops_first : {O : Type 0} (took : O → List (List ℕ) → O → Type 0) (error : PacketCodecError) (before : CodecState) (pieces : Pieces) (old new : O) (after : CodecState)
    → Aligned before → Drains took before (Err error) old new after → after.limit ≡ before.limit → RunsPieces took before pieces 0 (Err error) old new after
stops_first took error before pieces old new after aligned drains same =
    stops took error before pieces 0 old new after (λ mark place. mark) aligned (none_yet took (Err error) before pieces old new after drains)
    (λ run e long which. elim which [
      | inl here ↦ remembers_on (run.1 e) long (start_before before.header before.held _ here.0 here.1)
      | inr later ↦ absurd (let h = later.0 in omega arith)
    ]) (omega arith) (λ j less. absurd (omega arith)) same

-- a piece finds no memory
pub refuses_piece : {O : Type 0} {took : O → List (List ℕ) → O → Type 0} (error : PacketCodecError) {before : CodecState} {pieces : Pieces} {i : ℕ} {old mid : O} {state : CodecState} (unread : List ℕ)
    → Aligned before → HasRun took before pieces i old mid state → i ≤ length pieces → error ≡ OutOfMemory → unread ≡ state.unread
    → RunsPieces took before pieces i (Err error) old mid (with_unread state.limit unread state)
refuses_piece {took = took} error {before = before} {pieces = pieces} {i = i} {old = old} {mid = mid} {state = state} unread aligned so_far inside is kept =
    let S : List ℕ = input_of before ++ limited_bytes (take i pieces) in
    let refused = λ (limits : Limits) (place : ℕ) (run : RunsIn took limits place before pieces i (Ok tt) old mid state).
    memory_under error limits place (first_id before) S before.held run.0 state.id state.header state.unread state.held unread is (open_small before.id before.held) kept run.2 in
    stops took error before pieces i old mid (with_unread state.limit unread state) (λ mark place. place + length S) aligned
    (λ limits mark place at known.
    let run = so_far.on limits mark place at known in (
      (run.0, run.1, refused limits place run),
      λ e. rw kept (marked_on limits place (first_id before) S before.held run.0 state.id state.header state.unread state.held state.limit run.2),
    ))
    (λ run e long which.
    let len = length-splits_under (run_limits before pieces) 0 before.held S (first_id before) run.0.0 state.held unread (rw is at run.0.2).0 in
    remembers_on (run.1 e) long (omega arith))
    inside so_far.waits so_far.limit

-- it stops after a piece
pub stops_behind : {O : Type 0} {took : O → List (List ℕ) → O → Type 0} (joins : (a b c : O) (ps qs : List (List ℕ)) → took a ps b → took b qs c → took a (ps ++ qs) c)
    (error : PacketCodecError) {before : CodecState} {pieces : Pieces} {i : ℕ} {old mid : O} (new : O) {state : CodecState} {piece : ℕ × Bor (List ℕ)} {limit : ℕ} {unread : List ℕ} (after : CodecState)
    → Aligned before → HasRun took before pieces i old mid state → Comes pieces i state piece limit unread
    → Drains took (with_unread limit unread state) (Err error) mid new after → after.limit ≡ limit → RunsPieces took before pieces (i + 1) (Err error) old new after
stops_behind {took = took} joins error {before = before} {pieces = pieces} {i = i} {old = old} new after aligned so_far comes drains kept =
    let inside = comes.inside in
    stops took error before pieces (i + 1) old new after (λ mark place. place + length (input_of before ++ limited_bytes (take i pieces))) aligned
    (next joins (Err error) new after so_far comes drains)
    (λ run e. remembers_limited before pieces i run.0.0 after.header after.unread after.held aligned (remembers_on (run.1 e)))
    (omega arith) (waits_next aligned so_far) (kept ∙ limit_next before.limit comes)

-- all pieces have come
pub takes_all : {O : Type 0} {took : O → List (List ℕ) → O → Type 0} {before : CodecState} {pieces : Pieces} {count : ℕ} {old now : O} {state : CodecState}
    → Aligned before → HasRun took before pieces count old now state → count ≡ length pieces → RunsPieces took before pieces count (Ok tt) old now state
takes_all {took = took} {before = before} {pieces = pieces} {count = count} {old = old} {now = now} {state = state} aligned so_far whole =
    let run = own (λ limits mark place. RunsIn took limits place before pieces count (Ok tt) old now state) before pieces aligned so_far.on in
    let told = λ (limits : Limits) (place : ℕ) (run : RunsIn took limits place before pieces count (Ok tt) old now state).
    waited_on limits place (first_id before) (input_of before) before.held pieces count run.0 state.limit state.id state.header state.unread state.held whole run.2 in
    let mine = told (run_limits before pieces) 0 run in
    record {
      runs = (run.0, run.1, (mine.0, mine.1, λ e. absurd cc));
      on = λ limits mark place at known. let there = so_far.on limits mark place at known in (there.0, there.1, told limits place there);
      few = omega arith;
      least = so_far.waits;
      all = whole;
      aligned = λ other. run.2.2;
      limit = so_far.limit;
    }

-- Runs of decodes under limits, joined.
use Rattle.std.proofs.Common.{◌≡◌, ◌≢◌, ℕ, ◌+◌, ◌-◌, ◌/◌, ◌<◌, ◌≤◌, List, [], ◌∷◌, ◌++◌, length, take, drop, refl, sym, ap, ap₂, ◌∙◌, subst, arith, append_assoc, append-nil, length-append, length-drop, take_all, drop_of_length-le, inl, inr, ◌⊎◌, slice_index, Option, Some, None, IsSome, Result, Ok, Err, Bool, suc, zero, rules, if◌then◌else◌, get_or, Bor}
use Rattle.std.proofs.lemmas.List.{take-append-le, drop-append-le, take_more, flat_map_more, take-append-drop}
use Rattle.std.proofs.lemmas.List.Concat.{flat_map-append}
use Rattle.std.proofs.lemmas.Bool.{cases_lt, lt-ltb, le-ltb}
use Rattle.wire_codec.proofs.Declared.{PacketCodecError, PacketTooLarge, OutOfMemory, PacketsOutOfSync, Io}
use Rattle.wire_codec.specs.Framing.{max_payload, framing, front, next_id, id_after}
use Rattle.wire_codec.specs.Delivery.{chunk_len, Waiting}
use Rattle.wire_codec.specs.Codec.{CodecState, first_id, input_of}
use Rattle.wire_codec.specs.Limited.{Limits, bound, framed_size, place_after, limit_at, ContinuesUnder, SplitsUnder, rest_limit, DeliversUnder}
use Rattle.wire_codec.specs.LimitedRuns.{Aligned, AlignedAt, unread_place, RunsUnder, LeavesUnder, WasAllowed, run_limits, piece_limit, limited_bytes, last_limit, RemembersLimited}
use Rattle.wire_codec.specs.GoingOn.{GoesOnAt, DecodesOn, HavePieceLimits, Remembers}
use Rattle.wire_codec.proofs.ChunkLemmas.{length-framing, nothing_whole}
use Rattle.wire_codec.proofs.DeliveryLemmas.{id_after-append}
use Rattle.wire_codec.proofs.RunLemmas.{front-nil, chunk_len_append, id_append, open_waiting}
use Rattle.wire_codec.proofs.LimitedLemmas.{begins_long, bound_allows, place_after-append, splits_trans, delivers_trans, splits_more, length-front_under, length-splits_under}
use Rattle.wire_codec.proofs.GoingOnLemmas.{length-input, not_remembered, aligned_long, start_mark}
use Rattle.wire_codec.proofs.TakenChunk.{none_some}

abbrev pub Pieces : Type 0
Pieces = List (ℕ × Bor (List ℕ))

-- nothing unfinished
unread_nothing : (place : ℕ) → unread_place place [] ≡ place
unfolding max_payload
unread_nothing place = omega arith

-- a run that hands out one more
pub splits_push : {limits : Limits} {place : ℕ} {d S : List ℕ} {s : ℕ} {ps : List (List ℕ)} {q W p : List ℕ} (V : List ℕ)
    → SplitsUnder limits place d S s ps q W → front (id_after s ps) q ++ W ≡ framing (id_after s ps) p ++ V → ContinuesUnder limits (place_after place ps) q p
    → SplitsUnder limits place d S s (ps ++ p ∷ []) [] V
splits_push {s = s} {ps = ps} {p = p} V a e c = splits_trans a (record {
  is = rw (append-nil (framing (id_after s ps) p), front-nil (next_id (id_after s ps) p)) e;
  held_whole = a.unfinished_whole;
  unfinished_whole = nothing_whole;
  within = (c, record { begins = refl; small = λ index from some. absurd (omega arith) });
})

-- and goes on after it
pub goes_on_pushed : {limits : Limits} {mark place limit : ℕ} (s : ℕ) {h : Option (ℕ × ℕ)} (header : Option (ℕ × ℕ)) {q W : List ℕ} (p V : List ℕ)
    → GoesOnAt limits mark place limit h W q → front s q ++ W ≡ framing s p ++ V → header ≡ None → mark ≤ place + framed_size p + 3 → length V ≤ length W
    → GoesOnAt limits mark (place + framed_size p) limit header V []
goes_on_pushed {limits = limits} {place = place} s header {q = q} {W = W} p V g e none behind less =
    let at : unread_place (place + framed_size p) [] ≡ place + framed_size p = unread_nothing (place + framed_size p) in
    let a = ap (λ (z : List ℕ). length z) e in
    let b = length-append (front s q) W in
    let c = length-append (framing s p) V in
    let d = length-front_under s q in
    let f = length-framing s p in
    rw none (record {
      aligned = (nothing_whole, tt);
      marked = omega arith;
      same = λ i low high.
          let there : unread_place (place + framed_size p) [] + i ≡ unread_place place q + (length W - length V + i) = omega arith in
          ap limits there ∙ g.same (length W - length V + i) (omega arith) (omega arith);
    })

-- no room for a packet in the list
pub was_allowed : {limits : Limits} {mark place limit : ℕ} {header : Option (ℕ × ℕ)} {src held : List ℕ} → GoesOnAt limits mark place limit header src held → WasAllowed limits place header held
was_allowed {header = None} g = tt
was_allowed {header = Some h} g = g.marked.0

pub remembers_on : {limits : Limits} {mark place limit : ℕ} {header : Option (ℕ × ℕ)} {src held : List ℕ} → GoesOnAt limits mark place limit header src held → Remembers mark place header src held
remembers_on {header = None} g long before = let m = g.marked in absurd (omega (arith, m, before))
remembers_on {header = Some h} g long before = search rules

unread_up : (place : ℕ) (q dst : List ℕ) → length q ≤ length dst → unread_place place q ≤ unread_place place dst
unfolding max_payload
unread_up place q dst h = omega arith

-- a decode that was refused memory goes on where it stands
pub stays : {limits : Limits} {mark place limit : ℕ} (s : ℕ) {h : Option (ℕ × ℕ)} {q W : List ℕ} (id : ℕ) (header : Option (ℕ × ℕ)) (src dst : List ℕ)
    → GoesOnAt limits mark place limit h W q → DecodesOn limits mark place s (front s q ++ W) q (Err OutOfMemory) id header src dst
    → GoesOnAt limits mark place limit header src dst
stays s id None src dst g t = absurd (none_some t.0.4)
stays {limits = limits} {place = place} s {q = q} {W = W} id (Some header) src dst g t =
    let e = length-splits_under limits place q (front s q ++ W) s [] dst src t.0.0 in
    let f = length-append (front s q) W in
    let l = length-front_under s q in
    let up = unread_up place q dst (begins_long q dst t.0.0.within.begins) in
    let behind = t.1 refl in
    record {
      aligned = t.0.2;
      marked = (t.0.3, let a = t.0.2.1.2 in omega (arith, a, behind));
      same = λ i low high.
          let there : unread_place place dst + i ≡ unread_place place q + (unread_place place dst + i - unread_place place q) = omega arith in
          ap limits there ∙ g.same (unread_place place dst + i - unread_place place q) (omega arith) (omega arith);
    }

-- a run, and then one over what came since
pub runs_trans : (answer : Result (Unit {0}) PacketCodecError) {limits : Limits} {place : ℕ} {d S : List ℕ} {s : ℕ} {ps : List (List ℕ)} {q W : List ℕ} (qs : List (List ℕ)) (id : ℕ) (header : Option (ℕ × ℕ)) (src dst : List ℕ)
    → SplitsUnder limits place d S s ps q W → RunsUnder limits (place_after place ps) (id_after s ps) (front (id_after s ps) q ++ W) q answer qs id header src dst
    → RunsUnder limits place s S d answer (ps ++ qs) id header src dst
runs_trans (Ok u) {s = s} {ps = ps} qs id header src dst a b = (delivers_trans a b.0, rw (id_after-append s ps qs) b.1, b.2, b.3)
runs_trans (Err PacketTooLarge) {s = s} {ps = ps} qs id header src dst a b = (delivers_trans a b.0, rw (id_after-append s ps qs) b.1, b.2)
runs_trans (Err PacketsOutOfSync) {s = s} {ps = ps} qs id header src dst a b = (b.0, b.1, delivers_trans a b.2, b.3, b.4, rw (id_after-append s ps qs) b.5, b.6)
runs_trans (Err OutOfMemory) {place = place} {s = s} {ps = ps} qs id header src dst a b =
    (splits_trans a b.0, rw (id_after-append s ps qs) b.1, b.2, rw (place_after-append place ps qs) b.3)
runs_trans (Err (Io e)) qs id header src dst a b = absurd b

-- where it hands out no more, it stops as its last step does
pub runs_still : (answer : Result (Unit {0}) PacketCodecError) {limits : Limits} {place : ℕ} {d S : List ℕ} {s : ℕ} {ps : List (List ℕ)} {q W : List ℕ} (id : ℕ) (header : Option (ℕ × ℕ)) (src dst : List ℕ)
    → SplitsUnder limits place d S s ps q W → RunsUnder limits (place_after place ps) (id_after s ps) (front (id_after s ps) q ++ W) q answer [] id header src dst
    → RunsUnder limits place s S d answer ps id header src dst
runs_still answer {ps = ps} id header src dst a t = rw (append-nil ps) at (runs_trans answer [] id header src dst a t)

-- the whole input, of which a part is left
limit_append : (limits : Limits) (place : ℕ) (q W x : List ℕ) → 4 ≤ length W → rest_limit limits place q (W ++ x) ≡ rest_limit limits place q W
limit_append limits place q W x long = ap (λ (n : ℕ). bound (limit_at limits place (length q / max_payload)) (length q + n)) (chunk_len_append W x long)

runs_over : (error : PacketCodecError) (limits : Limits) (place : ℕ) (d S : List ℕ) (s : ℕ) (ps : List (List ℕ)) (id : ℕ) (header : Option (ℕ × ℕ)) (src x dst : List ℕ)
    → RunsUnder limits place s S d (Err error) ps id header src dst → LeavesUnder limits place s (S ++ x) d (Err error) ps src x dst
runs_over PacketTooLarge limits place d S s ps id header src x dst r =
    let e = r.0.ends in
    let l = chunk_len_append src x e.0 in
    let m = limit_append limits (place_after place ps) dst src x e.0 in
    record { splits = splits_more x r.0.splits; ends = (rw length-append (omega (arith, e.0)), omega (arith, l, e.1), omega (arith, l, m, e.2)) }
runs_over PacketsOutOfSync limits place d S s ps id header src x dst r =
    let q : List ℕ = r.0 in
    let W : List ℕ = r.1 in
    let e = r.2.ends in
    let long : 4 ≤ length W = omega (arith, e.0) in
    let l : chunk_len (W ++ x) ≡ chunk_len W = chunk_len_append W x long in
    let m = limit_append limits (place_after place ps) q W x long in
    let room : 4 + chunk_len W ≤ length W = e.0 in
    let room' : chunk_len W ≤ length (drop 4 W) = rw length-drop (omega arith) in
    let i : slice_index (W ++ x) 3 ≡ slice_index W 3 = id_append W x long in (
      q,
      W ++ x,
      record {
        splits = splits_more x r.2.splits;
        ends = (
          rw (l, length-append) (omega (arith, room)),
          elim e.1 [ inl none ↦ inl (l ∙ none) | inr fits ↦ inr (omega (arith, l, m, fits)) ],
          λ same. e.2 (sym i ∙ same),
        );
      },
      r.3 ∙ ap (λ (z : List ℕ). q ++ z) (sym (ap (λ (n : ℕ). take n (drop 4 (W ++ x))) l ∙ ap (λ (z : List ℕ). take (chunk_len W) z) (drop-append-le 4 W x long) ∙ take-append-le (chunk_len W) (drop 4 W) x room')),
      ap (λ (z : List ℕ). z ++ x) r.4 ∙ sym (ap (λ (n : ℕ). drop (4 + n) (W ++ x)) l ∙ drop-append-le (4 + chunk_len W) W x room),
    )
runs_over OutOfMemory limits place d S s ps id header src x dst r = splits_more x r.0
runs_over (Io e) limits place d S s ps id header src x dst r = absurd r

-- the limits of pieces
have_from : (limits : Limits) (start last : ℕ) (pieces : Pieces) → ((i : ℕ) → limits (start + i) ≡ Some (piece_limit last pieces i)) → HavePieceLimits limits start pieces
have_from limits start last [] known = tt
have_from limits start last (piece ∷ pieces) known =
    let n : ℕ = length piece.1.now in (
      λ i inside. known i ∙ ap (λ (t : Bool). Some (if t then piece.0 else piece_limit piece.0 pieces (i - n))) (lt-ltb i n inside),
      have_from limits (start + n) piece.0 pieces (λ i.
          let there : start + n + i ≡ start + (n + i) = omega arith in
          let back : n + i - n ≡ i = omega arith in
          ap limits there ∙ known (n + i) ∙ ap (λ (t : Bool). Some (if t then piece.0 else piece_limit piece.0 pieces (n + i - n))) (le-ltb (n + i) n (omega arith))
          ∙ ap (λ (m : ℕ). Some (piece_limit piece.0 pieces m)) back),
    )

have_at : (limits : Limits) (start : ℕ) (pieces : Pieces) (k i : ℕ) (d : ℕ × Bor (List ℕ)) → HavePieceLimits limits start pieces → k < length pieces
    → i < length (get_or pieces k d).1.now → limits (start + length (limited_bytes (take k pieces)) + i) ≡ Some (get_or pieces k d).0
have_at limits start [] k i d known h inside = absurd (omega arith)
have_at limits start (piece ∷ pieces) zero i d known h inside = ap limits (omega arith) ∙ known.0 i inside
have_at limits start (piece ∷ pieces) (suc k) i d known h inside =
    let e = length-append piece.1.now (limited_bytes (take k pieces)) in
    ap limits (omega arith) ∙ have_at limits (start + length piece.1.now) pieces k i d known.1 (omega arith) inside

-- the limits of a run
pub run_limits_have : (state : CodecState) (pieces : Pieces) → Aligned state → HavePieceLimits (run_limits state pieces) (0 + length (input_of state)) pieces
run_limits_have state pieces aligned =
    let n : ℕ = length (input_of state) in
    have_from (run_limits state pieces) (0 + n) state.limit pieces (λ i.
    let apart = λ (some : IsSome state.header) (e : 0 + n + i ≡ unread_place 0 state.held + 3).
    let a = length-input (first_id state) state.unread state.held in
    let long = aligned_long state.header state.unread state.held aligned some in
    absurd (omega arith) in
    ap₂ (λ (s t : Bool). if s then None else Some (if t then state.limit else piece_limit state.limit pieces (0 + n + i - n)))
    (not_remembered state.header _ (0 + n + i) apart) (le-ltb (0 + n + i) n (omega arith))
    ∙ ap (λ (m : ℕ). Some (piece_limit state.limit pieces m)) (omega arith))

-- more bytes after change nothing of what is there
aligned_append : (header : Option (ℕ × ℕ)) (src x held : List ℕ) → AlignedAt header src held → AlignedAt header (src ++ x) held
aligned_append None src x held s = s
aligned_append (Some h) src x held s =
    let t = s.1 in
    (s.0, (rw length-append (omega (arith, t.0)), id_append src x t.0 ∙ t.1, chunk_len_append src x t.0 ∙ t.2, t.3))

-- a header that is remembered where a run waits
waits_allowed : (limits : Limits) (place first : ℕ) (S held : List ℕ) (gained : List (List ℕ)) (id : ℕ) (header : Option (ℕ × ℕ)) (src dst : List ℕ)
    → RunsUnder limits place first S held (Ok tt) gained id header src dst → WasAllowed limits (place_after place gained) header dst
waits_allowed limits place first S held gained id None src dst r = tt
waits_allowed limits place first S held gained id (Some h) src dst r =
    let long : 4 ≤ length src = r.2.1.0 in
    let l : chunk_len src ≡ h.1 = r.2.1.2 in
    let k : ℕ = length dst / max_payload in
    let small : length dst + chunk_len src ≤ rest_limit limits (place_after place gained) dst src = elim r.0.ends [ inl less ↦ absurd (omega arith) | inr waits ↦ waits.1 ] in
    rw l at (bound_allows (limit_at limits (place_after place gained) k) (length dst + chunk_len src) small)

-- a run that waited goes on under the next piece's limit
marked_next : (limits : Limits) (place first : ℕ) (S held : List ℕ) (gained : List (List ℕ)) (id : ℕ) (header : Option (ℕ × ℕ)) (src dst piece : List ℕ) (limit : ℕ)
    → RunsUnder limits place first S held (Ok tt) gained id header src dst → ((i : ℕ) → i < length piece → limits (place + length S + i) ≡ Some limit)
    → GoesOnAt limits (place + length S) (place_after place gained) limit header (src ++ piece) dst
marked_next limits place first S held gained id None src dst piece limit r under =
    let e = length-splits_under limits place held S first gained dst src r.0.splits in
    let f = length-append src piece in
    let short : length src < 4 = elim (cases_lt (length src) 4) [ inl less ↦ less | inr long ↦ absurd (none_some (r.3.1 long)) ] in
    record {
      aligned = aligned_append None src piece dst r.2;
      marked = omega arith;
      same = λ i low high. ap limits (omega arith) ∙ under (i - length src) (omega arith);
    }
marked_next limits place first S held gained id (Some h) src dst piece limit r under =
    let e = length-splits_under limits place held S first gained dst src r.0.splits in
    let f = length-append src piece in
    let l : chunk_len src ≡ h.1 = r.2.1.2 in
    let less : length src < 4 + chunk_len src = elim r.0.ends [ inl less ↦ omega arith | inr waits ↦ waits.2 ] in
    record {
      aligned = aligned_append (Some h) src piece dst r.2;
      marked = (waits_allowed limits place first S held gained id (Some h) src dst r, omega arith);
      same = λ i low high. ap limits (omega arith) ∙ under (i - length src) (omega arith);
    }

-- and where no piece comes
pub marked_on : (limits : Limits) (place first : ℕ) (S held : List ℕ) (gained : List (List ℕ)) (id : ℕ) (header : Option (ℕ × ℕ)) (src dst : List ℕ) (limit : ℕ)
    → RunsUnder limits place first S held (Ok tt) gained id header src dst → GoesOnAt limits (place + length S) (place_after place gained) limit header src dst
marked_on limits place first S held gained id header src dst limit r =
    rw (append-nil src) at (marked_next limits place first S held gained id header src dst [] limit r (λ i inside. absurd (omega arith)))

pub goes_on_next : (limits : Limits) (place first : ℕ) (input held : List ℕ) (pieces : Pieces) (k : ℕ) (d : ℕ × Bor (List ℕ)) (gained : List (List ℕ)) (id : ℕ) (header : Option (ℕ × ℕ)) (src dst : List ℕ)
    → HavePieceLimits limits (place + length input) pieces → k < length pieces
    → RunsUnder limits place first (input ++ limited_bytes (take k pieces)) held (Ok tt) gained id header src dst
    → GoesOnAt limits (place + length (input ++ limited_bytes (take k pieces))) (place_after place gained) (get_or pieces k d).0 header (src ++ (get_or pieces k d).1.now) dst
goes_on_next limits place first input held pieces k d gained id header src dst known h r =
    let e = length-append input (limited_bytes (take k pieces)) in
    marked_next limits place first _ held gained id header src dst (get_or pieces k d).1.now (get_or pieces k d).0 r
    (λ i inside. ap limits (omega arith) ∙ have_at limits (place + length input) pieces k i d known h inside)

last_limit-append : (limit : ℕ) (pieces : Pieces) (piece : ℕ × Bor (List ℕ)) → last_limit limit (pieces ++ piece ∷ []) ≡ piece.0
last_limit-append limit [] piece = refl
last_limit-append limit (other ∷ pieces) piece = last_limit-append other.0 pieces piece

pub last_limit_more : (limit : ℕ) (pieces : Pieces) (i : ℕ) (d : ℕ × Bor (List ℕ)) → i < length pieces → last_limit limit (take (i + 1) pieces) ≡ (get_or pieces i d).0
last_limit_more limit pieces i d h = ap (λ (z : Pieces). last_limit limit z) (take_more pieces i d h) ∙ last_limit-append limit (take i pieces) (get_or pieces i d)

-- one piece more of a stream
pub limited_more : (input : List ℕ) (pieces : Pieces) (i : ℕ) (d : ℕ × Bor (List ℕ)) → i < length pieces
    → (input ++ limited_bytes (take i pieces)) ++ (get_or pieces i d).1.now ≡ input ++ limited_bytes (take (i + 1) pieces)
limited_more input pieces i d h =
    flat_map_more (λ (piece : ℕ × Bor (List ℕ)). piece.1.now) input (take i pieces) (get_or pieces i d) ∙ ap (λ (z : Pieces). input ++ limited_bytes z) (sym (take_more pieces i d h))

-- what holds of every run's end
pub aligned_after : (answer : Result (Unit {0}) PacketCodecError) (limits : Limits) (place first : ℕ) (S held : List ℕ) (gained : List (List ℕ)) (id : ℕ) (header : Option (ℕ × ℕ)) (src dst : List ℕ)
    → RunsUnder limits place first S held answer gained id header src dst → answer ≢ Err PacketsOutOfSync → AlignedAt header src dst
aligned_after (Ok u) limits place first S held gained id header src dst r other = r.2
aligned_after (Err PacketTooLarge) limits place first S held gained id header src dst r other = rw r.2 (r.0.splits.unfinished_whole, tt)
aligned_after (Err PacketsOutOfSync) limits place first S held gained id header src dst r other = absurd (other refl)
aligned_after (Err OutOfMemory) limits place first S held gained id header src dst r other = r.2
aligned_after (Err (Io e)) limits place first S held gained id header src dst r other = absurd r

-- a run that waits, and is then refused memory
pub memory_under : (error : PacketCodecError) (limits : Limits) (place first : ℕ) (S held : List ℕ) (gained : List (List ℕ)) (id : ℕ) (header : Option (ℕ × ℕ)) (src dst unread : List ℕ)
    → error ≡ OutOfMemory → first < 256 → unread ≡ src → RunsUnder limits place first S held (Ok tt) gained id header src dst
    → RunsUnder limits place first S held (Err error) gained id header unread dst
memory_under error limits place first S held gained id header src dst unread is small kept r =
    rw (is, kept) (r.0.splits, open_waiting first gained id dst small r.1, r.2, waits_allowed limits place first S held gained id header src dst r)

-- a header that was remembered at the start
pub start_before : (header : Option (ℕ × ℕ)) (held : List ℕ) (n : ℕ) → IsSome header → n ≡ unread_place 0 held → n + 3 < start_mark header held
start_before None held n some e = absurd (none_some some)
start_before (Some h) held n some e = omega arith

pub remembers_limited : (before : CodecState) (pieces : Pieces) (index : ℕ) (gained : List (List ℕ)) (header : Option (ℕ × ℕ)) (src dst : List ℕ) → Aligned before
    → Remembers (0 + length (input_of before ++ limited_bytes (take index pieces))) (place_after 0 gained) header src dst
    → RemembersLimited before pieces (index + 1) gained header src dst
remembers_limited before pieces index gained header src dst aligned r long (inl start) =
    let a = length-append (input_of before) (limited_bytes (take index pieces)) in
    let b = length-input (first_id before) before.unread before.held in
    let c = aligned_long before.header before.unread before.held aligned start.0 in
    let e = start.1 in
    r long (omega arith)
remembers_limited before pieces index gained header src dst aligned r long (inr later) =
    let same : index + 1 - 1 ≡ index = omega arith in
    let before' = rw same at later.1 in
    r long (omega (arith, before'))

-- what a run over pieces leaves, where it stopped
pub stopped_leaves : (error : PacketCodecError) (limits : Limits) (place first : ℕ) (input held : List ℕ) (pieces : Pieces) (count : ℕ) (gained : List (List ℕ)) (id : ℕ) (header : Option (ℕ × ℕ)) (src dst : List ℕ)
    → RunsUnder limits place first (input ++ limited_bytes (take count pieces)) held (Err error) gained id header src dst
    → LeavesUnder limits place first (input ++ limited_bytes pieces) held (Err error) gained src (limited_bytes (drop count pieces)) dst
stopped_leaves error limits place first input held pieces count gained id header src dst run =
    let all : (input ++ limited_bytes (take count pieces)) ++ limited_bytes (drop count pieces) ≡ input ++ limited_bytes pieces =
    append_assoc input (limited_bytes (take count pieces)) (limited_bytes (drop count pieces))
    ∙ ap (λ (z : List ℕ). input ++ z) (sym (flat_map-append (λ (piece : ℕ × Bor (List ℕ)). piece.1.now) (take count pieces) (drop count pieces)) ∙ ap (λ (z : Pieces). limited_bytes z) (take-append-drop count pieces)) in
    subst (λ (z : List ℕ). LeavesUnder limits place first z held (Err error) gained src (limited_bytes (drop count pieces)) dst) all
    (runs_over error limits place held (input ++ limited_bytes (take count pieces)) first gained id header src (limited_bytes (drop count pieces)) dst run)

-- the answer of a run that waits
abbrev waiting : Result (Unit {0}) PacketCodecError
waiting = Ok tt

-- what a caller of a run over pieces is told, where it waits
pub waited_on : (limits : Limits) (place first : ℕ) (input held : List ℕ) (pieces : Pieces) (count : ℕ) (gained : List (List ℕ)) (limit id : ℕ) (header : Option (ℕ × ℕ)) (src dst : List ℕ)
    → count ≡ length pieces → RunsUnder limits place first (input ++ limited_bytes (take count pieces)) held (Ok tt) gained id header src dst
    → RunsUnder limits place first (input ++ limited_bytes (take count pieces)) held (Ok tt) gained id header src dst
    × LeavesUnder limits place first (input ++ limited_bytes pieces) held (Ok tt) gained src (limited_bytes (drop count pieces)) dst
    × ((waiting ≡ Ok tt) ⊎ (waiting ≡ Err OutOfMemory) → (mark : ℕ) × GoesOnAt limits mark (place_after place gained) limit header src dst)
waited_on limits place first input held pieces count gained limit id header src dst whole run =
    let all : take count pieces ≡ pieces = take_all count pieces (omega arith) in
    let none : drop count pieces ≡ [] = drop_of_length-le pieces {i = count} (omega arith) in
    let over : DeliversUnder limits place held (input ++ limited_bytes pieces) first gained Waiting dst (src ++ limited_bytes (drop count pieces)) =
    rw (none, append-nil src) (rw all at run.0) in
    (run, over, λ _. (place + length (input ++ limited_bytes (take count pieces)), marked_on limits place first _ held gained id header src dst limit run))

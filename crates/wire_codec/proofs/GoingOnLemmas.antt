-- One chunk of a stream whose bytes came under different limits, as a codec takes it.
use Rattle.std.proofs.Common.{◌≡◌, ℕ, ◌+◌, ◌-◌, ◌*◌, ◌/◌, ◌%◌, ◌<◌, ◌≤◌, ◌≢◌, List, [], ◌++◌, length, take, drop, suc, refl, sym, ap, ◌∙◌, subst, arith, length-append, length-drop, take_all, take_at, inl, inr, min, slice_index, Option, Some, None, IsSome, Result, Ok, Err, Bool, true, false, rules, ap₂, eq-eqb, ne_eqb, if◌then◌else◌, nat_lt, Bor}
use Rattle.std.proofs.lemmas.Bool.{cases_lt, lt-ltb}
use Rattle.wire_codec.proofs.Declared.{ChunkInfo, Middle, Last, PacketCodecError, PacketTooLarge, OutOfMemory, PacketsOutOfSync, Io, Progress, Whole, Starved, More}
use Rattle.wire_codec.specs.Framing.{max_payload, chunks, front}
use Rattle.wire_codec.specs.Delivery.{chunk_len, IsSpelled, id_at, IsWholeChunks}
use Rattle.wire_codec.specs.OneChunk.{Answer, DecodesChunk}
use Rattle.wire_codec.specs.Limited.{Limits, Allows, bound, limit_at, ContinuesUnder, SplitsUnder, rest_limit}
use Rattle.wire_codec.specs.LimitedRuns.{AlignedAt, unread_place, header_ends_at, run_limits, piece_limit}
use Rattle.wire_codec.specs.Chain.{id_of}
use Rattle.wire_codec.specs.Codec.{CodecState, open_id, first_id, input_of}
use Rattle.wire_codec.specs.GoingOn.{GoesOnAt, DecodesOn, TakesOn}
use Rattle.wire_codec.specs.Laws.{EmptyGoesOn}
use Rattle.wire_codec.proofs.ChunkLemmas.{blocks_whole, same_block}
use Rattle.wire_codec.proofs.LimitedLemmas.{allows_bound, bound_allows, under_trans, splits_trans, delivers_trans, length-front_under}
use Rattle.wire_codec.proofs.TakenChunk.{Outcome, outcome_of, outcome_finished, Taken, taken_len, taken_id, chunk_len_small, chunk_joins, part_more, whole_more, none_some}

-- what the step makes of it, by the number by which the chunk in front is judged
pub outcome_under : (answer : Answer) {limits : Limits} {mark place limit : ℕ} {h : Option (ℕ × ℕ)} {src held : List ℕ} (header : Option (ℕ × ℕ)) (rest dst : List ℕ)
    → GoesOnAt limits mark place limit h src held → DecodesChunk h src held limit answer header rest dst
    → Outcome (rest_limit limits place held src) src held answer header rest dst
outcome_under answer {limits = limits} {place = place} {limit = limit} {h = None} {src = src} {held = held} header rest dst g d =
    elim (cases_lt (length src) 4) [
      | inl less ↦ let w = d.short less in rw w.0 (w.2, w.3, inl (less, w.1))
      | inr long ↦
          let known : rest_limit limits place held src ≡ limit = ap (λ (b : Option ℕ). bound b (length held + chunk_len src)) (g.same 3 g.marked long) in
          subst (λ (n : ℕ). Outcome n src held answer header rest dst) (sym known) (outcome_of None limit src held answer header rest dst (g.aligned.0, tt) d)
    ]
outcome_under answer {limits = limits} {place = place} {h = Some (id, needed)} {src = src} {held = held} header rest dst g d =
    let s = g.aligned.1 in
    let allowed : Allows (limit_at limits place (length held / max_payload)) (length held + chunk_len src) =
    subst (λ (n : ℕ). Allows (limit_at limits place (length held / max_payload)) (length held + n)) (sym s.2) g.marked.0 in
    outcome_finished (rest_limit limits place held src) src held answer header rest dst g.aligned.0 s.0 (omega (arith, s.2, s.3))
    (allows_bound (limit_at limits place (length held / max_payload)) (length held + chunk_len src) allowed) (rw (s.1, s.2) d)

-- where the header after the chunk in front stands, past the mark
behind_mark : (limits : Limits) (mark place limit : ℕ) (h : Option (ℕ × ℕ)) (src held : List ℕ) → GoesOnAt limits mark place limit h src held
    → mark ≤ unread_place place held + (chunk_len src + 7)
behind_mark limits mark place limit None src held g = let m = g.marked in omega (arith, m)
behind_mark limits mark place limit (Some (id, needed)) src held g = let m = g.marked.1 in let e = g.aligned.1.2 in omega (arith, m, e)

-- what is held after a chunk continues what was held
taken_under : (limits : Limits) (place : ℕ) (src held : List ℕ) (info : ChunkInfo) (header : Option (ℕ × ℕ)) (rest dst : List ℕ)
    → IsSpelled src → IsWholeChunks held → Taken (rest_limit limits place held src) src held info header rest dst → ContinuesUnder limits place held dst
taken_under limits place src held info header rest dst b whole t =
    let len = taken_len t in
    let k : ℕ = length held / max_payload in
    let is : length held ≡ k * max_payload = blocks_whole (length held) whole in
    let little : chunk_len src ≤ max_payload = chunk_len_small src b (omega (arith, t.whole)) in
    record {
      begins = ap (λ (z : List ℕ). take (length held) z) t.dst_is ∙ take_at held (take (chunk_len src) (drop 4 src)) (length held) refl;
      small = λ index from some.
          let here : index ≡ k = same_block index k (omega arith) (omega arith) in
          let fits : length held + chunk_len src ≤ rest_limit limits place held src = elim t.fits [ inl none ↦ absurd (omega arith) | inr small ↦ small ] in
          let size : length held + chunk_len src ≡ min (length dst) (k * max_payload + max_payload) = omega arith in
          rw (here, sym size) (bound_allows (limit_at limits place k) (length held + chunk_len src) fits);
    }

pub splits_here_under : (limits : Limits) (place first : ℕ) (held src : List ℕ) → IsWholeChunks held → SplitsUnder limits place held (front first held ++ src) first [] held src
splits_here_under limits place first held src whole = record {
  is = refl;
  held_whole = whole;
  unfinished_whole = whole;
  within = record { begins = take_all (length held) held (omega arith); small = λ index from some. absurd (omega arith) };
}

-- a last chunk makes the packet whole
pub last_under : (first : ℕ) {limits : Limits} {mark place limit : ℕ} {h : Option (ℕ × ℕ)} {id : ℕ} {src held : List ℕ} {header : Option (ℕ × ℕ)} {rest dst : List ℕ}
    → GoesOnAt limits mark place limit h src held → IsSpelled src → id ≡ id_at first held → Taken (rest_limit limits place held src) src held (Last id) header rest dst
    → DecodesOn limits mark place first (front first held ++ src) held (Ok true) ((id + 1) % 256) header rest dst
last_under first {limits = limits} {mark = mark} {place = place} {limit = limit} {h = h} {id = id} {src = src} {held = held} {header = header} {rest = rest} {dst = dst} g b at t =
    let whole = g.aligned.0 in
    let behind = behind_mark limits mark place limit h src held g in
    let len = taken_len t in
    elim (t.kind (chunk_len_small src b (omega (arith, t.whole)))) [
      | inl full ↦ absurd (let e = full.1 in cc)
      | inr part ↦
          let is : id ≡ slice_index src 3 = let e = part.1 in cc in
          let count : length dst / max_payload ≡ length held / max_payload = ap (λ (n : ℕ). n / max_payload) len ∙ (part_more (length held) (chunk_len src) whole part.0).1 in
          let joins = chunk_joins first _ src held (Last id) header rest dst b whole (sym is ∙ at) t in
          let all = blocks_whole (length held) whole in (
            (joins ∙ ap (λ (n : ℕ). chunks (suc n) first dst ++ rest) (sym count), taken_under limits place src held (Last id) header rest dst b whole t, omega arith, t.none),
            omega arith,
          )
    ]

-- a full chunk joins the full ones
pub middle_under : (first : ℕ) {limits : Limits} {mark place limit : ℕ} {h : Option (ℕ × ℕ)} {id : ℕ} {src held : List ℕ} {header : Option (ℕ × ℕ)} {rest dst : List ℕ}
    → GoesOnAt limits mark place limit h src held → IsSpelled src → id ≡ id_at first held → Taken (rest_limit limits place held src) src held (Middle id) header rest dst
    → SplitsUnder limits place held (front first held ++ src) first [] dst rest × ((id + 1) % 256 ≡ id_at first dst) × GoesOnAt limits mark place limit header rest dst × (header ≡ None)
middle_under first {limits = limits} {mark = mark} {place = place} {limit = limit} {h = h} {id = id} {src = src} {held = held} {header = header} {rest = rest} {dst = dst} g b at t =
    let whole = g.aligned.0 in
    let behind = behind_mark limits mark place limit h src held g in
    let len = taken_len t in
    elim (t.kind (chunk_len_small src b (omega (arith, t.whole)))) [
      | inr part ↦ absurd (let e = part.1 in cc)
      | inl full ↦
          let is : id ≡ slice_index src 3 = let e = full.1 in cc in
          let more = whole_more (length held) (chunk_len src) whole full.0 in
          let count : length dst / max_payload ≡ suc (length held / max_payload) = ap (λ (n : ℕ). n / max_payload) len ∙ more.1 ∙ omega arith in
          let dst_whole : IsWholeChunks dst = ap (λ (n : ℕ). n % max_payload) len ∙ more.0 in
          let joins = chunk_joins first _ src held (Middle id) header rest dst b whole (sym is ∙ at) t in
          let later : unread_place place dst ≡ unread_place place held + (4 + chunk_len src) =
          (let l = full.0 in ap (λ (n : ℕ). place + (n * max_payload + 4 * n)) count ∙ omega arith) in
          let rest_len : length rest ≡ length src - (4 + chunk_len src) = ap (λ (z : List ℕ). length z) t.rest_is ∙ length-drop (4 + chunk_len src) src in (
            record {
              is = joins ∙ ap (λ (n : ℕ). chunks n first dst ++ rest) (sym count);
              held_whole = whole;
              unfinished_whole = dst_whole;
              within = taken_under limits place src held (Middle id) header rest dst b whole t;
            },
            omega arith,
            rw t.none (record {
              aligned = (dst_whole, tt);
              marked = omega arith;
              same = λ i low high.
                  let at : unread_place place dst + i ≡ unread_place place held + (4 + chunk_len src + i) = omega arith in
                  ap limits at ∙ g.same (4 + chunk_len src + i) (omega arith) (omega arith);
            }),
            t.none,
          )
    ]

-- a chunk of another id
pub other_under : (first : ℕ) (info : ChunkInfo) {limits : Limits} {mark place limit : ℕ} {h : Option (ℕ × ℕ)} {id : ℕ} {src held : List ℕ} {header : Option (ℕ × ℕ)} {rest dst : List ℕ}
    → GoesOnAt limits mark place limit h src held → IsSpelled src → id ≡ id_at first held → id_of info ≢ id → Taken (rest_limit limits place held src) src held info header rest dst
    → DecodesOn limits mark place first (front first held ++ src) held (Err PacketsOutOfSync) id header rest dst
other_under first info {limits = limits} {place = place} {src = src} {held = held} g b at apart t =
    let splits = splits_here_under limits place first held src g.aligned.0 in
    let other : slice_index src 3 ≢ id_at first held = λ e. apart (sym (taken_id b t) ∙ e ∙ sym at) in
    ((held, src, record { splits = splits; ends = (t.whole, t.fits, other) }, t.dst_is, t.rest_is, at, t.none), λ e. absurd cc)

-- more bytes are needed
pub awaited_under : (first : ℕ) {limits : Limits} {mark place limit : ℕ} {h : Option (ℕ × ℕ)} {id : ℕ} {src held : List ℕ} (header : Option (ℕ × ℕ)) (rest dst : List ℕ)
    → GoesOnAt limits mark place limit h src held → id ≡ id_at first held → Outcome (rest_limit limits place held src) src held (Ok None) header rest dst
    → DecodesOn limits mark place first (front first held ++ src) held (Ok false) id header rest dst
awaited_under first {limits = limits} {place = place} {src = src} {held = held} header rest dst g at (r, d, inl (less, x)) =
    let splits = splits_here_under limits place first held src g.aligned.0 in
    rw (r, d, x) ((record { splits = splits; ends = inl less }, at, (g.aligned.0, tt), (λ s. absurd (none_some s), λ long. absurd (omega arith))), tt)
awaited_under first {limits = limits} {place = place} {src = src} {held = held} header rest dst g at (r, d, inr (long, some, small, less, x)) =
    let splits = splits_here_under limits place first held src g.aligned.0 in
    rw (r, d, x) ((record { splits = splits; ends = inr (some, small, less) }, at, (g.aligned.0, (long, refl, refl, some)), (λ s. long, λ l. search rules)), tt)

-- the chunk is refused, or no memory is found
pub failed_under : (error : PacketCodecError) (first : ℕ) {limits : Limits} {mark place limit : ℕ} {h : Option (ℕ × ℕ)} {id : ℕ} {src held : List ℕ} (header : Option (ℕ × ℕ)) (rest dst : List ℕ)
    → GoesOnAt limits mark place limit h src held → id ≡ id_at first held → Outcome (rest_limit limits place held src) src held (Err error) header rest dst
    → DecodesOn limits mark place first (front first held ++ src) held (Err error) id header rest dst
failed_under error first {limits = limits} {place = place} {src = src} {held = held} header rest dst g at (r, d, long, some, inl (is, more, x)) =
    rw (is, r, d, x) ((record { splits = splits_here_under limits place first held src g.aligned.0; ends = (long, some, more) }, at, refl), λ e. absurd cc)
failed_under error first {limits = limits} {mark = mark} {place = place} {limit = limit} {h = h} {src = src} {held = held} header rest dst g at (r, d, long, some, inr (is, small, x)) =
    let allowed = bound_allows (limit_at limits place (length held / max_payload)) (length held + chunk_len src) small in
    rw (is, r, d, x) (
      (splits_here_under limits place first held src g.aligned.0, at, (g.aligned.0, (long, refl, refl, some)), allowed, search rules),
      λ e. behind_mark limits mark place limit h src held g,
    )

-- a full chunk with nothing after it
pub alone_under : {limits : Limits} {mark place limit first id : ℕ} (src : List ℕ) {held : List ℕ} {header : Option (ℕ × ℕ)} {rest dst : List ℕ}
    → length rest ≡ 0 → SplitsUnder limits place held (front first held ++ src) first [] dst rest × (id ≡ id_at first dst) × GoesOnAt limits mark place limit header rest dst × (header ≡ None)
    → DecodesOn limits mark place first (front first held ++ src) held (Ok false) id header rest dst
alone_under src none s =
    rw s.3 ((record { splits = s.0; ends = inl (omega arith) }, s.1, (s.0.unfinished_whole, tt), (λ z. absurd (none_some z), λ long. absurd (omega arith))), tt)

-- what was held before, and what is held now
decodes_on : (answer : Result Bool PacketCodecError) {limits : Limits} (mark : ℕ) {place first : ℕ} {before input held src : List ℕ} (id : ℕ) (header : Option (ℕ × ℕ)) (rest dst : List ℕ)
    → SplitsUnder limits place before input first [] held src → DecodesOn limits mark place first (front first held ++ src) held answer id header rest dst
    → DecodesOn limits mark place first input before answer id header rest dst
decodes_on (Ok true) mark id header rest dst s d = ((s.is ∙ d.0.0, under_trans s.unfinished_whole s.within d.0.1, d.0.2, d.0.3), d.1)
decodes_on (Ok false) mark id header rest dst s d = ((delivers_trans s d.0.0, d.0.1, d.0.2, d.0.3), d.1)
decodes_on (Err PacketTooLarge) mark id header rest dst s d = ((delivers_trans s d.0.0, d.0.1, d.0.2), d.1)
decodes_on (Err PacketsOutOfSync) mark id header rest dst s d = ((d.0.0, d.0.1, delivers_trans s d.0.2, d.0.3, d.0.4, d.0.5, d.0.6), d.1)
decodes_on (Err OutOfMemory) mark id header rest dst s d = ((splits_trans s d.0.0, d.0.1, d.0.2, d.0.3, d.0.4), d.1)
decodes_on (Err (Io e)) mark id header rest dst s d = absurd d.0

pub takes_on_under : (answer : Result Progress PacketCodecError) {limits : Limits} (mark limit : ℕ) {place first : ℕ} {before input held src : List ℕ} (id : ℕ) (header : Option (ℕ × ℕ)) (rest dst : List ℕ)
    → SplitsUnder limits place before input first [] held src → TakesOn limits mark place limit first (front first held ++ src) held answer id header rest dst
    → TakesOn limits mark place limit first input before answer id header rest dst
takes_on_under (Ok Whole) mark limit id header rest dst s t = decodes_on (Ok true) mark id header rest dst s t
takes_on_under (Ok Starved) mark limit id header rest dst s t = decodes_on (Ok false) mark id header rest dst s t
takes_on_under (Ok More) mark limit id header rest dst s t = (splits_trans s t.0, t.1, t.2)
takes_on_under (Err e) mark limit id header rest dst s t = decodes_on (Err e) mark id header rest dst s t

-- where a run begins
pub length-input : (first : ℕ) (src held : List ℕ) → length (front first held ++ src) ≡ unread_place 0 held + length src
length-input first src held = length-append (front first held) src ∙ ap (λ (n : ℕ). n + length src) (length-front_under first held) ∙ omega arith

abbrev pub start_mark : Option (ℕ × ℕ) → List ℕ → ℕ
start_mark None held = unread_place 0 held + 3
start_mark (Some h) held = unread_place 0 held + 4

-- a place that is not that of a remembered header
pub not_remembered : (header : Option (ℕ × ℕ)) (end place : ℕ) → (IsSome header → place ≡ end → ⊥) → header_ends_at header end place ≡ false
not_remembered None end place apart = refl
not_remembered (Some h) end place apart = ne_eqb place end (apart (search rules))

pub aligned_long : (header : Option (ℕ × ℕ)) (src held : List ℕ) → AlignedAt header src held → IsSome header → 4 ≤ length src
aligned_long None src held aligned some = absurd (none_some some)
aligned_long (Some h) src held aligned some = aligned.1.0

start_same : (state : CodecState) (pieces : List (ℕ × Bor (List ℕ))) (i : ℕ) → (IsSome state.header → 4 ≤ i) → i < length state.unread
    → run_limits state pieces (unread_place 0 state.held + i) ≡ Some state.limit
start_same state pieces i low high =
    let inside : unread_place 0 state.held + i < length (input_of state) = let e = length-input (first_id state) state.unread state.held in omega arith in
    ap₂ (λ (s t : Bool). if s then None else Some (if t then state.limit else piece_limit state.limit pieces (unread_place 0 state.held + i - length (input_of state))))
    (not_remembered state.header _ _ (λ some e. let far = low some in absurd (omega arith))) (lt-ltb _ _ inside)

pub goes_on_start : (limit id : ℕ) (header : Option (ℕ × ℕ)) (src held : List ℕ) (pieces : List (ℕ × Bor (List ℕ)))
    → AlignedAt header src held
    → GoesOnAt (run_limits (record { limit = limit; id = id; header = header; unread = src; held = held }) pieces) (start_mark header held) 0 limit header src held
goes_on_start limit id None src held pieces aligned = record {
  aligned = aligned;
  marked = omega arith;
  same = λ i low high. start_same (record { limit = limit; id = id; header = None; unread = src; held = held }) pieces i (λ some. absurd (none_some some)) high;
}
goes_on_start limit id (Some h) src held pieces aligned = record {
  aligned = aligned;
  marked = (
    subst (λ (t : Bool). Allows (if t then None else Some (if nat_lt (unread_place 0 held + 3) (length (front (open_id id held) held ++ src)) then limit else piece_limit limit pieces (unread_place 0 held + 3 - length (front (open_id id held) held ++ src)))) (length held + h.1))
        (sym (eq-eqb (unread_place 0 held + 3) (unread_place 0 held + 3) refl)) tt,
    omega arith,
  );
  same = λ i low high. start_same (record { limit = limit; id = id; header = Some h; unread = src; held = held }) pieces i (λ some. omega arith) high;
}

-- nothing has come yet
pub empty_goes_on_is : EmptyGoesOn
unfolding max_payload
empty_goes_on_is limits place id limit = record { aligned = (refl, tt); marked = omega arith; same = λ i low high. absurd (omega arith) }

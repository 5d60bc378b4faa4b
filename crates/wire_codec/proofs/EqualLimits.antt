-- Equal limits are one limit.
use Rattle.std.proofs.Common.{◌≡◌, ℕ, ◌+◌, ◌-◌, ◌*◌, ◌/◌, ◌<◌, ◌≤◌, ◌⊎◌, List, [], ◌∷◌, ◌++◌, length, suc, refl, sym, ap, ◌∙◌, subst, arith, append_assoc, inl, inr, min, Option, Some, None, All, Bor, Bool, true, false, if◌then◌else◌, nat_lt, ◌==◌, ne_eqb, eq-eqb}
use Rattle.std.proofs.lemmas.List.Elements.{All-head, All-tail}
use Rattle.std.proofs.lemmas.Bool.{cases_lt}
use Rattle.wire_codec.specs.Framing.{max_payload, chunks, framing, front, next_id, stream, id_after}
use Rattle.wire_codec.specs.Delivery.{chunk_len, IsWholeChunks, Ending, Waiting, TooLarge, OutOfSync, Ends}
use Rattle.wire_codec.specs.Codec.{first_id, input_of, StandsAt, open_id}
use Rattle.wire_codec.specs.Limited.{Limits, Allows, bound, chunk_place, framed_size, place_after, ContinuesUnder, AreUnder}
use Rattle.wire_codec.specs.LimitedRuns.{run_limits, piece_limit, unread_place}
use Rattle.wire_codec.specs.Laws.{EqualLimits}
use Rattle.wire_codec.proofs.ChunkLemmas.{blocks_above, blocks_whole, block_below, more_blocks, place_same, chunks_cancel}
use Rattle.wire_codec.proofs.ConstantLimit.{one, delivers_one, one_delivers}
use Rattle.wire_codec.proofs.DeliveryLemmas.{next_len}
use Rattle.wire_codec.proofs.LimitedLemmas.{begins_long, length-stream_under}
use Rattle.wire_codec.proofs.RunLemmas.{chunk_len_append}

-- each limit is this one, but for that of the remembered header, whose chunk is within it
abbrev SameLimit : Limits → ℕ → List ℕ → List ℕ → Type 0
SameLimit limits limit held src = (x : ℕ)
    → (limits x ≡ Some limit)
    ⊎ ((x ≡ chunk_place 0 (length held / max_payload) + 3) × (limits x ≡ None) × (4 ≤ length src) × (length held + chunk_len src ≤ limit))

-- limits changed byte by byte
map_are : (a b : Limits) (place : ℕ) (held : List ℕ) (ps : List (List ℕ)) (q : List ℕ) → ((x n : ℕ) → place ≤ x → Allows (a x) n → Allows (b x) n)
    → AreUnder a place held ps q → AreUnder b place held ps q
map_are a b place held [] q goes c = record { begins = c.begins; small = λ index from some. goes _ _ (omega arith) (c.small index from some) }
map_are a b place held (p ∷ ps) q goes c = (
  record { begins = c.0.begins; small = λ index from some. goes _ _ (omega arith) (c.0.small index from some) },
  map_are a b (place + framed_size p) [] ps q (λ x n later. goes x n (omega arith)) c.1,
)

-- to this one, after the remembered header, and from it
allows_one : (limits : Limits) (L : ℕ) (d src : List ℕ) → SameLimit limits L d src → (x n : ℕ) → chunk_place 0 (length d / max_payload) + 3 < x → Allows (limits x) n → n ≤ L
allows_one limits L d src same x n behind allows =
    elim (same x) [ inl is ↦ subst (λ (b : Option ℕ). Allows b n) is allows | inr here ↦ absurd (let e = here.0 in omega arith) ]

one_allows : (limits : Limits) (L : ℕ) (d src : List ℕ) → SameLimit limits L d src → (x n : ℕ) → n ≤ L → Allows (limits x) n
one_allows limits L d src same x n fits =
    elim (same x) [ inl is ↦ subst (λ (b : Option ℕ). Allows b n) (sym is) fits | inr here ↦ subst (λ (b : Option ℕ). Allows b n) (sym here.1) tt ]

-- the first payload, whose chunk may have the remembered header
first_one : (limits : Limits) (L s m : ℕ) (d src more p y : List ℕ) → IsWholeChunks d → SameLimit limits L d src
    → (length d < length p → suc (length d / max_payload) ≤ m) → front s d ++ (src ++ more) ≡ chunks m s p ++ y
    → ContinuesUnder limits 0 d p → ContinuesUnder (one L) 0 d p
first_one limits L s m d src more p y whole same count is c = record {
  begins = c.begins;
  small = λ index from some. elim (same (chunk_place 0 index + 3)) [
    | inl equal ↦ subst (λ (b : Option ℕ). Allows b (min (length p) (index * max_payload + max_payload))) equal (c.small index from some)
    | inr here ↦
        let k : ℕ = length d / max_payload in
        let len : length d ≡ k * max_payload = blocks_whole (length d) whole in
        let there : index * max_payload ≡ k * max_payload = ap (λ (n : ℕ). n * max_payload) (place_same index k (let e = here.0 in omega arith)) in
        let many : m ≡ suc k + (m - suc k) = (let h = count (omega arith) in omega arith) in
        let says = next_len s k (m - suc k) d p (src ++ more) y len (omega arith) (is ∙ ap (λ (n : ℕ). chunks n s p ++ y) many) in
        let same_len = chunk_len_append src more here.2 in
        let fits : min (length p) (index * max_payload + max_payload) ≤ L = let fits = here.3 in omega arith in
        fits
  ];
}

-- the first payload's framing goes past the remembered header
past_header : (d p : List ℕ) → IsWholeChunks d → length d ≤ length p → chunk_place 0 (length d / max_payload) + 3 < framed_size p
past_header d p whole long =
    let k : ℕ = length d / max_payload in
    let is : length d ≡ k * max_payload = blocks_whole (length d) whole in
    let above = blocks_above (length p) in
    let enough : k ≤ length p / max_payload = block_below k (length p / max_payload) (suc (length p)) (omega arith) (omega arith) in
    omega arith

-- the payloads are within the one limit
are_one : (limits : Limits) (L s : ℕ) (d src more : List ℕ) (ps : List (List ℕ)) (q W : List ℕ) → IsWholeChunks d → IsWholeChunks q → SameLimit limits L d src
    → front s d ++ (src ++ more) ≡ stream s ps ++ (front (id_after s ps) q ++ W) → AreUnder limits 0 d ps q → AreUnder (one L) 0 d ps q
are_one limits L s d src more [] q W wd wq same is a =
    let len_d = blocks_whole (length d) wd in
    let len_q = blocks_whole (length q) wq in
    first_one limits L s (length q / max_payload) d src more q W wd same (λ less. more_blocks (length d / max_payload) (length q / max_payload) (omega arith)) is a
are_one limits L s d src more (p ∷ ps) q W wd wq same is a =
    let len_d = blocks_whole (length d) wd in
    let above = blocks_above (length p) in
    let behind = past_header d p wd (begins_long d p a.0.begins) in (
      first_one limits L s (suc (length p / max_payload)) d src more p (stream (next_id s p) ps ++ (front (id_after (next_id s p) ps) q ++ W)) wd same
          (λ less. (let e = block_below (length d / max_payload) (length p / max_payload) (length p) (omega arith) (omega arith) in omega arith))
          (is ∙ append_assoc (framing s p) (stream (next_id s p) ps) (front (id_after (next_id s p) ps) q ++ W)) a.0,
      map_are limits (one L) (0 + framed_size p) [] ps q (λ x n later. allows_one limits L d src same x n (omega arith)) a.1,
    )

-- the ends are the same
ends_same : (e : Ending) (s a b : ℕ) (q W : List ℕ) → length q + chunk_len W ≤ a → length q + chunk_len W ≤ b → Ends e s a q W → Ends e s b q W
ends_same Waiting s a b q W ha hb (inl h) = inl h
ends_same Waiting s a b q W ha hb (inr h) = inr (h.0, hb, h.2)
ends_same TooLarge s a b q W ha hb h = absurd (let g = h.2 in omega arith)
ends_same OutOfSync s a b q W ha hb h = (h.0, inr hb, h.2)

-- where the rest is judged by the remembered header
here_fits : (limits : Limits) (L s : ℕ) (d src more : List ℕ) (ps : List (List ℕ)) (q W : List ℕ) → IsWholeChunks d → IsWholeChunks q
    → front s d ++ (src ++ more) ≡ stream s ps ++ (front (id_after s ps) q ++ W) → AreUnder limits 0 d ps q
    → chunk_place (place_after 0 ps) (length q / max_payload) + 3 ≡ chunk_place 0 (length d / max_payload) + 3 → 4 ≤ length src → length d + chunk_len src ≤ L
    → length q + chunk_len W ≤ L
here_fits limits L s d src more [] q W wd wq is a at long fits =
    let k : ℕ = length d / max_payload in
    let same : length q / max_payload ≡ k = place_same (length q / max_payload) k (omega arith) in
    let len_d : length d ≡ k * max_payload = blocks_whole (length d) wd in
    let len_q : length q ≡ k * max_payload = blocks_whole (length q) wq ∙ ap (λ (n : ℕ). n * max_payload) same in
    let parts = chunks_cancel k s d q (src ++ more) W (omega arith) (omega arith) (is ∙ ap (λ (n : ℕ). chunks n s q ++ W) same) in
    let says : chunk_len W ≡ chunk_len src = ap (λ (z : List ℕ). chunk_len z) (sym parts.1) ∙ chunk_len_append src more long in
    omega arith
here_fits limits L s d src more (p ∷ ps) q W wd wq is a at long fits =
    let behind = past_header d p wd (begins_long d p a.0.begins) in
    let up = length-stream_under s (0 + framed_size p) ps in
    absurd (omega arith)

-- pieces that all have the codec's limit
if_same : (b : Bool) (u v w : ℕ) → u ≡ w → v ≡ w → (if b then u else v) ≡ w
if_same true u v w a c = a
if_same false u v w a c = c

pieces_same : (last L : ℕ) (pieces : List (ℕ × Bor (List ℕ))) (x : ℕ) → last ≡ L → All (λ (piece : ℕ × Bor (List ℕ)). piece.0 ≡ L) pieces → piece_limit last pieces x ≡ L
pieces_same last L [] x e a = e
pieces_same last L (piece ∷ pieces) x e a =
    let here : piece.0 ≡ L = All-head (λ (z : ℕ × Bor (List ℕ)). z.0 ≡ L) piece pieces a in
    if_same (nat_lt x (length piece.1.now)) piece.0 (piece_limit piece.0 pieces (x - length piece.1.now)) L here
    (pieces_same piece.0 L pieces (x - length piece.1.now) here (All-tail (λ (z : ℕ × Bor (List ℕ)). z.0 ≡ L) piece pieces a))

run_limits_same : (limit id : ℕ) (header : Option (ℕ × ℕ)) (src held : List ℕ) (pieces : List (ℕ × Bor (List ℕ)))
    → StandsAt limit header src held → All (λ (piece : ℕ × Bor (List ℕ)). piece.0 ≡ limit) pieces
    → SameLimit (run_limits (record { limit = limit; id = id; header = header; unread = src; held = held }) pieces) limit held src
run_limits_same limit id None src held pieces stands a x =
    let n : ℕ = length (front (open_id id held) held ++ src) in
    inl (ap (λ (m : ℕ). Some m) (if_same (nat_lt x n) limit (piece_limit limit pieces (x - n)) limit refl (pieces_same limit limit pieces (x - n) refl a)))
run_limits_same limit id (Some h) src held pieces stands a x =
    let n : ℕ = length (front (open_id id held) held ++ src) in
    let end : ℕ = unread_place 0 held + 3 in
    let known : (if nat_lt x n then limit else piece_limit limit pieces (x - n)) ≡ limit = if_same (nat_lt x n) limit (piece_limit limit pieces (x - n)) limit refl (pieces_same limit limit pieces (x - n) refl a) in
    let other : (x ≡ end → ⊥) → (if x == end then None else Some (if nat_lt x n then limit else piece_limit limit pieces (x - n))) ≡ Some limit =
    λ apart. ap (λ (t : Bool). if t then None else Some (if nat_lt x n then limit else piece_limit limit pieces (x - n))) (ne_eqb x end apart) ∙ ap (λ (m : ℕ). Some m) known in
    let t = stands.1 in
    elim (cases_lt x end) [
      | inl less ↦ inl (other (λ e. absurd (omega arith)))
      | inr not_less ↦ elim (cases_lt end x) [
        | inl more ↦ inl (other (λ e. absurd (omega arith)))
        | inr not_more ↦
            let at : x ≡ end = omega arith in
            inr (at, ap (λ (t : Bool). if t then None else Some (if nat_lt x n then limit else piece_limit limit pieces (x - n))) (eq-eqb x end at), t.0, (let l = t.2 in let f = t.4 in omega arith))
      ]
    ]

pub equal_limits_is : EqualLimits
equal_limits_is before pieces more ps e q W stands all =
    let L = before.limit in
    let s = first_id before in
    let d = before.held in
    let src = before.unread in
    let limits = run_limits before pieces in
    let judged = λ (b : Option ℕ). Ends e (id_after s ps) (bound b (length q + chunk_len W)) q W in
    let place = chunk_place (place_after 0 ps) (length q / max_payload) + 3 in
    let same = run_limits_same L before.id before.header src d pieces stands all in
    let apart : (a : List ℕ) → input_of before ++ more ≡ a → front s d ++ (src ++ more) ≡ a = λ a is. sym (append_assoc (front s d) src more) ∙ is in (
      λ a.
          let fits = here_fits limits L s d src more ps q W a.splits.held_whole a.splits.unfinished_whole (apart _ a.splits.is) a.splits.within in
          delivers_one (record {
            splits = record {
              is = a.splits.is;
              held_whole = a.splits.held_whole;
              unfinished_whole = a.splits.unfinished_whole;
              within = are_one limits L s d src more ps q W a.splits.held_whole a.splits.unfinished_whole same (apart _ a.splits.is) a.splits.within;
            };
            ends = elim (same place) [
              | inl equal ↦ subst judged equal a.ends
              | inr here ↦ ends_same e (id_after s ps) (length q + chunk_len W) L q W (omega arith) (fits here.0 here.2 here.3) (subst judged here.1 a.ends)
            ];
          }),
      λ a.
          let under = one_delivers 0 a in
          let within = map_are (one L) limits 0 d ps q (λ x n later. one_allows limits L d src same x n) under.splits.within in
          let fits = here_fits limits L s d src more ps q W a.splits.held_whole a.splits.unfinished_whole (apart _ a.splits.is) within in
          record {
            splits = record { is = a.splits.is; held_whole = a.splits.held_whole; unfinished_whole = a.splits.unfinished_whole; within = within };
            ends = elim (same place) [
              | inl equal ↦ subst judged (sym equal) a.ends
              | inr here ↦ subst judged (sym here.1) (ends_same e (id_after s ps) L (length q + chunk_len W) q W (fits here.0 here.2 here.3) (omega arith) a.ends)
            ];
          },
    )

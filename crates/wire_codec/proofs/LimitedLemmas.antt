-- What one input delivers where each byte has its limit: runs joined, and no two readings of one
-- input.
use Rattle.std.proofs.Common.{◌≡◌, ℕ, ◌+◌, ◌*◌, ◌/◌, ◌≤◌, List, [], ◌∷◌, ◌++◌, length, take, refl, sym, ap, ap₂, ◌∙◌, subst, arith, append_assoc, length-append, length-take, inl, inr, min, max, Option, Some, None, MatchOption}
use Rattle.std.proofs.lemmas.List.{take-take}
use Rattle.std.proofs.lemmas.Bool.{cases_lt}
use Rattle.wire_codec.specs.Framing.{max_payload, framing, front, next_id, stream, id_after}
use Rattle.wire_codec.specs.Delivery.{chunk_len, IsWholeChunks, Ending, Ends}
use Rattle.wire_codec.specs.Limited.{Limits, Allows, AreAtMost, bound, chunk_place, framed_size, place_after, limit_at, ContinuesUnder, AreUnder, SplitsUnder, rest_limit, DeliversUnder}
use Rattle.wire_codec.specs.Laws.{JoinedLimitedRuns, OneLimitedDelivery}
use Rattle.wire_codec.proofs.ChunkLemmas.{blocks_below, blocks_whole, last_block, whole_below, whole_end, length-framing, length-chunks, framing_cancel}
use Rattle.wire_codec.proofs.DeliveryLemmas.{FitsAt, stops_once, not_whole, stream-append, id_after-append, one_ending}

-- a limit and the number that is compared
pub allows_bound : (b : Option ℕ) (n : ℕ) → Allows b n → n ≤ bound b n
allows_bound None n h = omega arith
allows_bound (Some L) n h = h

pub bound_allows : (b : Option ℕ) (n : ℕ) → n ≤ bound b n → Allows b n
bound_allows None n h = tt
bound_allows (Some L) n h = h

-- places
pub place_after-append : (place : ℕ) (ps qs : List (List ℕ)) → place_after place (ps ++ qs) ≡ place_after (place_after place ps) qs
place_after-append place [] qs = refl
place_after-append place (p ∷ ps) qs = place_after-append (place + framed_size p) ps qs

-- what continues something held is at least as long
pub begins_long : (d p : List ℕ) → take (length d) p ≡ d → length d ≤ length p
begins_long d p begins =
    let e : min (length d) (length p) ≡ length d = sym (length-take (length d) p) ∙ ap (λ (z : List ℕ). length z) begins in omega arith

pub under_trans : {limits : Limits} {place : ℕ} {d q p : List ℕ} → IsWholeChunks q → ContinuesUnder limits place d q → ContinuesUnder limits place q p → ContinuesUnder limits place d p
under_trans {limits = limits} {place = place} {d = d} {q = q} {p = p} whole c e =
    let long : length d ≤ length q = begins_long d q c.begins in
    let longer : length q ≤ length p = begins_long q p e.begins in
    let same : take (length d) p ≡ take (length d) q = sym (take-take (length d) (length q) p long) ∙ ap (λ (z : List ℕ). take (length d) z) e.begins in
    record {
      begins = same ∙ c.begins;
      small = λ index from some. elim (cases_lt (index * max_payload) (length q)) [
        | inl inside ↦
            let full : index * max_payload + max_payload ≤ length q = whole_end index (length q) whole inside in
            let e : min (length q) (index * max_payload + max_payload) ≡ min (length p) (index * max_payload + max_payload) = omega arith in
            subst (λ (n : ℕ). Allows (limit_at limits place index) n) e (c.small index from inside)
        | inr outside ↦ e.small index outside some
      ];
    }

pub under_append : (limits : Limits) (place : ℕ) (d : List ℕ) (ps qs : List (List ℕ)) (q r : List ℕ) → IsWholeChunks q
    → AreUnder limits place d ps q → AreUnder limits (place_after place ps) q qs r → AreUnder limits place d (ps ++ qs) r
under_append limits place d [] [] q r whole a b = under_trans whole a b
under_append limits place d [] (p ∷ qs) q r whole a b = (under_trans whole a b.0, b.1)
under_append limits place d (p ∷ ps) qs q r whole a b = (a.0, under_append limits (place + framed_size p) [] ps qs q r whole a.1 b)

-- a run goes on to another
pub splits_trans : {limits : Limits} {place : ℕ} {d S : List ℕ} {s : ℕ} {ps : List (List ℕ)} {q W : List ℕ} {qs : List (List ℕ)} {r V : List ℕ}
    → SplitsUnder limits place d S s ps q W → SplitsUnder limits (place_after place ps) q (front (id_after s ps) q ++ W) (id_after s ps) qs r V
    → SplitsUnder limits place d S s (ps ++ qs) r V
splits_trans {limits = limits} {place = place} {d = d} {s = s} {ps = ps} {q = q} {qs = qs} {r = r} {V = V} a b = record {
  is = rw (stream-append s ps qs, id_after-append s ps qs) (a.is ∙ ap (λ (z : List ℕ). stream s ps ++ z) b.is
      ∙ sym (append_assoc (stream s ps) (stream (id_after s ps) qs) (front (id_after (id_after s ps) qs) r ++ V)));
  held_whole = a.held_whole;
  unfinished_whole = b.unfinished_whole;
  within = under_append limits place d ps qs q r a.unfinished_whole a.within b.within;
}

pub delivers_trans : {limits : Limits} {place : ℕ} {d S : List ℕ} {s : ℕ} {ps : List (List ℕ)} {q W : List ℕ} {qs : List (List ℕ)} {e : Ending} {r V : List ℕ}
    → SplitsUnder limits place d S s ps q W → DeliversUnder limits (place_after place ps) q (front (id_after s ps) q ++ W) (id_after s ps) qs e r V
    → DeliversUnder limits place d S s (ps ++ qs) e r V
delivers_trans {place = place} {s = s} {ps = ps} {qs = qs} a b =
    record { splits = splits_trans a b.splits; ends = rw (id_after-append s ps qs, place_after-append place ps qs) b.ends }

-- a run over the whole input, of which a part is left
pub splits_more : {limits : Limits} {place : ℕ} {d S : List ℕ} {s : ℕ} {ps : List (List ℕ)} {q W : List ℕ} (x : List ℕ)
    → SplitsUnder limits place d S s ps q W → SplitsUnder limits place d (S ++ x) s ps q (W ++ x)
splits_more {s = s} {ps = ps} {q = q} {W = W} x a = record {
  is = ap (λ (z : List ℕ). z ++ x) a.is ∙ append_assoc (stream s ps) (front (id_after s ps) q ++ W) x
      ∙ ap (λ (z : List ℕ). stream s ps ++ z) (append_assoc (front (id_after s ps) q) W x);
  held_whole = a.held_whole;
  unfinished_whole = a.unfinished_whole;
  within = a.within;
}

-- one run, and then another over what it left and what came
pub delivers_join_under : JoinedLimitedRuns
delivers_join_under limits place d S s ps q W x qs e r V a b = delivers_trans (splits_more x a) b

-- under limits of which none is above this number, a payload is no longer than it, or than what was held
at_most : (most : ℕ) (limit : Option ℕ) (size : ℕ) → MatchOption limit ⊥ (λ n. n ≤ most) → Allows limit size → size ≤ most
at_most most None size is allows = absurd is
at_most most (Some limit) size is allows = omega arith

pub under_most : (limits : Limits) (most place : ℕ) (held payload : List ℕ) → AreAtMost most limits → IsWholeChunks held
    → ContinuesUnder limits place held payload → length payload ≤ max most (length held)
under_most limits most place held payload few whole c =
    elim (cases_lt (length held) (length payload)) [
      | inr short ↦ omega arith
      | inl longer ↦
          let last = last_block (length payload) (omega arith) in
          let fits = at_most most (limit_at limits place last.0) _ (few _) (c.small last.0 (whole_below last.0 (length held) (length payload) whole longer last.2) last.1) in
          let high = last.2 in
          omega arith
    ]

-- a payload's chunks are within the limits where another reading stops
fits_under : (limits : Limits) (place : ℕ) (d q p W : List ℕ) → IsWholeChunks q → length d ≤ length q → ContinuesUnder limits place d p
    → FitsAt (rest_limit limits place q W) (length q / max_payload) q W p
fits_under limits place d q p W whole long c some size =
    let k : ℕ = length q / max_payload in
    let is : length q ≡ k * max_payload = blocks_whole (length q) whole in
    let allowed : Allows (limit_at limits place k) (length q + chunk_len W) = subst (λ (n : ℕ). Allows (limit_at limits place k) n) (sym size) (c.small k (omega arith) some) in
    allows_bound (limit_at limits place k) (length q + chunk_len W) allowed

-- what a stream delivers, as one list of its parts
one_reading_under : (limits : Limits) (e f : Ending) (s place : ℕ) (d : List ℕ) (ps qs : List (List ℕ)) (q r W V : List ℕ)
    → IsWholeChunks q → IsWholeChunks r → AreUnder limits place d ps q → AreUnder limits place d qs r
    → stream s ps ++ (front (id_after s ps) q ++ W) ≡ stream s qs ++ (front (id_after s qs) r ++ V)
    → Ends e (id_after s ps) (rest_limit limits (place_after place ps) q W) q W → Ends f (id_after s qs) (rest_limit limits (place_after place qs) r V) r V
    → (ps ≡ qs) × (q ≡ r) × (W ≡ V)
one_reading_under limits e f s place d [] [] q r W V wq wr aq ar same eq er =
    let parts = stops_once e f s (rest_limit limits place q W) (rest_limit limits place r V) (length q / max_payload) (length r / max_payload) q r W V
    (blocks_whole (length q) wq) (blocks_whole (length r) wr)
    (fits_under limits place d q r W wq (begins_long d q aq.begins) ar) (fits_under limits place d r q V wr (begins_long d r ar.begins) aq) same eq er in
    (refl, parts.0, parts.1)
one_reading_under limits e f s place d [] (p ∷ qs) q r W V wq wr aq ar same eq er =
    absurd (not_whole e s (rest_limit limits place q W) (length q / max_payload) q p W (stream (next_id s p) qs ++ (front (id_after (next_id s p) qs) r ++ V)) (blocks_whole (length q) wq)
    (fits_under limits place d q p W wq (begins_long d q aq.begins) ar.0)
    (same ∙ append_assoc (framing s p) (stream (next_id s p) qs) (front (id_after (next_id s p) qs) r ++ V)) eq)
one_reading_under limits e f s place d (p ∷ ps) [] q r W V wq wr aq ar same eq er =
    absurd (not_whole f s (rest_limit limits place r V) (length r / max_payload) r p V (stream (next_id s p) ps ++ (front (id_after (next_id s p) ps) q ++ W)) (blocks_whole (length r) wr)
    (fits_under limits place d r p V wr (begins_long d r ar.begins) aq.0)
    (sym same ∙ append_assoc (framing s p) (stream (next_id s p) ps) (front (id_after (next_id s p) ps) q ++ W)) er)
one_reading_under limits e f s place d (p ∷ ps) (o ∷ qs) q r W V wq wr aq ar same eq er =
    let X : List ℕ = stream (next_id s p) ps ++ (front (id_after (next_id s p) ps) q ++ W) in
    let Y : List ℕ → List ℕ = λ (z : List ℕ). stream (next_id s z) qs ++ (front (id_after (next_id s z) qs) r ++ V) in
    let parts = framing_cancel s p o X (Y o)
    (sym (append_assoc (framing s p) (stream (next_id s p) ps) (front (id_after (next_id s p) ps) q ++ W)) ∙ same
    ∙ append_assoc (framing s o) (stream (next_id s o) qs) (front (id_after (next_id s o) qs) r ++ V)) in
    let rest : X ≡ Y p = parts.1 ∙ ap (λ (z : List ℕ). Y z) (sym parts.0) in
    let more = one_reading_under limits e f (next_id s p) (place + framed_size p) [] ps qs q r W V wq wr aq.1 (rw (sym parts.0) at ar.1) rest eq (rw (sym parts.0) at er) in
    (ap₂ (λ (u : List ℕ) (v : List (List ℕ)). u ∷ v) parts.0 more.0, more.1, more.2)

-- a stream delivers one thing
pub one_delivery_under_is : OneLimitedDelivery
one_delivery_under_is limits place d S s ps qs e f q r W V a b =
    let parts = one_reading_under limits e f s place d ps qs q r W V a.splits.unfinished_whole b.splits.unfinished_whole a.splits.within b.splits.within
    (sym a.splits.is ∙ b.splits.is) a.ends b.ends in
    (parts.0, one_ending e f (id_after s ps) (rest_limit limits (place_after place ps) q W) q W a.ends (rw (sym parts.0, sym parts.1, sym parts.2) at b.ends), parts.1, parts.2)

-- how long an input is up to the rest
pub length-stream_under : (s place : ℕ) (ps : List (List ℕ)) → place + length (stream s ps) ≡ place_after place ps
length-stream_under s place [] = omega arith
length-stream_under s place (p ∷ ps) =
    let e = length-append (framing s p) (stream (next_id s p) ps) in
    let f = length-framing s p in
    let more = length-stream_under (next_id s p) (place + framed_size p) ps in
    omega arith

pub length-front_under : (s : ℕ) (q : List ℕ) → length (front s q) ≡ length q / max_payload * max_payload + 4 * (length q / max_payload)
length-front_under s q = length-chunks (length q / max_payload) s q (blocks_below (length q))

pub length-splits_under : (limits : Limits) (place : ℕ) (d S : List ℕ) (s : ℕ) (ps : List (List ℕ)) (q W : List ℕ) → SplitsUnder limits place d S s ps q W
    → place + length S ≡ chunk_place (place_after place ps) (length q / max_payload) + length W
length-splits_under limits place d S s ps q W a =
    let e = ap (λ (z : List ℕ). length z) a.is in
    let f = length-append (stream s ps) (front (id_after s ps) q ++ W) in
    let g = length-append (front (id_after s ps) q) W in
    let h = length-stream_under s place ps in
    let i = length-front_under (id_after s ps) q in
    omega arith

-- A packet where it lies.
use Rattle.std.proofs.Common.{◌≡◌, ℕ, ◌+◌, ◌-◌, ◌%◌, ◌<◌, ◌≤◌, List, [], ◌∷◌, length, take, drop, refl, sym, ap, ◌∙◌, arith, inl, inr, slice_index, Option, Some, None, MatchOption, Ok, true, length-drop}
use Rattle.std.specs.Bool.{⊤}
use Rattle.std.proofs.lemmas.List.{length-take-le}
use Rattle.wire_codec.proofs.Declared.{ChunkInfo, Last}
use Rattle.wire_codec.specs.Framing.{max_payload}
use Rattle.wire_codec.specs.Delivery.{chunk_len, IsSpelled}
use Rattle.wire_codec.specs.OneChunk.{info_of, FinishesChunk, DecodesChunk}
use Rattle.wire_codec.specs.Codec.{CodecState, Stands, open_id, DecodesPacket, ChunkChain}
use Rattle.wire_codec.specs.LimitedRuns.{DecodesAligned, run_limits}
use Rattle.wire_codec.specs.GoingOn.{Decodes}
use Rattle.wire_codec.specs.InPlace.{front_payload, HasFront, behind_front}
use Rattle.wire_codec.proofs.ChunkLemmas.{nothing_whole}
use Rattle.wire_codec.proofs.ConstantLimit.{one, stands_on, decodes_one}
use Rattle.wire_codec.proofs.TakenChunk.{id_at_open, info_kind}
use Rattle.wire_codec.proofs.GoingOnLemmas.{outcome_under, last_under, start_mark, goes_on_start}

-- a codec and its buffers, by the parts
abbrev pub state_of : ℕ → ℕ → Option (ℕ × ℕ) → List ℕ → List ℕ → CodecState
state_of limit id header unread held = record { limit = limit; id = id; header = header; unread = unread; held = held }

pub front_len : (src : List ℕ) → 4 + chunk_len src ≤ length src → length (front_payload src) ≡ chunk_len src
front_len src whole =
    let room : chunk_len src ≤ length (drop 4 src) = rw length-drop (omega arith) in
    length-take-le (chunk_len src) (drop 4 src) room

pub front_passes : (limit : ℕ) (header : Option (ℕ × ℕ)) (src : List ℕ) (len id : ℕ) → len ≡ chunk_len src → id ≡ slice_index src 3
    → MatchOption header ⊤ (λ h. (4 ≤ length src) × (slice_index src 3 ≡ h.0) × (chunk_len src ≡ h.1) × (0 < h.1))
    → MatchOption header (chunk_len src ≤ limit) (λ h. ⊤) → MatchOption header (len ≤ limit) (λ h. (id ≡ h.0) × (len ≡ h.1) × (0 < h.1))
front_passes limit None src len id l s there within = rw l within
front_passes limit (Some h) src len id l s there within = (s ∙ there.1, l ∙ there.2, there.3)

front_info : (src : List ℕ) → 4 + chunk_len src ≤ length src → 0 < chunk_len src → chunk_len src < max_payload
    → info_of (slice_index src 3) (front_payload src) ≡ Last (slice_index src 3)
front_info src whole some small =
    elim (info_kind (slice_index src 3) (chunk_len src) [] (front_payload src) nothing_whole (front_len src whole ∙ omega arith) some (omega arith)) [
      | inl full ↦ absurd (let e = full.0 in omega arith)
      | inr part ↦ part.1
    ]

front_finishes : (id : ℕ) (src : List ℕ) → 4 + chunk_len src ≤ length src → 0 < chunk_len src → chunk_len src < max_payload → slice_index src 3 ≡ id
    → FinishesChunk (slice_index src 3) (chunk_len src) src [] (Ok (Some (Last id))) None (drop (4 + chunk_len src) src) (front_payload src)
front_finishes id src whole some small is = record {
  waits = λ less. absurd (omega arith);
  takes = λ w. inl (ap (λ (i : ChunkInfo). Ok (Some i)) (ap (λ (n : ℕ). Last n) (sym is) ∙ sym (front_info src whole some small)), refl, refl, refl);
}

-- it is the chunk that a step takes
pub front_chunk : (limit id : ℕ) (header : Option (ℕ × ℕ)) (src : List ℕ) → HasFront (state_of limit id header src [])
    → DecodesChunk header src [] limit (Ok (Some (Last id))) None (drop (4 + chunk_len src) src) (front_payload src)
front_chunk limit id None src (aligned, empty, long, whole, small, is, within) = record {
  short = λ less. absurd (omega arith);
  empty = λ l none. (
    ap (λ (n : ℕ). Ok (Some (Last n))) (sym is),
    refl,
    ap (λ (n : ℕ). drop (4 + n) src) none,
    ap (λ (n : ℕ). take n (drop 4 src)) none,
  );
  large = λ l some more. absurd (omega arith);
  begins = λ l some fits. front_finishes id src whole some small is;
}
front_chunk limit id (Some (i, needed)) src (aligned, empty, long, whole, small, is, within) =
    let s = aligned.1 in
    rw (sym s.1, sym s.2) (front_finishes id src whole (omega (arith, s.2, s.3)) small is)

-- what stands after it
abbrev pub after_front : ℕ → ℕ → List ℕ → CodecState
after_front limit id src = state_of limit ((id + 1) % 256) None (drop (4 + chunk_len src) src) (front_payload src)

pub front_on : (limit id : ℕ) (header : Option (ℕ × ℕ)) (src : List ℕ) → id < 256 → IsSpelled src → HasFront (state_of limit id header src [])
    → Decodes (state_of limit id header src []) (Ok true) (after_front limit id src)
front_on limit id header src byte spelled there limits mark place on =
    last_under (open_id id []) on spelled (sym (id_at_open id [] byte)) (outcome_under (Ok (Some (Last id))) _ _ _ on (front_chunk limit id header src there))

pub front_decodes : (limit id : ℕ) (header : Option (ℕ × ℕ)) (src : List ℕ) → id < 256 → IsSpelled src → HasFront (state_of limit id header src [])
    → Stands (state_of limit id header src []) → DecodesPacket (state_of limit id header src []) (Ok true) (after_front limit id src)
front_decodes limit id header src byte spelled there stands =
    decodes_one (Ok true) limit _ _ [] _ _ _ _ stands.0 (front_on limit id header src byte spelled there (one limit) 0 0 (stands_on limit 0 header src [] stands)).0

pub front_aligned : (limit id : ℕ) (header : Option (ℕ × ℕ)) (src : List ℕ) → id < 256 → IsSpelled src → HasFront (state_of limit id header src [])
    → DecodesAligned (state_of limit id header src []) (Ok true) (after_front limit id src)
front_aligned limit id header src byte spelled there =
    (front_on limit id header src byte spelled there (run_limits (state_of limit id header src []) []) (start_mark header []) 0
    (goes_on_start limit id header src [] [] there.0)).0

pub front_chain : (limit id : ℕ) (header : Option (ℕ × ℕ)) (src : List ℕ) → HasFront (state_of limit id header src [])
    → ChunkChain 1 (state_of limit id header src []) (Ok true) (after_front limit id src)
front_chain limit id header src there =
    inl (refl, record { info = Last id; chunk = front_chunk limit id header src there; expected = refl; ends = refl; id_rises = refl })

-- a packet in front, by what is tested one after another
pub front_there : (limit id : ℕ) (header : Option (ℕ × ℕ)) (src held : List ℕ) → length held ≡ 0 → 4 ≤ length src
    → MatchOption header (chunk_len src ≤ limit) (λ h. (slice_index src 3 ≡ h.0) × (chunk_len src ≡ h.1) × (0 < h.1))
    → slice_index src 3 ≡ id → chunk_len src < max_payload → chunk_len src ≤ length src - 4
    → HasFront (state_of limit id header src held)
front_there limit id header src (x ∷ held) empty long passes is small whole = absurd (omega arith)
front_there limit id None src [] empty long passes is small whole = ((nothing_whole, tt), refl, long, omega arith, small, is, passes)
front_there limit id (Some h) src [] empty long passes is small whole =
    ((nothing_whole, (long, passes.0, passes.1, passes.2)), refl, long, omega arith, small, is, tt)

pub front_decodes_at : (limit id : ℕ) (header : Option (ℕ × ℕ)) (src held : List ℕ) → id < 256 → IsSpelled src → HasFront (state_of limit id header src held)
    → Stands (state_of limit id header src held) → DecodesPacket (state_of limit id header src held) (Ok true) (behind_front (state_of limit id header src held))
front_decodes_at limit id header src [] byte spelled there stands = front_decodes limit id header src byte spelled there stands
front_decodes_at limit id header src (x ∷ held) byte spelled there stands = absurd (let e = there.1 in cc)

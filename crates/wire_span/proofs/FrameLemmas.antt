-- Packets that go out as their bytes come: a chunk's header, its bytes, and calls one after another.
use Rattle.std.proofs.Common.{◌≡◌, ℕ, ◌+◌, ◌-◌, ◌*◌, ◌/◌, ◌%◌, ◌<◌, ◌≤◌, List, [], ◌∷◌, ◌++◌, length, take, drop, suc, refl, sym, ap, ap₂, ◌∙◌, subst, arith, append_assoc, append-nil, length-append, length-drop, take_all, zero-mul, Option, Some, None, min, inl, inr}
use Rattle.std.specs.Option.{SomeIff}
use Rattle.std.proofs.lemmas.Bool.{cases_lt}
use Rattle.std.specs.Prelude.{unwrap_or}
use Rattle.std.proofs.Math.Seq.{take-append-add, drop-append-add}
use Rattle.std.proofs.lemmas.List.{length-take-le}
use Rattle.wire_codec.specs.Framing.{max_payload, max_payload_is, header, chunk, chunks, framing, next_id, stream, id_after}
use Rattle.wire_codec.proofs.ChunkLemmas.{chunks-add, chunks-mod}
use Rattle.wire_codec.proofs.DeliveryLemmas.{stream-append, id_after-append}
use Rattle.wire_span.specs.Framed.{FrameState, begun, IsBetweenPackets, payload_left, framed_behind, next_behind, to_send, id_at_end, FramesOn}

abbrev pub at_frame : ℕ → ℕ → Option ℕ → FrameState
at_frame id chunk_left behind = record { id = id; chunk_left = chunk_left; behind = behind }

-- numbers of whole chunks
full_blocks : (n : ℕ) → (max_payload + n) / max_payload ≡ suc (n / max_payload)
unfolding max_payload
full_blocks n = omega arith

full_next : (i n : ℕ) → (i + (max_payload + n) / max_payload + 1) % 256 ≡ ((i + 1) % 256 + n / max_payload + 1) % 256
full_next i n = rw full_blocks (omega arith)

no_blocks : (n : ℕ) → n < max_payload → n / max_payload ≡ 0
unfolding max_payload
no_blocks n h = omega arith

-- the first chunk of a framing
first_chunk : (i : ℕ) (c r : List ℕ) → take max_payload r ≡ c → chunks 1 i r ≡ header (length c) i ++ c
unfolding chunk
first_chunk i c r e =
    let none : 0 * max_payload ≡ 0 = zero-mul max_payload in
    let same : i + 0 ≡ i = omega arith in
    ap₂ (λ (k : ℕ) (z : List ℕ). chunk k z) same (ap (λ (n : ℕ). take max_payload (drop n r)) none ∙ e)

-- a full one, and the framing of what is after it
full_framing : (i n : ℕ) (r : List ℕ) → length r ≡ max_payload + n
    → framing i r ≡ header max_payload i ++ (take max_payload r ++ framing ((i + 1) % 256) (drop max_payload r))
full_framing i n r long =
    let c : List ℕ = take max_payload r in
    let q : List ℕ = drop max_payload r in
    let b : ℕ = n / max_payload in
    let size : length c ≡ max_payload = length-take-le max_payload r (omega arith) in
    let behind : length q ≡ n = length-drop max_payload r ∙ omega arith in
    let count : suc (length r / max_payload) ≡ 1 + suc b = ap (λ (k : ℕ). suc (k / max_payload)) long ∙ ap (λ (k : ℕ). suc k) (full_blocks n) ∙ omega arith in
    let one : 1 * max_payload ≡ max_payload = omega arith in
    let rest : chunks (suc b) (i + 1) (drop (1 * max_payload) r) ≡ framing ((i + 1) % 256) q =
    ap (λ (k : ℕ). chunks (suc b) (i + 1) (drop k r)) one ∙ sym (chunks-mod (suc b) (i + 1) q) ∙ ap (λ (k : ℕ). chunks (suc (k / max_payload)) ((i + 1) % 256) q) (sym behind) in
    ap (λ (k : ℕ). chunks k i r) count ∙ chunks-add 1 (suc b) i r
    ∙ ap₂ (λ (u v : List ℕ). u ++ v) (first_chunk i c r refl ∙ ap (λ (k : ℕ). header k i ++ c) size) rest
    ∙ append_assoc (header max_payload i) c (framing ((i + 1) % 256) q)

-- a shorter one ends it
last_framing : (i : ℕ) (r : List ℕ) → length r < max_payload → framing i r ≡ header (length r) i ++ r
last_framing i r short =
    ap (λ (k : ℕ). chunks (suc k) i r) (no_blocks (length r) short)
    ∙ first_chunk i r r (take_all max_payload r (omega arith))

-- the header of a full chunk
pub full_opens : (i len left n : ℕ) → len ≡ max_payload → left ≡ len + n
    → FramesOn (at_frame i 0 (Some left)) [] (header len i) (at_frame ((i + 1) % 256) len (Some n))
full_opens i len left n full e = record {
  left = omega arith;
  sends = λ r long.
      let size : length r ≡ max_payload + n = omega arith in
      full_framing i n r size ∙ ap (λ (k : ℕ). header k i ++ (take k r ++ framing ((i + 1) % 256) (drop k r))) (sym full);
  ids = λ r long.
      let size : length r ≡ max_payload + n = omega arith in
      let behind : length (drop len r) ≡ n = length-drop len r ∙ omega arith in
      ap (λ (k : ℕ). (i + k / max_payload + 1) % 256) size ∙ full_next i n ∙ ap (λ (k : ℕ). ((i + 1) % 256 + k / max_payload + 1) % 256) (sym behind);
}

-- and of the last
pub last_opens : (i len : ℕ) → len < max_payload
    → FramesOn (at_frame i 0 (Some len)) [] (header len i) (at_frame ((i + 1) % 256) len None)
last_opens i len short = record {
  left = omega arith;
  sends = λ r long.
      let size : length r ≡ len = omega arith in
      last_framing i r (omega arith) ∙ ap (λ (k : ℕ). header k i ++ r) size
      ∙ ap (λ (z : List ℕ). header len i ++ z) (sym (append-nil (take len r) ∙ take_all len r (omega arith)));
  ids = λ r long.
      let none : length r / max_payload ≡ 0 = no_blocks (length r) (omega arith) in
      ap (λ (k : ℕ). (i + k + 1) % 256) none ∙ omega arith;
}

-- the header of the next chunk, as long as it may be
pub frame_opens : (i left len : ℕ) (behind : Option ℕ) → len ≡ min left 16777215 → SomeIff behind (16777215 ≤ left) (left - 16777215)
    → FramesOn (at_frame i 0 (Some left)) [] (header len i) (at_frame ((i + 1) % 256) len behind)
frame_opens i left len (Some n) e k =
    let full : len ≡ max_payload = omega (arith, max_payload_is, k.0) in
    full_opens i len left n full (omega (arith, max_payload_is, k.0, k.1))
frame_opens i left len None e k =
    let short : len ≡ left = elim (cases_lt left 16777215) [ inl less ↦ omega arith | inr more ↦ absurd (k (omega arith)) ] in
    let below : len < max_payload = elim (cases_lt left 16777215) [ inl less ↦ omega (arith, max_payload_is) | inr more ↦ absurd (k (omega arith)) ] in
    subst (λ (n : ℕ). FramesOn (at_frame i 0 (Some n)) [] (header len i) (at_frame ((i + 1) % 256) len None)) short (last_opens i len below)

-- bytes of the open chunk
pub chunk_goes : (i left more : ℕ) (behind : Option ℕ) (x : List ℕ) → left ≡ length x + more
    → FramesOn (at_frame i left behind) x x (at_frame i more behind)
chunk_goes i left more behind x e = record {
  left = omega arith;
  sends = λ r long.
      ap (λ (k : ℕ). take k (x ++ r) ++ framed_behind behind i (drop k (x ++ r))) e
      ∙ ap₂ (λ (u v : List ℕ). u ++ framed_behind behind i v) (take-append-add x r more) (drop-append-add x r more)
      ∙ append_assoc x (take more r) (framed_behind behind i (drop more r));
  ids = λ r long.
      ap (λ (k : ℕ). next_behind behind i (drop k (x ++ r))) e
      ∙ ap (λ (z : List ℕ). next_behind behind i z) (drop-append-add x r more);
}

pub nothing_framed_is : (a : FrameState) → FramesOn a [] [] a
nothing_framed_is a = record { left = omega arith; sends = λ r long. refl; ids = λ r long. refl }

pub joined_frames_is : (a b c : FrameState) (x o y p : List ℕ) → FramesOn a x o b → FramesOn b y p c → FramesOn a (x ++ y) (o ++ p) c
joined_frames_is a b c x o y p f g =
    let left = f.left in
    let more = g.left in
    let size : (r : List ℕ) → length r ≡ payload_left c → length (y ++ r) ≡ payload_left b = λ r long. rw length-append (omega arith) in
    record {
      left = rw length-append (omega arith);
      sends = λ r long.
          ap (λ (z : List ℕ). to_send a z) (append_assoc x y r) ∙ f.sends (y ++ r) (size r long)
          ∙ ap (λ (z : List ℕ). o ++ z) (g.sends r long) ∙ sym (append_assoc o p (to_send c r));
      ids = λ r long.
          ap (λ (z : List ℕ). id_at_end a z) (append_assoc x y r) ∙ f.ids (y ++ r) (size r long) ∙ g.ids r long;
    }

pub frames_front_is : (id len : ℕ) (x o r : List ℕ) (a : FrameState) → FramesOn (begun id len) x o a → length (x ++ r) ≡ len
    → framing id (x ++ r) ≡ o ++ to_send a r
frames_front_is id len x o r a f size =
    let left = f.left in
    f.sends r (let long = length-append x r in omega arith)

-- between two packets nothing is to go
ends_here : (a : FrameState) → IsBetweenPackets a → (to_send a [] ≡ []) × (id_at_end a [] ≡ a.id) × (payload_left a ≡ 0)
ends_here a between = (
  ap₂ (λ (k : ℕ) (b : Option ℕ). take k [] ++ framed_behind b a.id (drop k [])) between.0 between.1,
  ap₂ (λ (k : ℕ) (b : Option ℕ). next_behind b a.id (drop k [])) between.0 between.1,
  ap₂ (λ (k : ℕ) (b : Option ℕ). k + unwrap_or b 0) between.0 between.1,
)

pub framed_packet_is : (id len : ℕ) (p o : List ℕ) (a : FrameState) → FramesOn (begun id len) p o a → IsBetweenPackets a
    → (length p ≡ len) × (o ≡ framing id p) × (a.id ≡ next_id id p)
framed_packet_is id len p o a f between =
    let ends = ends_here a between in
    let none : length {A = ℕ} [] ≡ payload_left a = sym ends.2 in
    let whole : p ++ [] ≡ p = append-nil p in (
      let left = f.left in let e = ends.2 in omega arith,
      sym (append-nil o) ∙ ap (λ (z : List ℕ). o ++ z) (sym ends.0) ∙ sym (f.sends [] none) ∙ ap (λ (z : List ℕ). framing id z) whole,
      sym ends.1 ∙ sym (f.ids [] none) ∙ ap (λ (z : List ℕ). next_id id z) whole,
    )

pub framed_stream_is : (s len : ℕ) (ps : List (List ℕ)) (p o : List ℕ) (a : FrameState) → FramesOn (begun (id_after s ps) len) p o a → IsBetweenPackets a
    → (stream s ps ++ o ≡ stream s (ps ++ p ∷ [])) × (a.id ≡ id_after s (ps ++ p ∷ []))
framed_stream_is s len ps p o a f between =
    let t : ℕ = id_after s ps in
    let framed = framed_packet_is t len p o a f between in (
      ap (λ (z : List ℕ). stream s ps ++ z) (framed.1 ∙ sym (append-nil (framing t p))) ∙ sym (stream-append s ps (p ∷ [])),
      framed.2 ∙ sym (id_after-append s ps (p ∷ [])),
    )

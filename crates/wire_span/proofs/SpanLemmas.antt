-- Spans: what came of a packet, more of it, and the delivery of all that came.
use Rattle.std.proofs.Common.{◌≡◌, ℕ, ◌+◌, ◌/◌, ◌%◌, ◌<◌, ◌≤◌, ◌==◌, List, [], ◌∷◌, ◌++◌, length, take, drop, suc, refl, sym, ap, ap₂, ◌∙◌, subst, arith, append_assoc, append-nil, length-append, inl, inr, ◌⊎◌, slice_index, Bool, true, false, eqb-true, ◌-◌}
use Rattle.std.specs.Prelude.{All, IfSome, Option, Some, None}
use Rattle.wire_span.specs.declared.span.Span.{Span}
use Rattle.std.proofs.lemmas.Bool.{cases_lt, eq-eqb}
use Rattle.std.proofs.lemmas.List.Elements.{All-nil, All-push}
use Rattle.wire_span.specs.declared.span.HeaderFront.{HeaderFront}
use Rattle.wire_span.specs.declared.span.HeaderFront.TheVariants.{Empty, One, Two, Three}
use Rattle.wire_span.specs.declared.span.SpanError.{SpanError}
use Rattle.wire_span.specs.declared.span.SpanError.TheVariants.{PacketTooLarge, PacketsOutOfSync}
use Rattle.wire_codec.specs.Framing.{max_payload, max_payload_is, header, chunk, chunks, framing, front, next_id, stream, id_after}
use Rattle.wire_codec.specs.Delivery.{chunk_len, id_at, IsWholeChunks, Splits, Delivers, Waiting}
use Rattle.wire_span.specs.Spans.{front_bytes, SpanPlace, AtHeader, Within, SpanState, InOpenChunk, InNextHeader, Begins, CameTo, IsBetween, packets_of, opened_after, SpansOn, Refuses, StopsBefore}
use Rattle.wire_span.specs.SpanSteps.{OpenedTo, TakesSpan, RefusesChunk}
use Rattle.wire_span.specs.SpanLaws.{StopIs}
use Rattle.wire_codec.proofs.ChunkLemmas.{blocks_whole, chunks-push, chunk-mod, le_number-le_bytes}
use Rattle.wire_codec.proofs.DeliveryLemmas.{stream-append, id_after-append, within_rest}
use Rattle.wire_codec.proofs.RunLemmas.{front-nil, nothing_whole, chunk_len_append, id_append, splits_extend}
use Rattle.wire_codec.specs.Laws.{OneDelivery}

-- numbers of whole chunks
whole_more : (d l : ℕ) → d % max_payload ≡ 0 → l ≡ max_payload → ((d + l) % max_payload ≡ 0) × ((d + l) / max_payload ≡ d / max_payload + 1)
unfolding max_payload
whole_more d l h e = (omega arith, omega arith)

part_more : (d l : ℕ) → d % max_payload ≡ 0 → l < max_payload → ((d + l) % max_payload ≡ l) × ((d + l) / max_payload ≡ d / max_payload)
unfolding max_payload
part_more d l h e = (omega arith, omega arith)

pub front_short : (came : HeaderFront) → length (front_bytes came) < 4
front_short Empty = omega arith
front_short (One a) = omega arith
front_short (Two a b) = omega arith
front_short (Three a b c) = omega arith

-- what a header states
pub states_len : (len id : ℕ) (c : List ℕ) → len ≤ max_payload → chunk_len (header len id ++ c) ≡ len
states_len len id c small = le_number-le_bytes len (omega (arith, small, max_payload_is))

pub states_id : (len id : ℕ) (c : List ℕ) → slice_index (header len id ++ c) 3 ≡ id % 256
states_id len id c = refl

pub header_long : (len id : ℕ) (c : List ℕ) → length (header len id ++ c) ≡ 4 + length c
header_long len id c = omega arith

-- more of a header
pub header_grows : (s L i n : ℕ) (c x o b : List ℕ) → InNextHeader s L i n c o b → length (c ++ x) < 4 → InNextHeader s L i n (c ++ x) o (b ++ x)
header_grows s L i n c x o b h short = record {
  opened_whole = h.opened_whole;
  begun_is = ap (λ (z : List ℕ). z ++ x) h.begun_is ∙ append_assoc (front s o) c x;
  not_whole = short;
  id_is = h.id_is;
  size_is = h.size_is;
  within = h.within;
}

-- a header that came whole, and is accepted
pub chunk_opens : (s L i n len id : ℕ) (c x o b : List ℕ) → InNextHeader s L i n c o b → c ++ x ≡ header len id → len ≤ max_payload → id ≡ i → (len ≡ 0) ⊎ (n + len ≤ L)
    → InOpenChunk s L ((i + 1) % 256) (n + len) len (len == max_payload) o (b ++ x)
chunk_opens s L i n len id c x o b h e small same fits = record {
  held = o;
  part = [];
  len = len;
  opened_is = sym (append-nil o);
  held_whole = h.opened_whole;
  begun_is =
      let at : header len id ≡ header len (id_at s o) = ap (λ (k : ℕ). header len k) (same ∙ h.id_is) in
      ap (λ (z : List ℕ). z ++ x) h.begun_is ∙ append_assoc (front s o) c x
      ∙ ap (λ (z : List ℕ). front s o ++ z) (e ∙ at ∙ sym (append-nil (header len (id_at s o))));
  len_is = omega arith;
  small = small;
  full_is = refl;
  id_is = ap (λ (k : ℕ). (k + 1) % 256) h.id_is;
  size_is = let k = h.size_is in omega arith;
  within = let w = h.within in elim fits [ inl none ↦ omega arith | inr room ↦ room ];
}

-- more of a chunk
pub chunk_grows : (s L i n left more : ℕ) (full : Bool) (x o b : List ℕ) → InOpenChunk s L i n left full o b → length x + more ≡ left → InOpenChunk s L i n more full (o ++ x) (b ++ x)
chunk_grows s L i n left more full x o b h e = record {
  held = h.held;
  part = h.part ++ x;
  len = h.len;
  opened_is = ap (λ (z : List ℕ). z ++ x) h.opened_is ∙ append_assoc h.held h.part x;
  held_whole = h.held_whole;
  begun_is =
      let F : List ℕ = front s h.held in
      let H : List ℕ = header h.len (id_at s h.held) in
      ap (λ (z : List ℕ). z ++ x) h.begun_is ∙ append_assoc F (H ++ h.part) x ∙ ap (λ (z : List ℕ). F ++ z) (append_assoc H h.part x);
  len_is = let l = h.len_is in rw length-append (omega (arith, l, e));
  small = h.small;
  full_is = h.full_is;
  id_is = h.id_is;
  size_is = let l = h.size_is in rw length-append (omega (arith, l, e));
  within = h.within;
}

-- a chunk whose bytes all came
chunk_made : (s len : ℕ) (q c : List ℕ) → IsWholeChunks q → len ≡ length c → len ≤ max_payload
    → front s q ++ (header len (id_at s q) ++ c) ≡ chunks (suc (length q / max_payload)) s (q ++ c)
unfolding chunk
chunk_made s len q c whole l small =
    let k : ℕ = length q / max_payload in
    let e : header len (id_at s q) ++ c ≡ chunk ((s + k) % 256) c = ap (λ (n : ℕ). header n (id_at s q) ++ c) l in
    ap (λ (z : List ℕ). front s q ++ z) (e ∙ chunk-mod (s + k) c)
    ∙ sym (chunks-push k s q c (blocks_whole (length q) whole) (omega (arith, l, small)))

-- it was a full one
pub chunk_full : (s L i n : ℕ) (o b : List ℕ) → InOpenChunk s L i n 0 true o b → InNextHeader s L i n [] o b
chunk_full s L i n o b h =
    let full : h.len ≡ max_payload = eqb-true h.len max_payload (sym h.full_is) in
    let part : h.len ≡ length h.part = let l = h.len_is in omega arith in
    let size : length o ≡ length h.held + h.len = ap (λ (z : List ℕ). length z) h.opened_is ∙ rw length-append (omega (arith, part)) in
    let more = whole_more (length h.held) h.len h.held_whole full in
    let count : length o / max_payload ≡ suc (length h.held / max_payload) = ap (λ (k : ℕ). k / max_payload) size ∙ omega (arith, more.1) in
    record {
      opened_whole = ap (λ (k : ℕ). k % max_payload) size ∙ more.0;
      begun_is = h.begun_is ∙ chunk_made s h.len h.held h.part h.held_whole part h.small
          ∙ ap (λ (z : List ℕ). chunks (suc (length h.held / max_payload)) s z) (sym h.opened_is)
          ∙ ap (λ (k : ℕ). chunks k s o) (sym count) ∙ sym (append-nil (front s o));
      not_whole = omega arith;
      id_is = let k = h.id_is in omega (arith, k, count);
      size_is = let k = h.size_is in omega arith;
      within = h.within;
    }

not_full : (len : ℕ) → len ≤ max_payload → false ≡ (len == max_payload) → len < max_payload
not_full len small e =
    elim (cases_lt len max_payload) [
      | inl less ↦ less
      | inr full ↦ absurd (let k : false ≡ true = e ∙ eq-eqb len max_payload (omega arith) in cc)
    ]

-- it was the packet's last
pub chunk_last : (s L i n : ℕ) (o b : List ℕ) → InOpenChunk s L i n 0 false o b → (b ≡ framing s o) × (length o ≤ L) × (i ≡ next_id s o)
chunk_last s L i n o b h =
    let short : h.len < max_payload = not_full h.len h.small h.full_is in
    let part : h.len ≡ length h.part = let l = h.len_is in omega arith in
    let size : length o ≡ length h.held + h.len = ap (λ (z : List ℕ). length z) h.opened_is ∙ rw length-append (omega (arith, part)) in
    let more = part_more (length h.held) h.len h.held_whole short in
    let count : length o / max_payload ≡ length h.held / max_payload = ap (λ (k : ℕ). k / max_payload) size ∙ more.1 in (
      h.begun_is ∙ chunk_made s h.len h.held h.part h.held_whole part h.small
          ∙ ap (λ (z : List ℕ). chunks (suc (length h.held / max_payload)) s z) (sym h.opened_is)
          ∙ ap (λ (k : ℕ). chunks (suc k) s o) (sym count),
      let k = h.size_is in let w = h.within in omega arith,
      let k = h.id_is in omega (arith, k, count),
    )

-- between two packets
pub id_at-nil : (t : ℕ) → t < 256 → id_at t [] ≡ t
unfolding max_payload
id_at-nil t h = omega arith

pub begins_between : (t L i : ℕ) → t ≡ i → i < 256 → InNextHeader t L i 0 [] [] []
begins_between t L i e small = record {
  opened_whole = nothing_whole;
  begun_is = ap (λ (z : List ℕ). z ++ []) (sym (front-nil t));
  not_whole = omega arith;
  id_is = sym e ∙ sym (id_at-nil t (omega arith));
  size_is = refl;
  within = omega arith;
}

pub spans_begin_is : (state : SpanState) (L : ℕ) → state.id < 256 → IsBetween state → CameTo state.id L [] [] [] state
spans_begin_is state L small between = (
  [],
  refl,
  All-nil (λ (o : List ℕ). length o ≤ L),
  subst (λ (p : SpanPlace). Begins state.id L state.id state.size p [] []) (sym between.1)
      (subst (λ (n : ℕ). InNextHeader state.id L state.id n [] [] []) (sym between.0) (begins_between state.id L state.id refl small)),
)

-- the state after a span
abbrev pub at_place : ℕ → ℕ → ℕ → SpanPlace → SpanState
at_place limit id size place = record { limit = limit; id = id; size = size; place = place }

stream_grows : (s : ℕ) (S b x : List ℕ) (ps : List (List ℕ)) → S ≡ stream s ps ++ b → S ++ x ≡ stream s ps ++ (b ++ x)
stream_grows s S b x ps e = ap (λ (z : List ℕ). z ++ x) e ∙ append_assoc (stream s ps) b x

-- the packets stay
still : (s L : ℕ) (S : List ℕ) (ps : List (List ℕ)) (o : List ℕ) (state : SpanState) → CameTo s L S ps o state → CameTo s L S (ps ++ []) o state
still s L S ps o state h = subst (λ (z : List (List ℕ)). CameTo s L S z o state) (sym (append-nil ps)) h

pub took_some : (limit s L : ℕ) (S : List ℕ) (ps : List (List ℕ)) (o x : List ℕ) (i n left more : ℕ) (full : Bool)
    → OpenedTo s L S ps o i n left full → length x + more ≡ left → 0 < more
    → CameTo s L (S ++ x) (ps ++ []) (o ++ x) (at_place limit i n (Within more full))
took_some limit s L S ps o x i n left more full h e some =
    still s L (S ++ x) ps (o ++ x) (at_place limit i n (Within more full))
    (h.0 ++ x, stream_grows s S h.0 x ps h.1, h.2, (some, chunk_grows (id_after s ps) L i n left more full x o h.0 h.3 e))

pub took_nothing : (limit s L : ℕ) (S : List ℕ) (ps : List (List ℕ)) (o : List ℕ) (i n left : ℕ) (full : Bool)
    → OpenedTo s L S ps o i n left full → 0 < left
    → CameTo s L (S ++ []) (ps ++ []) o (at_place limit i n (Within left full))
took_nothing limit s L S ps o i n left full h some =
    subst (λ (z : List ℕ). CameTo s L (S ++ []) (ps ++ []) z (at_place limit i n (Within left full))) (append-nil o)
    (took_some limit s L S ps o [] i n left left full h (omega arith) some)

pub took_full : (limit s L : ℕ) (S : List ℕ) (ps : List (List ℕ)) (o x : List ℕ) (i n left : ℕ)
    → OpenedTo s L S ps o i n left true → length x ≡ left
    → CameTo s L (S ++ x) (ps ++ []) (o ++ x) (at_place limit i n (AtHeader []))
took_full limit s L S ps o x i n left h e =
    still s L (S ++ x) ps (o ++ x) (at_place limit i n (AtHeader []))
    (h.0 ++ x, stream_grows s S h.0 x ps h.1, h.2, chunk_full (id_after s ps) L i n (o ++ x) (h.0 ++ x) (chunk_grows (id_after s ps) L i n left 0 true x o h.0 h.3 (omega arith)))

pub took_last : (limit s L : ℕ) (S : List ℕ) (ps : List (List ℕ)) (o x : List ℕ) (i n left : ℕ)
    → OpenedTo s L S ps o i n left false → length x ≡ left
    → CameTo s L (S ++ x) (ps ++ (o ++ x) ∷ []) [] (at_place limit i 0 (AtHeader []))
took_last limit s L S ps o x i n left h e =
    let t : ℕ = id_after s ps in
    let p : List ℕ = o ++ x in
    let last = chunk_last t L i n p (h.0 ++ x) (chunk_grows t L i n left 0 false x o h.0 h.3 (omega arith)) in
    let after : id_after s (ps ++ p ∷ []) ≡ i = id_after-append s ps (p ∷ []) ∙ sym last.2 in
    let small : i < 256 = let k = last.2 in omega arith in (
      [],
      stream_grows s S h.0 x ps h.1 ∙ ap (λ (z : List ℕ). stream s ps ++ z) (last.0 ∙ sym (append-nil (framing t p)))
          ∙ sym (stream-append s ps (p ∷ [])) ∙ sym (append-nil (stream s (ps ++ p ∷ []))),
      All-push (λ (o : List ℕ). length o ≤ L) ps p h.2 last.1,
      begins_between (id_after s (ps ++ p ∷ [])) L i after small,
    )

-- what came of a header, and no more of the stream
pub came_header : (limit s L : ℕ) (S : List ℕ) (ps : List (List ℕ)) (o c x : List ℕ) (i n : ℕ)
    → CameTo s L S ps o (at_place limit i n (AtHeader c)) → length (c ++ x) < 4
    → CameTo s L (S ++ x) (ps ++ []) o (at_place limit i n (AtHeader (c ++ x)))
came_header limit s L S ps o c x i n h short =
    still s L (S ++ x) ps o (at_place limit i n (AtHeader (c ++ x)))
    (h.0 ++ x, stream_grows s S h.0 x ps h.1, h.2, header_grows (id_after s ps) L i n c x o h.0 h.3 short)

-- a header that is accepted
pub came_chunk : (limit s L : ℕ) (S : List ℕ) (ps : List (List ℕ)) (o c x : List ℕ) (i n len id : ℕ)
    → CameTo s L S ps o (at_place limit i n (AtHeader c)) → c ++ x ≡ header len id → len ≤ max_payload → id ≡ i → (len ≡ 0) ⊎ (n + len ≤ L)
    → OpenedTo s L (S ++ x) ps o ((i + 1) % 256) (n + len) len (len == max_payload)
came_chunk limit s L S ps o c x i n len id h e small same fits =
    (h.0 ++ x, stream_grows s S h.0 x ps h.1, h.2, chunk_opens (id_after s ps) L i n len id c x o h.0 h.3 e small same fits)

-- a header that is refused
refused_splits : (limit s L : ℕ) (S : List ℕ) (ps : List (List ℕ)) (o c x : List ℕ) (i n : ℕ)
    → CameTo s L S ps o (at_place limit i n (AtHeader c)) → Splits [] (S ++ x) s L ps o (c ++ x)
refused_splits limit s L S ps o c x i n h = record {
  is = stream_grows s S h.0 x ps h.1 ∙ ap (λ (z : List ℕ). stream s ps ++ z) (ap (λ (z : List ℕ). z ++ x) h.3.begun_is ∙ append_assoc (front (id_after s ps) o) c x);
  held_whole = nothing_whole;
  unfinished_whole = h.3.opened_whole;
  within = within_rest L ps o h.2 (let k = h.3.size_is in let w = h.3.within in omega arith);
}

refuses_is : (error : SpanError) (t limit i n len id : ℕ) (o r W : List ℕ) → W ≡ header len id ++ r → len ≤ max_payload → id < 256 → n ≡ length o → i ≡ id_at t o
    → RefusesChunk error limit n i len id → Refuses error t limit o W
refuses_is PacketTooLarge t limit i n len id o r W e small byte size at refused =
    let l : chunk_len W ≡ len = ap (λ (z : List ℕ). chunk_len z) e ∙ states_len len id r small in
    (rw e (rw header_long (omega arith)), omega (arith, l, refused.0), omega (arith, l, size, refused.1))
refuses_is PacketsOutOfSync t limit i n len id o r W e small byte size at refused =
    let l : chunk_len W ≡ len = ap (λ (z : List ℕ). chunk_len z) e ∙ states_len len id r small in
    let says : slice_index W 3 ≡ id = ap (λ (z : List ℕ). slice_index z 3) e ∙ omega (arith, byte) in
    (rw e (rw header_long (omega arith)), elim refused.0 [ inl none ↦ inl (l ∙ none) | inr fits ↦ inr (omega (arith, l, size, fits)) ], λ same. refused.1 (sym says ∙ same ∙ sym at))

pub stops_is : (error : SpanError) (limit i n len id : ℕ) (c x r : List ℕ) → c ++ x ≡ header len id ++ r → len ≤ max_payload → id < 256
    → RefusesChunk error limit n i len id → StopsBefore (at_place limit i n (AtHeader c)) x error
stops_is error limit i n len id c x r e small byte refused s L S ps o le h =
    (c ++ x, refused_splits limit s L S ps o c x i n h, refuses_is error (id_after s ps) limit i n len id o r (c ++ x) e small byte h.3.size_is h.3.id_is refused)

-- what came is what the stream delivers
came_splits : (s L : ℕ) (S : List ℕ) (ps : List (List ℕ)) (q b W : List ℕ) → S ≡ stream s ps ++ b → b ≡ front (id_after s ps) q ++ W → All (λ (o : List ℕ). length o ≤ L) ps → IsWholeChunks q → length q ≤ L
    → Splits [] S s L ps q W
came_splits s L S ps q b W e f small whole within = record {
  is = e ∙ ap (λ (z : List ℕ). stream s ps ++ z) f;
  held_whole = nothing_whole;
  unfinished_whole = whole;
  within = within_rest L ps q small within;
}

-- the full chunks of the open packet, and what is after them
abbrev pub came_held : (t L i n : ℕ) (p : SpanPlace) (o b : List ℕ) → Begins t L i n p o b → List ℕ
came_held t L i n (AtHeader c) o b h = o
came_held t L i n (Within left full) o b h = h.1.held

abbrev pub came_rest : (t L i n : ℕ) (p : SpanPlace) (o b : List ℕ) → Begins t L i n p o b → List ℕ
came_rest t L i n (AtHeader c) o b h = c
came_rest t L i n (Within left full) o b h = header h.1.len (id_at t h.1.held) ++ h.1.part

pub came_delivers : (s L i n : ℕ) (p : SpanPlace) (S : List ℕ) (ps : List (List ℕ)) (o b : List ℕ) → S ≡ stream s ps ++ b → All (λ (z : List ℕ). length z ≤ L) ps → (h : Begins (id_after s ps) L i n p o b)
    → Delivers [] S s L ps Waiting (came_held (id_after s ps) L i n p o b h) (came_rest (id_after s ps) L i n p o b h)
    × (o ≡ came_held (id_after s ps) L i n p o b h ++ drop 4 (came_rest (id_after s ps) L i n p o b h))
came_delivers s L i n (AtHeader []) S ps o b e small h =
    (record { splits = came_splits s L S ps o b [] e h.begun_is small h.opened_whole (let k = h.size_is in let w = h.within in omega arith); ends = inl (omega arith) }, sym (append-nil o))
came_delivers s L i n (AtHeader (x ∷ [])) S ps o b e small h =
    (record { splits = came_splits s L S ps o b (x ∷ []) e h.begun_is small h.opened_whole (let k = h.size_is in let w = h.within in omega arith); ends = inl (omega arith) }, sym (append-nil o))
came_delivers s L i n (AtHeader (x ∷ y ∷ [])) S ps o b e small h =
    (record { splits = came_splits s L S ps o b (x ∷ y ∷ []) e h.begun_is small h.opened_whole (let k = h.size_is in let w = h.within in omega arith); ends = inl (omega arith) }, sym (append-nil o))
came_delivers s L i n (AtHeader (x ∷ y ∷ z ∷ [])) S ps o b e small h =
    (record { splits = came_splits s L S ps o b (x ∷ y ∷ z ∷ []) e h.begun_is small h.opened_whole (let k = h.size_is in let w = h.within in omega arith); ends = inl (omega arith) }, sym (append-nil o))
came_delivers s L i n (AtHeader (x ∷ y ∷ z ∷ w ∷ c)) S ps o b e small h = absurd (let k = h.not_whole in omega arith)
came_delivers s L i n (Within left full) S ps o b e small h =
    let t : ℕ = id_after s ps in
    let g = h.1 in
    let W : List ℕ = header g.len (id_at t g.held) ++ g.part in
    let says : chunk_len W ≡ g.len = states_len g.len (id_at t g.held) g.part g.small in
    let long : length W ≡ 4 + length g.part = header_long g.len (id_at t g.held) g.part in
    let size : length o ≡ length g.held + length g.part = ap (λ (z : List ℕ). length z) g.opened_is ∙ rw length-append refl in
    let some = h.0 in
    let len = g.len_is in
    let whole = g.size_is in
    let within = g.within in (
      record {
        splits = came_splits s L S ps g.held b W e g.begun_is small g.held_whole (omega (arith, size));
        ends = inr (omega (arith, says), omega (arith, says, size), omega (arith, says, long));
      },
      g.opened_is,
    )

pub spans_deliver_is : (s L : ℕ) (S : List ℕ) (ps : List (List ℕ)) (o : List ℕ) (state : SpanState) → CameTo s L S ps o state
    → (q : List ℕ) × (W : List ℕ) × Delivers [] S s L ps Waiting q W × (o ≡ q ++ drop 4 W)
spans_deliver_is s L S ps o state h =
    let t : ℕ = id_after s ps in
    let d = came_delivers s L state.id state.size state.place S ps o h.0 h.1 h.2 h.3 in
    (came_held t L state.id state.size state.place o h.0 h.3, came_rest t L state.id state.size state.place o h.0 h.3, d.0, d.1)

-- a stop is the delivery's
pub spans_stop_is : (error : SpanError) (S : List ℕ) (s L : ℕ) (ps : List (List ℕ)) (o W : List ℕ) → Splits [] S s L ps o W → Refuses error (id_after s ps) L o W → StopIs error S s L ps o W
spans_stop_is PacketTooLarge S s L ps o W a r = record { splits = a; ends = r }
spans_stop_is PacketsOutOfSync S s L ps o W a r = λ (x : List ℕ) (long : 4 + chunk_len W ≤ length (W ++ x)).
    let l : chunk_len (W ++ x) ≡ chunk_len W = chunk_len_append W x r.0 in
    record {
      splits = splits_extend [] S s L ps o W x a;
      ends = (omega (arith, l, long), elim r.1 [ inl none ↦ inl (l ∙ none) | inr fits ↦ inr (omega (arith, l, fits)) ], λ e. r.2 (sym (id_append W x r.0) ∙ e));
    }

-- where a decoder stands is told by what came
pub stands_alike : (t L i n j m : ℕ) (p r : SpanPlace) (o b d : List ℕ) (h : Begins t L i n p o b) (g : Begins t L j m r o d)
    → came_held t L i n p o b h ≡ came_held t L j m r o d g → came_rest t L i n p o b h ≡ came_rest t L j m r o d g
    → (i ≡ j) × (n ≡ m) × (p ≡ r)
stands_alike t L i n j m (AtHeader c) (AtHeader a) o b d h g e f =
    (h.id_is ∙ sym g.id_is, h.size_is ∙ sym g.size_is, ap (λ (z : List ℕ). AtHeader z) f)
stands_alike t L i n j m (AtHeader c) (Within left full) o b d h g e f =
    absurd (let k = h.not_whole in omega (arith, k, ap (λ (z : List ℕ). length z) f, header_long g.1.len (id_at t g.1.held) g.1.part))
stands_alike t L i n j m (Within left full) (AtHeader c) o b d h g e f =
    absurd (let k = g.not_whole in omega (arith, k, ap (λ (z : List ℕ). length z) f, header_long h.1.len (id_at t h.1.held) h.1.part))
stands_alike t L i n j m (Within left full) (Within others other) o b d h g e f =
    let a = h.1 in
    let z = g.1 in
    let len : a.len ≡ z.len = sym (states_len a.len (id_at t a.held) a.part a.small) ∙ ap (λ (w : List ℕ). chunk_len w) f ∙ states_len z.len (id_at t z.held) z.part z.small in
    let part : length a.part ≡ length z.part = let k = ap (λ (w : List ℕ). length w) f in omega (arith, k, header_long a.len (id_at t a.held) a.part, header_long z.len (id_at t z.held) z.part) in
    let left_is : left ≡ others = let k = a.len_is in let w = z.len_is in omega (arith, len, part, k, w) in
    let full_is : full ≡ other = a.full_is ∙ ap (λ (k : ℕ). k == max_payload) len ∙ sym z.full_is in (
      a.id_is ∙ ap (λ (w : List ℕ). (id_at t w + 1) % 256) e ∙ sym z.id_is,
      a.size_is ∙ ap (λ (k : ℕ). length o + k) left_is ∙ sym z.size_is,
      ap₂ (λ (k : ℕ) (w : Bool). Within k w) left_is full_is,
    )

pub one_spanning_is : OneDelivery → (s L : ℕ) (S : List ℕ) (ps qs : List (List ℕ)) (o r : List ℕ) (a z : SpanState) → CameTo s L S ps o a → CameTo s L S qs r z
    → (ps ≡ qs) × (o ≡ r) × (a.id ≡ z.id) × (a.size ≡ z.size) × (a.place ≡ z.place)
one_spanning_is law s L S ps qs o r a z h g =
    let t : ℕ = id_after s ps in
    let dh = spans_deliver_is s L S ps o a h in
    let dg = spans_deliver_is s L S qs r z g in
    let one = law [] S s L ps qs Waiting Waiting dh.0 dg.0 dh.1 dg.1 dh.2 dg.2 in
    let opened : o ≡ r = dh.3 ∙ ap₂ (λ (u v : List ℕ). u ++ drop 4 v) one.2 one.3 ∙ sym dg.3 in
    let k : CameTo s L S ps o z = subst (λ (y : List (List ℕ)). CameTo s L S y o z) (sym one.0) (subst (λ (y : List ℕ). CameTo s L S qs y z) (sym opened) g) in
    let da = came_delivers s L a.id a.size a.place S ps o h.0 h.1 h.2 h.3 in
    let dz = came_delivers s L z.id z.size z.place S ps o k.0 k.1 k.2 k.3 in
    let two = law [] S s L ps ps Waiting Waiting (came_held t L a.id a.size a.place o h.0 h.3) (came_held t L z.id z.size z.place o k.0 k.3)
    (came_rest t L a.id a.size a.place o h.0 h.3) (came_rest t L z.id z.size z.place o k.0 k.3) da.0 dz.0 in
    let same = stands_alike t L a.id a.size z.id z.size a.place z.place o h.0 k.0 h.3 k.3 two.2 two.3 in
    (one.0, opened, same.0, same.1, same.2)

-- spans after spans
pub packets_of-append : (o : List ℕ) (xs ys : List (List ℕ × Bool)) → packets_of o (xs ++ ys) ≡ packets_of o xs ++ packets_of (opened_after o xs) ys
packets_of-append o [] ys = refl
packets_of-append o ((x, true) ∷ xs) ys = ap (λ (z : List (List ℕ)). (o ++ x) ∷ z) (packets_of-append [] xs ys)
packets_of-append o ((x, false) ∷ xs) ys = packets_of-append (o ++ x) xs ys

pub opened_after-append : (o : List ℕ) (xs ys : List (List ℕ × Bool)) → opened_after o (xs ++ ys) ≡ opened_after (opened_after o xs) ys
opened_after-append o [] ys = refl
opened_after-append o ((x, true) ∷ xs) ys = opened_after-append [] xs ys
opened_after-append o ((x, false) ∷ xs) ys = opened_after-append (o ++ x) xs ys

pub joined_spans_is : (a b c : SpanState) (x y : List ℕ) (xs ys : List (List ℕ × Bool)) → b.limit ≡ a.limit → SpansOn a x xs b → SpansOn b y ys c → SpansOn a (x ++ y) (xs ++ ys) c
joined_spans_is a b c x y xs ys same f g s L S ps o le h =
    let P : List (List ℕ) = packets_of o xs in
    let r : List ℕ = opened_after o xs in
    let k = g s L (S ++ x) (ps ++ P) r (subst (λ (n : ℕ). n ≤ L) (sym same) le) (f s L S ps o le h) in
    subst (λ (z : List ℕ). CameTo s L z (ps ++ packets_of o (xs ++ ys)) (opened_after o (xs ++ ys)) c) (append_assoc S x y)
    (subst (λ (z : List (List ℕ)). CameTo s L ((S ++ x) ++ y) z (opened_after o (xs ++ ys)) c) (append_assoc ps P (packets_of r ys) ∙ ap (λ (z : List (List ℕ)). ps ++ z) (sym (packets_of-append o xs ys)))
    (subst (λ (z : List ℕ). CameTo s L ((S ++ x) ++ y) ((ps ++ P) ++ packets_of r ys) z c) (sym (opened_after-append o xs ys)) k))

pub nothing_came : (a : SpanState) → SpansOn a [] [] a
nothing_came a s L S ps o le h =
    subst (λ (z : List ℕ). CameTo s L z (ps ++ []) o a) (sym (append-nil S)) (still s L S ps o a h)

-- the part of a header that the piece brought, and what is after it
pub header_part : (came : HeaderFront) (P R : List ℕ) (len id : ℕ) → front_bytes came ++ P ≡ header len id ++ R
    → (x : List ℕ) × (front_bytes came ++ x ≡ header len id) × (P ≡ x ++ R)
header_part Empty P R len id e = (header len id, refl, e)
header_part (One a) P R len id e = (drop 1 (header len id), ap (λ (z : List ℕ). take 1 z ++ drop 1 (header len id)) e, ap (λ (z : List ℕ). drop 1 z) e)
header_part (Two a b) P R len id e = (drop 2 (header len id), ap (λ (z : List ℕ). take 2 z ++ drop 2 (header len id)) e, ap (λ (z : List ℕ). drop 2 z) e)
header_part (Three a b c) P R len id e = (drop 3 (header len id), ap (λ (z : List ℕ). take 3 z ++ drop 3 (header len id)) e, ap (λ (z : List ℕ). drop 3 z) e)

-- a span is the end of what was eaten
pub front_ends : (came : HeaderFront) (P R N : List ℕ) (len id : ℕ) (x : Option Span) → front_bytes came ++ P ≡ header len id ++ R
    → IfSome x (λ span. R ≡ span.bytes.now ++ N)
    → IfSome x (λ span. (front : List ℕ) × (P ≡ front ++ (span.bytes.now ++ N)) × (length front ≤ 4))
front_ends came P R N len id None e h = h
front_ends came P R N len id (Some span) e h =
    let part = header_part came P R len id e in
    let size : length (front_bytes came ++ part.0) ≡ 4 = ap (λ (w : List ℕ). length w) part.1 in
    (part.0, part.2 ∙ ap (λ (z : List ℕ). part.0 ++ z) h, omega (arith, size, length-append (front_bytes came) part.0))

-- a header that is accepted, and what is taken after it
pub header_then : (limit s L : ℕ) (S : List ℕ) (ps : List (List ℕ)) (o c x y : List ℕ) (i n len id next size : ℕ) (spans : List (List ℕ × Bool)) (after : SpanState)
    → CameTo s L S ps o (at_place limit i n (AtHeader c)) → c ++ x ≡ header len id → len ≤ max_payload → id ≡ i → limit ≤ L → (len ≡ 0) ⊎ (n + len ≤ limit)
    → size ≡ n + len → next ≡ (i + 1) % 256 → TakesSpan next size len (len == 16777215) y spans after
    → CameTo s L (S ++ (x ++ y)) (ps ++ packets_of o spans) (opened_after o spans) after
header_then limit s L S ps o c x y i n len id next size spans after h e small same le fits is_size is_next takes =
    let room : (len ≡ 0) ⊎ (n + len ≤ L) = elim fits [ inl none ↦ inl none | inr some ↦ inr (omega (arith, some, le)) ] in
    let opens : OpenedTo s L (S ++ x) ps o ((i + 1) % 256) (n + len) len (len == max_payload) = came_chunk limit s L S ps o c x i n len id h e small same room in
    let at : OpenedTo s L (S ++ x) ps o next size len (len == 16777215) =
    subst (λ (m : ℕ). OpenedTo s L (S ++ x) ps o next size len (len == m)) max_payload_is
    (subst (λ (k : ℕ). OpenedTo s L (S ++ x) ps o next k len (len == max_payload)) (sym is_size)
    (subst (λ (k : ℕ). OpenedTo s L (S ++ x) ps o k (n + len) len (len == max_payload)) (sym is_next) opens)) in
    subst (λ (z : List ℕ). CameTo s L z (ps ++ packets_of o spans) (opened_after o spans) after) (append_assoc S x y) (takes s L (S ++ x) ps o at)

pub nothing_left : (xs : List ℕ) → xs ≡ xs ++ take (length xs - length xs) (drop (length xs) xs)
nothing_left xs =
    let e : length xs - length xs ≡ 0 = omega arith in
    sym (append-nil xs) ∙ ap (λ (z : List ℕ). xs ++ z) (sym (ap (λ (n : ℕ). take n (drop (length xs) xs)) e))

-- Bytes that are fed in pieces.
use Rattle.std.proofs.Common.{◌≡◌, ℕ, ℤ, ◌+◌, ◌-◌, ◌%◌, ◌<◌, ◌≤◌, List, [], ◌∷◌, ◌++◌, length, length-drop, take, take_all, drop, refl, sym, ap, ◌∙◌, subst, arith, append-nil, inl, inr, ◌==◌, eqb-true, Option, None, Some, IsSome, Ok, Bool, true}
use Rattle.std.proofs.Math.Seq.{take-add}
use Rattle.std.proofs.lemmas.List.{length-take-le, take_more_set, drop-set-lt, drop-drop}
use Rattle.std.proofs.Math.ListN.{set}
use Rattle.std.proofs.lemmas.Grind.{flat_map-append}
use Rattle.std.specs.List.{flat_map}
use Rattle.wire_codec.specs.Delivery.{chunk_len}
use Rattle.std.proofs.lemmas.Bool.{false≢true}
use Rattle.wire_codec.specs.declared.codec.packet.PacketCodec.{PacketCodec}
use Rattle.wire_codec.specs.Codec.{CodecState, codec_state, expected_id, header_of}
use Rattle.wire_codec.specs.Laws.{appended, empty_state}
use Rattle.wire_codec.specs.InPlace.{HasFront, front_payload, behind_front}
use Rattle.wire_codec.specs.LimitedRuns.{DecodesAligned}
use Rattle.mysql_wire_c_calls.specs.declared.codes.TheConstants.{OK, WAITS, PACKET, NO_MEMORY}
use Rattle.mysql_wire_c_calls.specs.declared.fields.Span.{Span}
use Rattle.mysql_wire_c_calls.specs.declared.side.Front.TheVariants.{Unfinished}
use Rattle.mysql_wire_c_calls.specs.Side.{Side, side_of}
use Rattle.mysql_wire_c_calls.specs.Answers.{Waits}
use Rattle.mysql_wire_c_calls.specs.SideCalls.{Feeds, Peeks, Takes}
use Rattle.mysql_wire_c_calls.specs.Decoding.{FedInTurn, HasPacketIn, LendsFrom, LendsInTurn, fed_with, unlent}

pub fed_then : (pieces : List (List ℕ)) (before mid waits : Side) (piece : List ℕ) → FedInTurn pieces before mid → Waits mid waits
    → FedInTurn (pieces ++ piece ∷ []) before (fed_with waits piece)
fed_then [] before mid waits piece is w = (waits, subst (λ (s : Side). Waits s waits) is w, refl)
fed_then (first ∷ pieces) before mid waits piece (between, h, rest) w = (between, h, fed_then pieces (fed_with between first) mid waits piece rest w)

pub joined_then : (pieces : List (List ℕ)) (bytes piece : List ℕ) (used count : ℕ) → flat_map (λ (p : List ℕ). p) pieces ≡ take used bytes → piece ≡ take count (drop used bytes)
    → flat_map (λ (p : List ℕ). p) (pieces ++ piece ∷ []) ≡ take (used + count) bytes
joined_then pieces bytes piece used count is next =
    flat_map-append (λ (p : List ℕ). p) pieces (piece ∷ []) ∙ ap (λ (z : List ℕ). flat_map (λ (p : List ℕ). p) pieces ++ z) (append-nil piece ∙ next)
    ∙ ap (λ (z : List ℕ). z ++ take count (drop used bytes)) is ∙ sym (take-add used count bytes)

-- a connection that waits isn't lost, so that only memory is refused
pub refused_memory : (answer : ℤ) (piece : List ℕ) (mid before after : Side) → Waits mid before → Feeds piece answer before after → (answer ≡ OK → ⊥)
    → (answer ≡ NO_MEMORY) × Waits mid after
refused_memory answer piece mid before after w f other =
    elim f.refused [
      | inl is ↦ absurd (other is)
      | inr same ↦ (
        elim f.answers [
          | inl is ↦ absurd (other is)
          | inr (inl lost) ↦ absurd (let a = f.lost lost in let b = w.2 in cc)
          | inr (inr memory) ↦ memory
        ],
        subst (λ (s : Side). Waits mid s) (sym same) w,
      )
    ]

-- one piece more was fed
pub fill_step : (bytes piece : List ℕ) (used count : ℕ) (answer fed : ℤ) (before old waits new : Side) → used < length bytes
    → piece ≡ take count (take (length bytes - used) (drop used bytes)) → Peeks answer old waits → answer ≡ WAITS
    → Feeds piece fed waits new → fed ≡ OK
    → (pieces : List (List ℕ)) × (flat_map (λ (p : List ℕ). p) pieces ≡ take used bytes) × FedInTurn pieces before old
    → (pieces : List (List ℕ)) × (flat_map (λ (p : List ℕ). p) pieces ≡ take (used + count) bytes) × FedInTurn pieces before new
fill_step bytes piece used count answer fed before old waits new inside is peeks waited feeds ok so_far =
    let whole : take (length bytes - used) (drop used bytes) ≡ drop used bytes = take_all (length bytes - used) (drop used bytes) (let e = length-drop used bytes in omega (arith, e)) in
    let next : piece ≡ take count (drop used bytes) = is ∙ ap (λ (z : List ℕ). take count z) whole in (
      so_far.0 ++ piece ∷ [],
      joined_then so_far.0 bytes piece used count so_far.1 next,
      subst (λ (s : Side). FedInTurn (so_far.0 ++ piece ∷ []) before s) (sym (feeds.fed ok).1)
          (fed_then so_far.0 before old waits piece so_far.2 (peeks.waits waited)),
    )

-- as `take` leaves it
pub unlent_is : (answer : ℤ) (before after : Side) → Takes answer before after → after ≡ unlent before
unlent_is answer before after took =
    elim took.answers [
      | inl ok ↦ (took.taken ok).1
      | inr none ↦
          let is = took.none none in
          is.1 ∙ ap (λ (l : Option (List ℕ)). record before { lent = l }) is.0
    ]

fields_are : (s t : CodecState) → s.limit ≡ t.limit → s.id ≡ t.id → s.header ≡ t.header → s.unread ≡ t.unread → s.held ≡ t.held → s ≡ t
fields_are s t limit id header unread held =
    ap (λ x. record s { limit = x }) limit ∙ ap (λ x. record s { limit = t.limit; id = x }) id
    ∙ ap (λ x. record s { limit = t.limit; id = t.id; header = x }) header ∙ ap (λ x. record t { unread = x; held = s.held }) unread
    ∙ ap (λ x. record t { held = x }) held

-- a packet that is lent from the bytes
pub lends_is : (bytes packet : List ℕ) (state after : CodecState) (pending : List ℕ) (used : ℕ) → state.unread ≡ [] → state.held ≡ []
    → HasFront (record state { unread = bytes; held = [] }) → packet ≡ front_payload bytes → used ≡ 4 + chunk_len bytes
    → DecodesAligned (record state { unread = bytes; held = [] }) (Ok true) (record after { unread = drop used bytes; held = front_payload bytes })
    → record after { unread = drop used bytes; held = front_payload bytes } ≡ behind_front (record state { unread = bytes; held = [] })
    → after.unread ≡ state.unread → after.held ≡ state.held
    → LendsFrom bytes (4 + length packet) (length packet) PACKET (side_of Unfinished state pending) (side_of Unfinished after pending)
lends_is bytes packet state after pending used no_unread none (aligned, empty, long, whole, small, is, within) packet_is used_is decodes behind same_unread same_held =
    let room : chunk_len bytes ≤ length (drop 4 bytes) = let e = length-drop 4 bytes in omega (arith, e, whole, long) in
    let size : length packet ≡ chunk_len bytes = ap (λ (z : List ℕ). length z) packet_is ∙ length-take-le (chunk_len bytes) (drop 4 bytes) room in
    let place : used ≡ 4 + length packet = used_is ∙ ap (λ (n : ℕ). 4 + n) (sym size) in
    let limit = ap (λ (s : CodecState). s.limit) behind in
    let number = ap (λ (s : CodecState). s.id) behind in
    let header = ap (λ (s : CodecState). s.header) behind in
    let bare : state.unread ++ bytes ≡ bytes = ap (λ (z : List ℕ). z ++ bytes) no_unread in
    let rest : after.unread ++ drop used bytes ≡ drop used bytes = ap (λ (z : List ℕ). z ++ drop used bytes) (same_unread ∙ no_unread) in
    let seen : DecodesAligned (record state { unread = state.unread ++ bytes }) (Ok true) (record after { unread = after.unread ++ drop used bytes; held = front_payload bytes }) =
    subst (λ (z : List ℕ). DecodesAligned (record state { unread = z }) (Ok true) (record after { unread = after.unread ++ drop used bytes; held = front_payload bytes })) (sym bare)
    (subst (λ (z : List ℕ). DecodesAligned (record state { unread = bytes }) (Ok true) (record after { unread = z; held = front_payload bytes })) (sym rest)
    (subst (λ (z : List ℕ). DecodesAligned (record state { unread = bytes; held = z }) (Ok true) (record after { unread = drop used bytes; held = front_payload bytes })) (sym none) decodes)) in
    record {
      packet = refl;
      size = size;
      ends = ap (λ (n : ℕ). 4 + n) size;
      bound = omega (arith, whole, size);
      behind = ap (λ (s : CodecState). side_of Unfinished s pending)
          (fields_are after (record state { id = (state.id + 1) % 256; header = None }) limit number header same_unread same_held);
      decodes = subst (λ (n : ℕ). DecodesAligned (record state { unread = state.unread ++ bytes }) (Ok true) (record after { unread = after.unread ++ drop n bytes; held = front_payload bytes })) place seen;
    }

-- where a buffer is empty
pub nothing_there : (bytes : List ℕ) (is_empty : Bool) → is_empty ≡ (length bytes == 0) → is_empty ≡ true → bytes ≡ []
nothing_there [] is_empty e it = refl
nothing_there (byte ∷ bytes) is_empty e it = absurd (let none : length (byte ∷ bytes) ≡ 0 = eqb-true (length (byte ∷ bytes)) 0 (sym e ∙ it) in omega (arith, none))

-- one packet more is lent
pub lends_then : (spans : List Span) (bytes : List ℕ) (at end : ℕ) (before mid after : Side) (span : Span) → LendsInTurn bytes at spans end before mid
    → span.at ≡ end + 4 → HasPacketIn (drop end bytes) mid → LendsFrom (drop end bytes) (4 + span.len) span.len PACKET mid after
    → LendsInTurn bytes at (spans ++ span ∷ []) (end + 4 + span.len) before after
lends_then [] bytes at end before mid after span (is, same) place has lends = (
  after,
  place ∙ ap (λ (n : ℕ). n + 4) is,
  subst (λ (n : ℕ). HasPacketIn (drop n bytes) before) is (subst (λ (s : Side). HasPacketIn (drop end bytes) s) same has),
  subst (λ (n : ℕ). LendsFrom (drop n bytes) (4 + span.len) span.len PACKET before after) is
      (subst (λ (s : Side). LendsFrom (drop end bytes) (4 + span.len) span.len PACKET s after) same lends),
  (ap (λ (n : ℕ). n + 4 + span.len) is, refl),
)
lends_then (first ∷ spans) bytes at end before mid after span (between, stands, there, lent, rest) place has lends =
    (between, stands, there, lent, lends_then spans bytes (at + 4 + first.len) end between mid after span rest place has lends)

-- the same, as it is written to its place
pub many_step : (bytes lent : List ℕ) (spans old : List Span) (count used : ℕ) (span : Span) (before mid after : Side) → used ≤ length bytes → count < length spans
    → span.at ≡ used + 4 → span.len ≡ length lent → LendsInTurn bytes 0 (take count spans) used before mid
    → HasPacketIn (take (length bytes - used) (drop used bytes)) mid
    → LendsFrom (take (length bytes - used) (drop used bytes)) (4 + length lent) (length lent) PACKET mid after
    → drop count spans ≡ drop count old
    → (used + 4 + length lent ≤ length bytes)
    × LendsInTurn bytes 0 (take (count + 1) (set spans count span)) (used + 4 + length lent) before after
    × (drop (count + 1) (set spans count span) ≡ drop (count + 1) old)
many_step bytes lent spans old count used span before mid after inside place at len so_far has lends rest =
    let e = length-drop used bytes in
    let whole : take (length bytes - used) (drop used bytes) ≡ drop used bytes = take_all (length bytes - used) (drop used bytes) (omega (arith, e)) in
    let here : LendsFrom (drop used bytes) (4 + span.len) span.len PACKET mid after =
    subst (λ (n : ℕ). LendsFrom (drop used bytes) (4 + n) n PACKET mid after) (sym len) (subst (λ (z : List ℕ). LendsFrom z (4 + length lent) (length lent) PACKET mid after) whole lends) in
    let bound = here.bound in
    let more : LendsInTurn bytes 0 (take (count + 1) (set spans count span)) (used + 4 + span.len) before after =
    subst (λ (z : List Span). LendsInTurn bytes 0 z (used + 4 + span.len) before after) (sym (take_more_set spans count span place))
    (lends_then (take count spans) bytes 0 used before mid after span so_far at (subst (λ (z : List ℕ). HasPacketIn z mid) whole has) here) in (
      omega (arith, bound, e, len, inside),
      subst (λ (n : ℕ). LendsInTurn bytes 0 (take (count + 1) (set spans count span)) (used + 4 + n) before after) len more,
      drop-set-lt (count + 1) spans count span (omega arith)
          ∙ sym (drop-drop 1 count spans) ∙ ap (λ (z : List Span). drop 1 z) rest ∙ drop-drop 1 count old,
    )

-- one packet more is lent by a codec that holds nothing
pub codec_step : (bytes lent : List ℕ) (spans old : List Span) (count used chunk : ℕ) (span : Span) (state mid after : CodecState) → used ≤ length bytes → count < length spans
    → span.at ≡ used + 4 → span.len ≡ length lent
    → ((pending : List ℕ) → LendsInTurn bytes 0 (take count spans) used (side_of Unfinished state pending) (side_of Unfinished mid pending))
    → mid.unread ≡ [] → mid.held ≡ [] → after.unread ≡ mid.unread → after.held ≡ mid.held
    → HasFront (record mid { unread = take (length bytes - used) (drop used bytes); held = [] })
    → lent ≡ front_payload (take (length bytes - used) (drop used bytes)) → chunk ≡ 4 + chunk_len (take (length bytes - used) (drop used bytes))
    → DecodesAligned (record mid { unread = take (length bytes - used) (drop used bytes); held = [] }) (Ok true)
    (record after { unread = drop chunk (take (length bytes - used) (drop used bytes)); held = front_payload (take (length bytes - used) (drop used bytes)) })
    → record after { unread = drop chunk (take (length bytes - used) (drop used bytes)); held = front_payload (take (length bytes - used) (drop used bytes)) }
    ≡ behind_front (record mid { unread = take (length bytes - used) (drop used bytes); held = [] })
    → drop count spans ≡ drop count old
    → (used + 4 + length lent ≤ length bytes)
    × ((pending : List ℕ) → LendsInTurn bytes 0 (take (count + 1) (set spans count span)) (used + 4 + length lent) (side_of Unfinished state pending) (side_of Unfinished after pending))
    × (drop (count + 1) (set spans count span) ≡ drop (count + 1) old) × (after.header ≡ None)
codec_step bytes lent spans old count used chunk span state mid after inside place at len so_far no_unread none same_unread same_held there packet_is chunk_is decodes behind rest =
    let piece = take (length bytes - used) (drop used bytes) in
    let bare : HasFront (record mid { unread = mid.unread ++ piece }) =
    subst (λ (z : List ℕ). HasFront (record mid { unread = z ++ piece })) (sym no_unread)
    (subst (λ (z : List ℕ). HasFront (record mid { unread = piece; held = z })) (sym none) there) in
    let step : (pending : List ℕ) → (used + 4 + length lent ≤ length bytes)
    × LendsInTurn bytes 0 (take (count + 1) (set spans count span)) (used + 4 + length lent) (side_of Unfinished state pending) (side_of Unfinished after pending)
    × (drop (count + 1) (set spans count span) ≡ drop (count + 1) old) =
    λ pending. many_step bytes lent spans old count used span (side_of Unfinished state pending) (side_of Unfinished mid pending) (side_of Unfinished after pending)
    inside place at len (so_far pending) (refl, no_unread, none, bare)
    (lends_is piece lent mid after pending chunk no_unread none there packet_is chunk_is decodes behind same_unread same_held) rest in
    ((step []).0, λ pending. (step pending).1, (step []).2, ap (λ (s : CodecState). s.header) behind)

-- what is left of the bytes
rest_is : (n : ℕ) (bytes : List ℕ) → take (length bytes - n) (drop n bytes) ≡ drop n bytes
rest_is n bytes = take_all (length bytes - n) (drop n bytes) (let len = length-drop n bytes in omega arith)

-- a codec that found no packet in front of them, alone, finds none after nothing
pub none_alone : {A : Type 0} (front : Option A) (codec : PacketCodec) (id limit n : ℕ) (bytes : List ℕ) → id ≡ expected_id codec → codec.max_allowed_packet ≡ limit → header_of codec ≡ None
    → (HasFront (codec_state codec (take (length bytes - n) (drop n bytes)) []) → IsSome front) → ((packet : A) → front ≡ Some packet → ⊥)
    → HasFront (appended (empty_state id limit) (drop n bytes)) → ⊥
none_alone None codec id limit n bytes same most header there refused has =
    false≢true (there (rw (rest_is n bytes, header, most, ← same) has))
none_alone (Some packet) codec id limit n bytes same most header there refused has = refused packet refl

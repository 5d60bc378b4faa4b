-- A packet that lies whole in one chunk, in front of what was read.
use Rattle.std.proofs.Common.{◌≡◌, ℕ, ◌+◌, ◌-◌, ◌%◌, ◌<◌, ◌≤◌, List, [], ◌∷◌, ◌++◌, length, take, drop, slice_index, refl, sym, ap, ◌∙◌, subst, arith, length-drop, true, false, Option, Some, None, IsNone, Ok, ◌⊎◌, inl, inr, Bool, MatchOption, IsTrue, IsFalse}
use Rattle.std.proofs.lemmas.List.{length-take-le, drop-drop}
use Rattle.wire_codec.specs.declared.codec.packet.PacketCodec.{PacketCodec}
use Rattle.wire_codec.specs.Framing.{max_payload, header}
use Rattle.wire_codec.specs.Delivery.{chunk_len, IsSpelled}
use Rattle.wire_span.specs.Spans.{SpanPlace, SpanState, SpansOn, EatsSpans, IsBetween, span_state}
use Rattle.wire_span.specs.Renumbering.{sent}
use Rattle.wire_span.proofs.PassingLemmas.{merged_spans}
use Rattle.wire_codec.specs.Codec.{expected_id}
use Rattle.wire_packet_io.specs.Copying.{copied_to, in_front, Copies, CopiesNext}
use Rattle.wire_packet_io.specs.Lending.{packet_of, unread_behind}
use Rattle.wire_packet_io.specs.declared.input.Found.{Found}
use Rattle.wire_packet_io.specs.declared.input.Found.TheVariants.{InFront, Copied}
use Rattle.wire_span.specs.declared.span.SpanDecoder.{SpanDecoder}
use Rattle.wire_packet_io.specs.Relaying.{PassesOn}
use Rattle.wire_packet_io.specs.Whole.{LiesWhole, in_front_with, payload_of}
use Rattle.wire_packet_io.proofs.CopyLemmas.{copied_more, front_eaten, header_eaten, reads_start}
use Rattle.wire_packet_io.proofs.RelayLemmas.{relays_go, gone_none}

abbrev state : ℕ → ℕ → ℕ → SpanPlace → SpanState
state l i n p = record { limit = l; id = i; size = n; place = p }

same_state : (l k i j n m : ℕ) (p q : SpanPlace) → l ≡ k → i ≡ j → n ≡ m → p ≡ q
    → state l i n p ≡ state k j m q
same_state l k i j n m p q a b c d = rw (a, b, c, d) refl

-- its header and its bytes pass, one after the other
pub whole_is : (codec : PacketCodec) (before mid after : SpanState) (src : List ℕ) (len number next : ℕ)
    → before ≡ in_front codec → mid.limit ≡ before.limit → after.limit ≡ mid.limit
    → 4 + len ≤ length src → len ≤ max_payload → len ≡ chunk_len src → number ≡ slice_index src 3 → IsSpelled src → before.id < 256
    → (number ≡ before.id) × (mid.id ≡ (before.id + 1) % 256)
    → ((i : ℕ) → i < 256 → SpansOn (sent before i) (header len i) (([], false) ∷ []) (sent mid ((i + 1) % 256)))
    → after.id ≡ mid.id → ((i : ℕ) (bytes : List ℕ) → length bytes ≡ len → SpansOn (sent mid i) bytes ((bytes, true) ∷ []) (sent after i))
    → IsBetween after → next ≡ after.id → LiesWhole codec src len next
whole_is codec before mid after src len number next start limit_mid limit_after there small len_is id_is spelled low ids headers same came between next_is =
    let x : List ℕ = payload_of len src in
    let rest : length (drop 4 src) ≡ length src - 4 = length-drop 4 src in
    let long : length x ≡ len = length-take-le len (drop 4 src) (omega (arith, there, rest)) in
    let end : after ≡ in_front_with codec next =
    same_state after.limit codec.max_allowed_packet after.id next after.size 0 after.place _
    (limit_after ∙ limit_mid ∙ ap (λ (s : SpanState). s.limit) start) (sym next_is) between.0 between.1 in
    let on = subst (λ (i : ℕ). SpansOn mid x ((x, true) ∷ []) (sent after i)) (sym same) (came mid.id x long) in
    let eats : EatsSpans before src ((x, true) ∷ []) (drop (4 + len) src) after =
    copied_more before mid after src (drop 4 src) (drop (4 + len) src) [] x true limit_mid
    (header_eaten before mid src (drop 4 src) len number false (omega (arith, there)) len_is id_is spelled refl low ids headers)
    (front_eaten mid after (drop 4 src) (drop (4 + len) src) x len true (sym (drop-drop len 4 src)) on) in
    record {
      there = there;
      small = small;
      eats = subst (λ (s : SpanState). EatsSpans s src ((x, true) ∷ []) (drop (4 + len) src) (in_front_with codec next)) start
          (subst (λ (s : SpanState). EatsSpans before src ((x, true) ∷ []) (drop (4 + len) src) s) end eats);
      goes = λ i low_i.
          subst (λ (s : SpanState). SpansOn (sent s i) (header len i ++ x) ((x, true) ∷ []) (in_front_with codec ((i + 1) % 256))) start
          (subst (λ (s : SpanState). SpansOn (sent before i) (header len i ++ x) ((x, true) ∷ []) (sent s ((i + 1) % 256))) end
          (merged_spans (sent before i) (sent mid ((i + 1) % 256)) (sent after ((i + 1) % 256)) (header len i) x [] x true limit_mid
          (headers i low_i) (came ((i + 1) % 256) x long)));
    }

-- and goes out after what is pending
pub relays_whole : {asked : ℕ → ℕ} (codec behind : PacketCodec) (src rest : List ℕ) (unread : Option (List ℕ)) (reads len here id next : ℕ) (pending more : List ℕ) (held : Option (List ℕ))
    → LiesWhole codec src len here → rest ≡ drop (4 + len) src → behind.max_allowed_packet ≡ codec.max_allowed_packet → expected_id behind ≡ here
    → id < 256 → next ≡ (id + 1) % 256 → more ≡ pending ++ (header len id ++ payload_of len src)
    → (b : List ℕ) × CopiesNext asked (in_front codec) src unread unread reads reads (Ok true) b (in_front behind) rest
    × PassesOn (in_front codec) id b true (in_front behind) next pending more held held
relays_whole codec behind src rest unread reads len here id next pending more held whole rest_is limit here_is low next_is put =
    let a : SpanState = in_front codec in
    let x : List ℕ = payload_of len src in
    let end : in_front behind ≡ in_front_with codec here = same_state _ _ _ _ 0 0 _ _ limit here_is refl refl in
    rw (rest_is, next_is, end)
    (relays_go (Ok true) a a (in_front_with codec here) id id ((id + 1) % 256) src src (drop (4 + len) src) unread unread unread reads reads reads pending pending more held held held
    refl refl refl refl ([], reads_start a src unread reads, gone_none a id pending held)
    (x, header len id ++ x, whole.eats, whole.goes id low, put) tt)

-- at a reader that lends nothing and copies nothing
pub relays_front : {A : Type 0} {asked : ℕ → ℕ} (lent : Option (Found A)) (copied : Option SpanDecoder) (codec behind : PacketCodec) (src rest : List ℕ) (unread : Option (List ℕ)) (reads len here id next : ℕ) (pending more : List ℕ) (held : Option (List ℕ))
    → IsNone (packet_of lent src) → IsNone copied
    → LiesWhole codec src len here → rest ≡ drop (4 + len) src → behind.max_allowed_packet ≡ codec.max_allowed_packet → expected_id behind ≡ here
    → id < 256 → next ≡ (id + 1) % 256 → more ≡ pending ++ (header len id ++ payload_of len src)
    → (b : List ℕ) × CopiesNext asked (copied_to copied codec) (unread_behind lent src) unread unread reads reads (Ok true) b (copied_to copied behind) (unread_behind lent rest)
    × PassesOn (copied_to copied codec) id b true (copied_to copied behind) next pending more held held
relays_front None None codec behind src rest unread reads len here id next pending more held none alone whole rest_is limit here_is low next_is put =
    relays_whole codec behind src rest unread reads len here id next pending more held whole rest_is limit here_is low next_is put
relays_front None (Some decoder) codec behind src rest unread reads len here id next pending more held none alone whole rest_is limit here_is low next_is put = absurd cc
relays_front (Some (InFront chunk)) copied codec behind src rest unread reads len here id next pending more held none alone whole rest_is limit here_is low next_is put = absurd cc
relays_front (Some (Copied packet)) copied codec behind src rest unread reads len here id next pending more held none alone whole rest_is limit here_is low next_is put = absurd cc

-- what was put: its header, and the part of what was read
pub put_is : (pending more put read src : List ℕ) (len id : ℕ) → read ≡ src → put ≡ header len id
    → more ≡ pending ++ (put ++ take (4 + len - 4) (drop 4 read)) → more ≡ pending ++ (header len id ++ payload_of len src)
put_is pending more put read src len id same spelled is =
    let count : 4 + len - 4 ≡ len = omega arith in
    is ∙ ap (λ (z : List ℕ). pending ++ (z ++ take (4 + len - 4) (drop 4 read))) spelled
    ∙ ap (λ (n : ℕ). pending ++ (header len id ++ take n (drop 4 read))) count
    ∙ ap (λ (z : List ℕ). pending ++ (header len id ++ payload_of len z)) same

-- a reader that copies nothing, and isn't lost, lends nothing
pub not_lent : (S H : Type 0) (T : SpanDecoder → Type 0) (copied : Option SpanDecoder) (lost : Bool) (lent : Option (List ℕ))
    → MatchOption copied (IsTrue lost ⊎ (S × H × IsNone lent)) T → (IsNone copied → IsFalse lost) → IsNone copied → IsNone lent
not_lent S H T None true lent can place none = absurd (let found = place none in cc)
not_lent S H T None false lent (inl lost) place none = absurd cc
not_lent S H T None false lent (inr stands) place none = stands.2
not_lent S H T (Some decoder) lost lent can place none = absurd cc

-- it begins to copy the packet in front
pub begins_front : {A : Type 0} (lent : Option (Found A)) (copied : Option SpanDecoder) (codec : PacketCodec) (ends : Bool) (start after last : SpanState) (src new unread : List ℕ) (held more : Option (List ℕ))
    → IsNone (packet_of lent src) → IsNone copied → start ≡ in_front codec → last ≡ after → unread ≡ new
    → Copies ends start src held after new more → Copies ends (copied_to copied codec) (unread_behind lent src) held last unread more
begins_front None None codec ends start after last src new unread held more none alone first end is f =
    subst (λ (s : SpanState). Copies ends s src held last unread more) first (rw (end, is) f)
begins_front None (Some decoder) codec ends start after last src new unread held more none alone first end is f = absurd cc
begins_front (Some (InFront chunk)) copied codec ends start after last src new unread held more none alone first end is f = absurd cc
begins_front (Some (Copied packet)) copied codec ends start after last src new unread held more none alone first end is f = absurd cc

-- a codec after a packet that was copied
pub behind_is : (copied : Option SpanDecoder) (behind : PacketCodec) (after : SpanState) → IsNone copied → IsBetween after
    → behind.max_allowed_packet ≡ after.limit → expected_id behind ≡ after.id → copied_to copied behind ≡ after
behind_is None behind after none between limit id = same_state _ after.limit _ after.id 0 after.size _ after.place limit id (sym between.0) (sym between.1)
behind_is (Some decoder) behind after none between limit id = absurd cc

-- and a decoder in its midst
pub midst_is : (decoder : SpanDecoder) (codec : PacketCodec) → decoder.max_allowed_packet ≡ codec.max_allowed_packet → copied_to (Some decoder) codec ≡ span_state decoder
midst_is decoder codec limit = same_state _ _ _ _ _ _ _ _ (sym limit) refl refl refl

pub limit_is : (copied : Option SpanDecoder) (codec : PacketCodec) → (copied_to copied codec).limit ≡ codec.max_allowed_packet
limit_is None codec = refl
limit_is (Some decoder) codec = refl

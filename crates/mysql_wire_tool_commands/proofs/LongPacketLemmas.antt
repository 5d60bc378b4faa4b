-- A packet that is taken whole, or where the packets end.
use Rattle.std.proofs.Common.{◌≡◌, ◌≢◌, ℕ, ◌+◌, ◌-◌, ◌%◌, ◌<◌, ◌≤◌, ◌⊎◌, List, [], ◌∷◌, ◌++◌, length, slice_index, refl, sym, ap, ◌∙◌, subst, arith, append_assoc, append-nil, length-append, inl, inr, Option, Some, None, IsNone, MatchOption, IsTrue, false}
use Rattle.std.proofs.lemmas.List.{append_cancel_left}
use Rattle.wire_codec.specs.Framing.{max_payload, header, front}
use Rattle.wire_codec.specs.Delivery.{chunk_len, id_at, IsTooLarge, Splits, Delivers, Waiting, TooLarge}
use Rattle.wire_span.specs.declared.span.SpanError.TheVariants as span
use Rattle.wire_span.specs.Spans.{SpanPlace, AtHeader, Within, SpanState, CameTo, EatsSpans, IsBetween, IsOfAnotherId, StopsBefore, header_came, span_state}
use Rattle.wire_span.specs.SpanLaws.{SpansBegin, SpansDeliver, SpansEnd, SpansStop, OneSpanning}
use Rattle.wire_span.specs.Passing.{left_in}
use Rattle.wire_span.specs.declared.span.SpanDecoder.{SpanDecoder}
use Rattle.wire_codec.specs.declared.codec.packet.PacketCodec.{PacketCodec}
use Rattle.wire_codec.specs.Codec.{Stands}
use Rattle.wire_packet_io.specs.Copying.{copied_to, CanCopy}
use Rattle.wire_packet_io.specs.Lending.{Reading, reading_state}
use Rattle.wire_span.proofs.SpanLemmas.{states_id}
use Rattle.mysql_wire_tool_commands.specs.LongPackets.{LosesSync}
use Rattle.mysql_wire_tool_commands.proofs.PacketLineLemmas.{no_bytes}

-- in front of a packet with this id
abbrev pub front_of : ℕ → ℕ → SpanState
front_of id limit = record {
  limit = limit;
  id = id;
  size = 0;
  place = AtHeader [];
}

-- a call of `copy_packet` that ended no packet: what it ate came
abbrev Eaten : ℕ → ℕ → List ℕ → List ℕ → List ℕ → SpanState → Type 0
Eaten id limit input w new after = EatsSpans (front_of id limit) input ((w, false) ∷ []) new after

pub came_to : SpansBegin → (id limit : ℕ) → id < 256 → (input w new : List ℕ) (after : SpanState) → (e : Eaten id limit input w new after) → CameTo id limit e.0 [] w after
came_to begin id limit small input w new after e =
    e.2 id limit [] [] [] (omega arith) (begin (front_of id limit) limit small (refl, refl))

-- full chunks, and the front of a header
waits_at : SpansDeliver → (id limit lim sid size : ℕ) (eaten unread w : List ℕ) (place : SpanPlace) → header_came place ≡ []
    → CameTo id limit eaten [] w (record { limit = lim; id = sid; size = size; place = place }) → length unread < 4 → (0 < left_in place → unread ≡ [])
    → (unfinished : List ℕ) × (rest : List ℕ) × Delivers [] (eaten ++ unread) id limit [] Waiting unfinished rest
waits_at deliver id limit lim sid size eaten unread w (AtHeader came) uncut c few none =
    let d = deliver id limit eaten [] w (record { limit = lim; id = sid; size = size; place = AtHeader came }) c in
    let here = c.3 in (
      w,
      unread,
      record {
        splits = record {
          is = ap (λ (z : List ℕ). z ++ unread) (c.1 ∙ here.begun_is ∙ ap (λ (z : List ℕ). front id w ++ z) uncut ∙ append-nil (front id w));
          held_whole = d.2.splits.held_whole;
          unfinished_whole = here.opened_whole;
          within = record { begins = refl; small = let size_is = here.size_is in let within = here.within in omega arith };
        };
        ends = inl few;
      },
    )
waits_at deliver id limit lim sid size eaten unread w (Within left is_full) uncut c few none =
    let d = deliver id limit eaten [] w (record { limit = lim; id = sid; size = size; place = Within left is_full }) c in
    (d.0, d.1, subst (λ (z : List ℕ). Delivers [] z id limit [] Waiting d.0 d.1) (sym (ap (λ (z : List ℕ). eaten ++ z) (none c.3.0) ∙ append-nil eaten)) d.2)

pub waits_here : SpansBegin → SpansDeliver → (id limit : ℕ) → id < 256 → (input w new : List ℕ) (after : SpanState) → Eaten id limit input w new after → header_came after.place ≡ []
    → length new < 4 → (0 < left_in after.place → new ≡ []) → (unfinished : List ℕ) × (rest : List ℕ) × Delivers [] input id limit [] Waiting unfinished rest
waits_here begin deliver id limit small input w new after e uncut few none =
    let c = came_to begin id limit small input w new after e in
    let d = waits_at deliver id limit after.limit after.id after.size e.0 new w after.place uncut c few none in
    (d.0, d.1, subst (λ (z : List ℕ). Delivers [] z id limit [] Waiting d.0 d.1) (sym e.1) d.2)

-- inside a packet something came
some_came : SpansBegin → OneSpanning → (id limit : ℕ) → id < 256 → (input w new : List ℕ) (after : SpanState) → (e : Eaten id limit input w new after) → (¬ IsBetween after) → e.0 ≢ []
some_came begin one id limit small input w new after e inside none =
    let c = subst (λ (z : List ℕ). CameTo id limit z [] w after) none (came_to begin id limit small input w new after e) in
    let same = one id limit [] [] [] w [] after (front_of id limit) c (begin (front_of id limit) limit small (refl, refl)) in
    inside (same.3, same.4)

no_front : (x y : List ℕ) → x ++ y ≡ [] → x ≡ []
no_front [] y e = refl
no_front (a ∷ x) y e = absurd cc

no_back : (x y : List ℕ) → x ++ y ≡ [] → y ≡ []
no_back [] y e = e
no_back (a ∷ x) y e = absurd cc

pub some_here : SpansBegin → OneSpanning → (id limit : ℕ) → id < 256 → (input w new : List ℕ) (after : SpanState) → Eaten id limit input w new after
    → (0 < length new) ⊎ (¬ IsBetween after) → input ≢ []
some_here begin one id limit small input w new after e (inl some) none =
    let nothing = ap (λ (z : List ℕ). length z) (no_back e.0 new (sym e.1 ∙ none)) in absurd (omega arith)
some_here begin one id limit small input w new after e (inr inside) none =
    some_came begin one id limit small input w new after e inside (no_front e.0 new (sym e.1 ∙ none))

-- between two packets nothing came of one
pub none_here : SpansBegin → SpansEnd → (id limit : ℕ) → id < 256 → (input w new : List ℕ) (after : SpanState) → Eaten id limit input w new after → IsBetween after → new ≡ [] → input ≡ []
none_here begin end id limit small input w new after e between none =
    let c = came_to begin id limit small input w new after e in
    let ended = end id limit e.0 [] w after small between c in
    e.1 ∙ ap (λ (z : List ℕ). z ++ new) ended.0 ∙ none

part_left : (held part n : ℕ) → n ≡ held + part → held % max_payload ≡ 0 → part < max_payload → n % max_payload ≡ 0 → part ≡ 0
unfolding max_payload
part_left held part n a b c d = omega arith

-- the header that is refused is in front of what is unread
front_is : (id limit lim sid size : ℕ) (eaten unread w rest : List ℕ) (place : SpanPlace) → header_came place ≡ []
    → CameTo id limit eaten [] w (record { limit = lim; id = sid; size = size; place = place }) → Splits [] (eaten ++ unread) id limit [] w rest
    → slice_index rest 3 ≢ id_at id w → unread ≡ rest
front_is id limit lim sid size eaten unread w rest (AtHeader came) uncut c s other =
    let here = c.3 in
    append_cancel_left (front id w) unread rest
    (ap (λ (z : List ℕ). z ++ unread) (sym (c.1 ∙ here.begun_is ∙ ap (λ (z : List ℕ). front id w ++ z) uncut ∙ append-nil (front id w))) ∙ s.is)
front_is id limit lim sid size eaten unread w rest (Within left is_full) uncut c s other =
    let h = c.3.1 in
    let some = c.3.0 in
    let small = h.small in
    let long = h.len_is in
    let size_is : length w ≡ length h.held + length h.part = ap (λ (z : List ℕ). length z) h.opened_is ∙ length-append h.held h.part in
    let none : h.part ≡ [] = no_bytes h.part (part_left (length h.held) (length h.part) (length w) size_is h.held_whole (omega (arith, small, long, some)) s.unfinished_whole) in
    let same : w ≡ h.held = h.opened_is ∙ ap (λ (z : List ℕ). h.held ++ z) none ∙ append-nil h.held in
    let word : List ℕ = header h.len (id_at id h.held) in
    let came : front id h.held ++ ((word ++ h.part) ++ unread) ≡ front id h.held ++ rest =
    sym (append_assoc (front id h.held) (word ++ h.part) unread) ∙ ap (λ (z : List ℕ). z ++ unread) (sym (c.1 ∙ h.begun_is)) ∙ s.is
    ∙ ap (λ (z : List ℕ). front id z ++ rest) same in
    let rest_is : (word ++ h.part) ++ unread ≡ rest = append_cancel_left (front id h.held) ((word ++ h.part) ++ unread) rest came in
    let says : slice_index rest 3 ≡ id_at id h.held % 256 =
    ap (λ (z : List ℕ). slice_index z 3) (sym rest_is ∙ append_assoc word h.part unread) ∙ states_id h.len (id_at id h.held) (h.part ++ unread) in
    absurd (other (says ∙ omega arith ∙ ap (λ (z : List ℕ). id_at id z) (sym same)))

-- it is of another id
pub loses_sync : SpansBegin → (id limit : ℕ) → id < 256 → (input w new : List ℕ) (after : SpanState) → Eaten id limit input w new after → after.limit ≡ limit → header_came after.place ≡ []
    → StopsBefore after new span.PacketsOutOfSync → (lacking : ℕ) → (4 ≤ length new → lacking ≡ 4 + chunk_len new - length new) → LosesSync id limit input lacking
loses_sync begin id limit small input w new after e same uncut stops lacking counts =
    let c = came_to begin id limit small input w new after e in
    let s = stops id limit e.0 [] w (omega (arith, same)) c in
    let here : new ≡ s.0 = front_is id limit after.limit after.id after.size e.0 new w s.0 after.place uncut c s.1 s.2.2 in (
      w,
      s.0,
      subst (λ (z : List ℕ). Splits [] z id limit [] w s.0) (sym e.1) s.1,
      subst (λ (n : ℕ). IsOfAnotherId id n w s.0) same s.2,
      subst (λ (z : List ℕ). 4 ≤ length z → lacking ≡ 4 + chunk_len z - length z) here counts s.2.0,
    )

-- with it the packet would be too large
pub stops_large : SpansBegin → SpansStop → (id limit : ℕ) → id < 256 → (input w new : List ℕ) (after : SpanState) → Eaten id limit input w new after → after.limit ≡ limit
    → StopsBefore after new span.PacketTooLarge → (rest : List ℕ) × Delivers [] input id limit [] TooLarge w rest
stops_large begin stop id limit small input w new after e same stops =
    let s = stops id limit e.0 [] w (omega (arith, same)) (came_to begin id limit small input w new after e) in
    let d = stop span.PacketTooLarge (e.0 ++ new) id limit [] w s.0 s.1 (subst (λ (n : ℕ). IsTooLarge n w s.0) same s.2) in
    (s.0, subst (λ (z : List ℕ). Delivers [] z id limit [] TooLarge w s.0) (sym e.1) d)

pub none_copied : (copied : Option SpanDecoder) → IsNone copied → copied ≡ None
none_copied None is = refl
none_copied (Some decoder) is = absurd cc

-- no part of a header came
uncut_at : (A B C : Type 0) (copied : Option SpanDecoder) (codec : PacketCodec) → MatchOption copied A (λ decoder. (header_came (span_state decoder).place ≡ []) × B × C)
    → header_came (copied_to copied codec).place ≡ []
uncut_at A B C None codec is = refl
uncut_at A B C (Some decoder) codec is = is.0

pub uncut : {R : Type 0} (codec : PacketCodec) (reading : Reading R) → CanCopy codec reading → header_came (copied_to reading.copied codec).place ≡ []
uncut codec reading can =
    uncut_at (IsTrue reading.is_lost ⊎ (Stands (reading_state codec reading) × (reading.held ≡ []) × IsNone reading.lent)) (reading.held ≡ []) (IsNone reading.lent) reading.copied codec can

pub copied_limit : (copied : Option SpanDecoder) (codec : PacketCodec) (limit : ℕ) → codec.max_allowed_packet ≡ limit → (copied_to copied codec).limit ≡ limit
copied_limit None codec limit is = is
copied_limit (Some decoder) codec limit is = is

-- A packet that is passed on with other ids.
use Rattle.std.proofs.Common.{◌≡◌, ℕ, ◌+◌, ◌%◌, ◌<◌, ◌≤◌, List, [], ◌∷◌, ◌++◌, length, take, drop, slice_index, sym, ap, ◌∙◌, subst, arith, append_assoc, append-nil, Option, IfErr, Result, Some, None, Ok, Err, Bool, false, IsTrue, IsFalse}
use Rattle.std.proofs.lemmas.List.{length-take-le}
use Rattle.std.proofs.KnownBytes.{Appends-nil, Appends-trans}
use Rattle.std.specs.Io.KnownBytes.{Appends, IsAtEnd}
use Rattle.wire_codec.specs.Framing.{header, framing}
use Rattle.wire_codec.specs.Delivery.{chunk_len, IsSpelled}
use Rattle.wire_span.specs.declared.span.SpanError.{SpanError}
use Rattle.wire_span.specs.declared.span.SpanError.TheVariants as span
use Rattle.wire_span.specs.Spans.{SpanState, CameTo, SpansOn, IsBetween, StopsBefore}
use Rattle.wire_span.specs.Renumbering.{sent}
use Rattle.wire_span.specs.Passing.{most_bytes}
use Rattle.wire_span.proofs.SpanLemmas.{nothing_came, spans_begin_is}
use Rattle.wire_span.proofs.MixLemmas.{spans_end_is}
use Rattle.wire_span.proofs.PassingLemmas.{merged_spans}
use Rattle.wire_packet_io.specs.declared.error.PacketIoError.{PacketIoError}
use Rattle.wire_packet_io.specs.declared.error.PacketIoError.TheVariants.{Io, UnexpectedEnd, WriteZero, PacketTooLarge, PacketsOutOfSync, OutOfMemory}
use Rattle.wire_packet_io.specs.PacketIo.{ReadFails, WriteFails}
use Rattle.wire_packet_io.specs.Copying.{has_ended, CopiesNext, CopyStops, EndsRead, IsSpanRefusal, WaitsHere}
use Rattle.wire_packet_io.specs.Relaying.{PassesOn, Relays, RelayedFront, RelayedPacket, RelayStops, StepsRelay, StopsRelay}
use Rattle.wire_packet_io.proofs.CopyLemmas.{copied_none, copied_more, copied_packet_is, front_eaten, header_eaten, nearer, reads_go, so_far}

-- no bytes, in a span of none
pub nothing_on : (a : SpanState) → SpansOn a [] (([], false) ∷ []) a
nothing_on a s L S ps o le h = subst (λ (w : List ℕ). CameTo s L (S ++ []) (ps ++ []) w a) (sym (append-nil o)) (nothing_came a s L S ps o le h)

pub relays_none : (a : SpanState) (id : ℕ) (P pending : List ℕ) → Relays false a id P pending a id P pending
relays_none a id P pending = ([], [], copied_none a P, nothing_on (sent a id), sym (append-nil pending))

-- and more
pub relays_more : (ends : Bool) (a m z : SpanState) (id mid next : ℕ) (P Q T pending some all : List ℕ) → m.limit ≡ a.limit
    → Relays false a id P pending m mid Q some → Relays ends m mid Q some z next T all → Relays ends a id P pending z next T all
relays_more ends a m z id mid next P Q T pending some all same f g = (
  f.0 ++ g.0,
  f.1 ++ g.1,
  copied_more a m z P Q T f.0 g.0 ends same f.2 g.2,
  merged_spans (sent a id) (sent m mid) (sent z next) f.1 g.1 f.0 g.0 ends same f.3 g.3,
  g.4 ∙ ap (λ (w : List ℕ). w ++ g.1) f.4 ∙ append_assoc pending f.1 g.1,
)

-- a step at which nothing went
pub relays_kept : (a m z : SpanState) (id mid next : ℕ) (P Q T pending some all : List ℕ) → Relays false a id P pending m mid Q some
    → z ≡ m → next ≡ mid → T ≡ Q → all ≡ some → Relays false a id P pending z next T all
relays_kept a m z id mid next P Q T pending some all f state number unread is = rw (state, number, unread, is) f

-- bytes of the open chunk
pub relay_bytes_step : (before after : SpanState) (id : ℕ) (src rest pending left : List ℕ) (n : ℕ) (ended : Bool)
    → n ≤ length src → 0 < n → rest ≡ drop n src → after.id ≡ before.id
    → ((i : ℕ) (bytes : List ℕ) → length bytes ≡ n → SpansOn (sent before i) bytes ((bytes, ended) ∷ []) (sent after i))
    → left ≡ pending ++ take n src → (IsTrue ended → IsBetween after) → (IsFalse ended → n + most_bytes after ≤ most_bytes before)
    → StepsRelay (Ok (Some ended)) before id src pending after id rest left
relay_bytes_step before after id src rest pending left n ended within some rest_is same came put between fewer =
    let x : List ℕ = take n src in
    let long : length x ≡ n = length-take-le n src within in
    let on = subst (λ (i : ℕ). SpansOn before x ((x, ended) ∷ []) (sent after i)) (sym same) (came before.id x long) in (
      (x, x, front_eaten before after src rest x n ended rest_is on, came id x long, put),
      between,
      λ goes. nearer before after src rest n within some rest_is (fewer goes),
    )

-- a header that was accepted
pub relay_header_step : (before after : SpanState) (id next : ℕ) (src rest pending left bytes : List ℕ) (len number : ℕ) (ended : Bool)
    → 4 ≤ length src → len ≡ chunk_len src → number ≡ slice_index src 3 → IsSpelled src → rest ≡ drop 4 src → before.id < 256 → id < 256
    → (number ≡ before.id) × (after.id ≡ (before.id + 1) % 256)
    → ((i : ℕ) → i < 256 → SpansOn (sent before i) (header len i) (([], ended) ∷ []) (sent after ((i + 1) % 256)))
    → bytes ≡ header len id → left ≡ pending ++ bytes → next ≡ (id + 1) % 256
    → (IsTrue ended → IsBetween after) → (IsFalse ended → 4 + most_bytes after ≤ most_bytes before)
    → StepsRelay (Ok (Some ended)) before id src pending after next rest left
relay_header_step before after id next src rest pending left bytes len number ended long len_is id_is spelled rest_is small other ids came bytes_are put next_is between fewer = (
  (
    [],
    header len id,
    header_eaten before after src rest len number ended long len_is id_is spelled rest_is small ids came,
    subst (λ (i : ℕ). SpansOn (sent before id) (header len id) (([], ended) ∷ []) (sent after i)) (sym next_is) (came id other),
    put ∙ ap (λ (z : List ℕ). pending ++ z) bytes_are,
  ),
  between,
  λ goes. nearer before after src rest 4 long (omega arith) rest_is (fewer goes),
)

-- and one that was refused
pub relay_stop : (error : SpanError) (named : PacketIoError) (before : SpanState) (src : List ℕ) → IsSpanRefusal error named
    → StopsBefore before src error → StopsRelay named before src
relay_stop span.PacketTooLarge named before src is stops = subst (λ (e : PacketIoError). StopsRelay e before src) (sym is) stops
relay_stop span.PacketsOutOfSync named before src is stops = subst (λ (e : PacketIoError). StopsRelay e before src) (sym is) stops

-- what goes out
pub gone_none : (before : SpanState) (id : ℕ) (pending : List ℕ) (held : Option (List ℕ)) → PassesOn before id [] false before id pending pending held held
gone_none before id pending held =
    record { out = []; written = []; spans = nothing_on (sent before id); all = append-nil pending; appended = Appends-nil held }

-- and more, after what is pending
pub gone_more : (ended : Bool) (before mid after : SpanState) (id number next : ℕ) (b c out old some new : List ℕ) (held more last : Option (List ℕ))
    → PassesOn before id b false mid number old some held more → mid.limit ≡ before.limit
    → SpansOn (sent mid number) out ((c, ended) ∷ []) (sent after next) → new ≡ some ++ out → last ≡ more
    → PassesOn before id (b ++ c) ended after next old new held last
gone_more ended before mid after id number next b c out old some new held more last p limit on is same = record {
  out = p.out ++ out;
  written = p.written;
  spans = merged_spans (sent before id) (sent mid number) (sent after next) p.out out b c ended limit p.spans on;
  all = sym (append_assoc old p.out out) ∙ ap (λ (z : List ℕ). z ++ out) p.all ∙ append_assoc p.written some out ∙ ap (λ (z : List ℕ). p.written ++ z) (sym is);
  appended = subst (λ (z : Option (List ℕ)). Appends held z p.written) (sym same) p.appended;
}

-- in a call, after its reads so far
pub relays_go : {asked : ℕ → ℕ} (result : Result Bool PacketIoError) (before mid after : SpanState) (id number next : ℕ) (old src new : List ℕ) (unread left last : Option (List ℕ)) (old_reads new_reads all : ℕ) (pending some now : List ℕ) (held more then : Option (List ℕ))
    → mid.limit ≡ before.limit → last ≡ left → all ≡ new_reads → then ≡ more
    → (s : (b : List ℕ) × CopiesNext asked before old unread left old_reads new_reads so_far b mid src × PassesOn before id b false mid number pending some held more)
    → Relays (has_ended result) mid number src some after next new now → EndsRead result s.1.reads
    → (b : List ℕ) × CopiesNext asked before old unread last old_reads all result b after new × PassesOn before id b (has_ended result) after next pending now held then
relays_go result before mid after id number next old src new unread left last old_reads new_reads all pending some now held more then limit same count kept s f ended = (
  s.0 ++ f.0,
  reads_go result before mid after old src new unread left last old_reads new_reads all s.0 f.0 s.1 limit same count f.2 ended,
  gone_more (has_ended result) before mid after id number next s.0 f.0 f.1 pending some now held more then s.2 limit f.3 f.4 kept,
)

-- and a front of it is written
pub gone_out : (before after : SpanState) (id next : ℕ) (b sent_off old some new : List ℕ) (held more last : Option (List ℕ))
    → PassesOn before id b false after next old some held more → some ≡ sent_off ++ new → Appends more last sent_off
    → PassesOn before id b false after next old new held last
gone_out before after id next b sent_off old some new held more last p is took =
    let all = p.all ∙ ap (λ (z : List ℕ). p.written ++ z) is ∙ sym (append_assoc p.written sent_off new) in
    let appended = Appends-trans held more last p.written sent_off p.appended took in
    record { out = p.out; written = p.written ++ sent_off; spans = p.spans; all = all; appended = appended }

-- a step's refusal is the call's
pub relay_stops_by : (error : PacketIoError) (state : SpanState) (unread : List ℕ) (left : Option (List ℕ)) (pending : List ℕ)
    → StopsRelay error state unread → RelayStops (Err error) state unread left pending
relay_stops_by PacketTooLarge state unread left pending h = h
relay_stops_by PacketsOutOfSync state unread left pending h = h
relay_stops_by OutOfMemory state unread left pending h = tt
relay_stops_by other state unread left pending h = absurd h

-- it saw no end
pub relay_unended : (error : PacketIoError) (state : SpanState) (unread : List ℕ) (reads : List (List ℕ)) → StopsRelay error state unread → EndsRead (Err error) reads
relay_unended UnexpectedEnd state unread reads h = absurd h
relay_unended other state unread reads h = tt

pub write_unended : (error : PacketIoError) (pending : List ℕ) (reads : List (List ℕ)) → WriteFails error pending → EndsRead (Err error) reads
write_unended UnexpectedEnd pending reads h = absurd h
write_unended other pending reads h = tt

-- a write failed
pub relay_write_stops : (error : PacketIoError) (state : SpanState) (unread : List ℕ) (left : Option (List ℕ)) (pending : List ℕ)
    → WaitsHere state unread → WriteFails error pending → RelayStops (Err error) state unread left pending
relay_write_stops (Io error) state unread left pending waiting failed = waiting
relay_write_stops WriteZero state unread left pending waiting failed = (waiting, failed)
relay_write_stops other state unread left pending waiting failed = absurd failed

-- a read failed
pub relay_read_stops : (error : PacketIoError) (state : SpanState) (src new : List ℕ) (old_reads new_reads : ℕ) (left : Option (List ℕ)) (pending : List ℕ)
    → WaitsHere state src → new ≡ src → ReadFails error old_reads new_reads → RelayStops (Err error) state new left pending
relay_read_stops (Io error) state src new old_reads new_reads left pending waiting is failed = subst (λ (z : List ℕ). WaitsHere state z) (sym is) waiting
relay_read_stops OutOfMemory state src new old_reads new_reads left pending waiting is failed = tt
relay_read_stops other state src new old_reads new_reads left pending waiting is failed = absurd failed

-- the input ended
pub relay_at_end : (result : Result Bool PacketIoError) (state : SpanState) (unread : List ℕ) (left : Option (List ℕ)) (pending : List ℕ) → CopyStops result state unread None → has_ended result ≡ false
    → (IfErr result (λ error. error ≡ UnexpectedEnd)) → IsAtEnd left → pending ≡ [] → RelayStops result state unread left pending
relay_at_end (Ok false) state unread left pending h going e end none = (h.0, h.1, end, none)
relay_at_end (Err UnexpectedEnd) state unread left pending h going e end none = (h.0, h.1, end, none)
relay_at_end other state unread left pending h going e end none = absurd cc

-- laws
pub relayed_front_is : RelayedFront
relayed_front_is asked before after id next old new unread left old_reads new_reads result bytes pending rest held more small other between going call gone =
    let L : ℕ = before.limit in
    let came = subst (λ (e : Bool). SpansOn before call.eats.0 ((bytes, e) ∷ []) after) going call.eats.2 in
    let went = subst (λ (e : Bool). SpansOn (sent before id) gone.out ((bytes, e) ∷ []) (sent after next)) going gone.spans in (
      came before.id L [] [] [] (omega arith) (spans_begin_is before L small between),
      went id L [] [] [] (omega arith) (spans_begin_is (sent before id) L other between),
    )

pub relayed_packet_is : RelayedPacket
relayed_packet_is asked before after id next old new unread left old_reads new_reads bytes pending rest held more small other between ends call gone =
    let L : ℕ = before.limit in
    let came = copied_packet_is asked before after old new unread left old_reads new_reads bytes small between ends call in
    let went = gone.spans id L [] [] [] (omega arith) (spans_begin_is (sent before id) L other between) in
    let is = spans_end_is id L gone.out (bytes ∷ []) [] (sent after next) other ends went in
    (came.0, is.0 ∙ append-nil (framing id bytes), came.1, came.2, is.2)

-- A packet whose bytes are written as they come.
use Rattle.std.proofs.Common.{◌≡◌, ℕ, ◌+◌, ◌-◌, ◌%◌, ◌^◌, ◌<◌, ◌≤◌, ◌⊎◌, List, [], ◌∷◌, ◌++◌, length, get_or, take, drop, min, slice_index, refl, sym, ap, ap₂, ◌∙◌, subst, arith, append_assoc, append-nil, length-append, length-drop, take-take, take-append-drop, inl, inr, take_at, Option, Some, None, IfSome, IsNone, MatchOption, IfErr, Result, Ok, Err, Bool, false, IsTrue, IsFalse}
use Rattle.std.proofs.lemmas.List.{get_or_append_left, get_or-append_right, length-take-le, take-append-le}
use Rattle.std.proofs.lemmas.List.Elements.{All-head}
use Rattle.std.proofs.lemmas.Bool.{cases_lt}
use Rattle.std.proofs.KnownBytes.{Consumes-nil, Consumes-trans, Consumes-kept, Appends-nil, Appends-trans, Appends-kept}
use Rattle.std.specs.Io.KnownBytes.{Consumes, Appends, Keeps, IsAtEnd}
use Rattle.wire_codec.specs.Framing.{header, framing}
use Rattle.wire_codec.specs.Delivery.{chunk_len, IsSpelled}
use Rattle.wire_span.specs.declared.span.SpanError.{SpanError}
use Rattle.wire_span.specs.declared.span.SpanError.TheVariants as span
use Rattle.wire_span.specs.Spans.{SpanPlace, AtHeader, Within, SpanState, CameTo, SpansOn, EatsSpans, IsBetween, StopsBefore, header_came, span_state}
use Rattle.wire_codec.specs.Codec.{codec_state, header_of, Stands}
use Rattle.wire_codec.specs.declared.codec.packet.PacketCodec.{PacketCodec}
use Rattle.wire_codec.proofs.CodecLemmas.{stands_without}
use Rattle.wire_codec.proofs.RunLemmas.{nothing_whole}
use Rattle.wire_span.specs.declared.span.SpanDecoder.{SpanDecoder}
use Rattle.wire_span.specs.Renumbering.{sent}
use Rattle.wire_span.specs.Passing.{left_in, most_bytes, most_here}
use Rattle.wire_span.proofs.SpanLemmas.{nothing_came, spans_begin_is}
use Rattle.wire_span.proofs.MixLemmas.{spans_end_is}
use Rattle.wire_span.proofs.PassingLemmas.{merged_spans}
use Rattle.wire_packet_io.specs.declared.error.PacketIoError.{PacketIoError}
use Rattle.wire_packet_io.specs.declared.error.PacketIoError.TheVariants.{Io, UnexpectedEnd, OutOfMemory}
use Rattle.wire_packet_io.specs.PacketIo.{joined_reads, EndsEmpty, ReadFails}
use Rattle.wire_packet_io.specs.Copying.{copy_read_size, has_ended, Copies, CopiedPacket, CopiesNext, CopyStops, EndsRead, IsSpanRefusal, StepsCopy, StopsHere, ReadsBehind, WaitsHere}
use Rattle.wire_packet_io.proofs.PacketIoLemmas.{length-zero, reads_more, counted_more, last_empty, length-push}

-- nothing came, in a span of no bytes
pub copied_none : (a : SpanState) (P : List ℕ) → EatsSpans a P (([], false) ∷ []) P a
copied_none a P = (
  [],
  refl,
  λ s L S ps o le h. subst (λ (w : List ℕ). CameTo s L (S ++ []) (ps ++ []) w a) (sym (append-nil o)) (nothing_came a s L S ps o le h),
)

-- and more
pub copied_more : (a m z : SpanState) (P Q T b c : List ℕ) (ends : Bool) → m.limit ≡ a.limit
    → EatsSpans a P ((b, false) ∷ []) Q m → EatsSpans m Q ((c, ends) ∷ []) T z → EatsSpans a P ((b ++ c, ends) ∷ []) T z
copied_more a m z P Q T b c ends same f g = (
  f.0 ++ g.0,
  f.1 ∙ ap (λ (w : List ℕ). f.0 ++ w) g.1 ∙ sym (append_assoc f.0 g.0 T),
  merged_spans a m z f.0 g.0 b c ends same f.2 g.2,
)

-- with more to come after it
pub copied_ahead : (a z : SpanState) (P Q T b : List ℕ) (ends : Bool) → EatsSpans a P ((b, ends) ∷ []) Q z
    → EatsSpans a (P ++ T) ((b, ends) ∷ []) (Q ++ T) z
copied_ahead a z P Q T b ends f = (f.0, ap (λ (w : List ℕ). w ++ T) f.1 ∙ append_assoc f.0 Q T, f.2)

-- the front of what is unread was eaten
pub front_eaten : (before after : SpanState) (src rest bytes : List ℕ) (n : ℕ) (ended : Bool) → rest ≡ drop n src
    → SpansOn before (take n src) ((bytes, ended) ∷ []) after → EatsSpans before src ((bytes, ended) ∷ []) rest after
front_eaten before after src rest bytes n ended is on =
    (take n src, sym (take-append-drop n src) ∙ ap (λ (z : List ℕ). take n src ++ z) (sym is), on)

-- and the call comes nearer to its end
pub nearer : (before after : SpanState) (src rest : List ℕ) (n : ℕ) → n ≤ length src → 0 < n → rest ≡ drop n src → n + most_bytes after ≤ most_bytes before
    → (most_bytes after + length src ≤ most_bytes before + length rest) × (length rest < length src)
nearer before after src rest n within some is fewer =
    let left : length rest ≡ length src - n = ap (λ (z : List ℕ). length z) is ∙ length-drop n src in
    (omega (arith, fewer, left, within), omega (arith, left, within, some))

-- nothing is fewer than before
pub fewer_none : (n : ℕ) → n ≤ n
fewer_none n = omega arith

-- one step more
pub fewer_more : (a b c x y z : ℕ) → b + x ≤ a + y → c + y ≤ b + z → c + x ≤ a + z
fewer_more a b c x y z h k = omega arith

-- a header is to come, or more than its bytes
here_four : (place : SpanPlace) → header_came place ≡ [] → 4 ≤ most_here place
here_four (AtHeader came) uncut = let none = ap (λ (z : List ℕ). length z) uncut in omega arith
here_four (Within left is_full) uncut = omega arith

-- a read that gave bytes, where nothing more could go, brings the end nearer
pub read_nearer : (before after : SpanState) (old new more : List ℕ) (n : ℕ) (from last : Option (List ℕ)) → most_bytes after + length old ≤ most_bytes before + length new
    → header_came after.place ≡ [] → WaitsHere after new → (came : List ℕ) × (length came ≡ n) × (more ≡ new ++ came) × Consumes from last came → 0 < n
    → most_bytes after - length more < most_bytes before - length old
read_nearer before after old new more n from last fewer uncut waits (came, size, is, took) some =
    let all : length more ≡ length new + length came = ap (λ (z : List ℕ). length z) is ∙ length-append new came in
    let four = here_four after.place uncut in
    let few = waits.0 in
    omega arith

-- and one that gave none leaves it there
pub waits_still : (state : SpanState) (old new : List ℕ) (n : ℕ) (from last : Option (List ℕ)) → WaitsHere state old
    → (came : List ℕ) × (length came ≡ n) × (new ≡ old ++ came) × Consumes from last came → n ≡ 0 → WaitsHere state new
waits_still state old new n from last waits (came, size, is, took) none =
    subst (λ (z : List ℕ). WaitsHere state z) (sym (is ∙ ap (λ (z : List ℕ). old ++ z) (length-zero came (size ∙ none)) ∙ append-nil old)) waits

-- bytes of the open chunk that a writer took
pub bytes_step : (before after : SpanState) (src rest buf : List ℕ) (n count : ℕ) (ended : Bool) (held more : Option (List ℕ))
    → buf ≡ take n src → n ≤ length src → count ≤ length buf → 0 < count → rest ≡ drop count src → after.id ≡ before.id
    → ((id : ℕ) (bytes : List ℕ) → length bytes ≡ count → SpansOn (sent before id) bytes ((bytes, ended) ∷ []) (sent after id))
    → Appends held more (take count buf) → (IsTrue ended → IsBetween after) → (IsFalse ended → count + most_bytes after ≤ most_bytes before)
    → StepsCopy (Ok (Some ended)) before src held after rest more
bytes_step before after src rest buf n count ended held more is within fits some rest_is same came took between fewer =
    let x : List ℕ = take count src in
    let size : length buf ≡ n = ap (λ (z : List ℕ). length z) is ∙ length-take-le n src within in
    let less : count ≤ length src = omega (arith, fits, size, within) in
    let all : take count buf ≡ x = ap (λ (z : List ℕ). take count z) is ∙ take-take count n src (omega (arith, fits, size)) in
    let on = subst (λ (i : ℕ). SpansOn before x ((x, ended) ∷ []) (sent after i)) (sym same) (came before.id x (length-take-le count src less)) in (
      (x, front_eaten before after src rest x count ended rest_is on, subst (λ (z : List ℕ). Appends held more z) all took),
      between,
      λ goes. nearer before after src rest count less some rest_is (fewer goes),
    )

pub header_is : (src : List ℕ) (len id : ℕ) → 4 ≤ length src → len ≡ chunk_len src → id ≡ slice_index src 3 → IsSpelled src → take 4 src ≡ header len id
header_is src len id long len_is id_is spelled = spelled long ∙ ap₂ (λ (n i : ℕ). header n i) (sym len_is) (sym id_is)

-- a header that was accepted
pub header_eaten : (before after : SpanState) (src rest : List ℕ) (len id : ℕ) (ended : Bool)
    → 4 ≤ length src → len ≡ chunk_len src → id ≡ slice_index src 3 → IsSpelled src → rest ≡ drop 4 src → before.id < 256
    → (id ≡ before.id) × (after.id ≡ (before.id + 1) % 256)
    → ((i : ℕ) → i < 256 → SpansOn (sent before i) (header len i) (([], ended) ∷ []) (sent after ((i + 1) % 256)))
    → EatsSpans before src (([], ended) ∷ []) rest after
header_eaten before after src rest len id ended long len_is id_is spelled rest_is small ids came =
    let front : header len before.id ≡ take 4 src = ap (λ (i : ℕ). header len i) (sym ids.0) ∙ sym (header_is src len id long len_is id_is spelled) in
    front_eaten before after src rest [] 4 ended rest_is (subst (λ (z : List ℕ). SpansOn before z (([], ended) ∷ []) after) front
    (subst (λ (i : ℕ). SpansOn before (header len before.id) (([], ended) ∷ []) (sent after i)) (sym ids.1) (came before.id small)))

pub header_step : (before after : SpanState) (src rest : List ℕ) (len id : ℕ) (ended : Bool) (held : Option (List ℕ))
    → 4 ≤ length src → len ≡ chunk_len src → id ≡ slice_index src 3 → IsSpelled src → rest ≡ drop 4 src → before.id < 256
    → (id ≡ before.id) × (after.id ≡ (before.id + 1) % 256)
    → ((i : ℕ) → i < 256 → SpansOn (sent before i) (header len i) (([], ended) ∷ []) (sent after ((i + 1) % 256)))
    → (IsTrue ended → IsBetween after) → (IsFalse ended → 4 + most_bytes after ≤ most_bytes before)
    → StepsCopy (Ok (Some ended)) before src held after rest held
header_step before after src rest len id ended held long len_is id_is spelled rest_is small ids came between fewer = (
  ([], header_eaten before after src rest len id ended long len_is id_is spelled rest_is small ids came, Appends-nil held),
  between,
  λ goes. nearer before after src rest 4 long (omega arith) rest_is (fewer goes),
)

-- and one that was refused
pub header_stop : (error : SpanError) (before : SpanState) (src : List ℕ) (len id : ℕ)
    → 4 ≤ length src → len ≡ chunk_len src → id ≡ slice_index src 3 → IsSpelled src
    → ((more : List ℕ) → StopsBefore before (header len id ++ more) error) → StopsBefore before src error
header_stop error before src len id long len_is id_is spelled stops =
    subst (λ (z : List ℕ). StopsBefore before z error)
    (ap (λ (z : List ℕ). z ++ drop 4 src) (sym (header_is src len id long len_is id_is spelled)) ∙ take-append-drop 4 src) (stops (drop 4 src))

pub stops_named : (error : SpanError) (named : PacketIoError) (before : SpanState) (src : List ℕ) → IsSpanRefusal error named
    → StopsBefore before src error → StopsHere named before src
stops_named span.PacketTooLarge named before src is stops = subst (λ (e : PacketIoError). StopsHere e before src) (sym is) stops
stops_named span.PacketsOutOfSync named before src is stops = subst (λ (e : PacketIoError). StopsHere e before src) (sym is) stops

-- a step's refusal is the call's
pub stops_by : (error : PacketIoError) (state : SpanState) (unread : List ℕ) (left : Option (List ℕ)) → StopsHere error state unread → CopyStops (Err error) state unread left
stops_by UnexpectedEnd state unread left h = absurd h
stops_by OutOfMemory state unread left h = absurd h
stops_by other state unread left h = h

-- a call so far, as if it stopped there for want of memory
abbrev pub so_far : Result Bool PacketIoError
so_far = Err OutOfMemory

-- the reads of a call so far, and what came
pub reads_start : {asked : ℕ → ℕ} (before : SpanState) (old : List ℕ) (unread : Option (List ℕ)) (reads : ℕ)
    → CopiesNext asked before old unread unread reads reads so_far [] before old
reads_start before old unread reads = record {
  reads = [];
  consumed = Consumes-nil unread;
  eats = subst (λ (z : List ℕ). EatsSpans before z (([], false) ∷ []) old before) (sym (append-nil old)) (copied_none before old);
  ended = tt;
  waits = λ j less. absurd (omega arith);
  counted = (λ none. refl, λ some. absurd (omega arith));
}

-- what holds of each read and the reads before it, and of one more
pub each_read : (P : List (List ℕ) → List ℕ → Type 0) (reads : List (List ℕ)) (piece : List ℕ)
    → ((j : ℕ) → j < length reads → P (take j reads) (get_or reads j [])) → P reads piece
    → (j : ℕ) → j < length (reads ++ piece ∷ []) → P (take j (reads ++ piece ∷ [])) (get_or (reads ++ piece ∷ []) j [])
each_read P reads piece old new j less =
    let e = length-append reads (piece ∷ []) in
    elim (cases_lt j (length reads)) [
      | inl inside ↦
          let same : get_or (reads ++ piece ∷ []) j [] ≡ get_or reads j [] = get_or_append_left reads (piece ∷ []) [] j inside in
          rw (same, take-append-le j reads (piece ∷ []) (omega arith)) (old j inside)
      | inr last ↦
          let is : length reads ≡ j = omega arith in
          let first : j - length reads ≡ 0 = omega arith in
          let same : get_or (reads ++ piece ∷ []) j [] ≡ piece =
          get_or-append_right reads (piece ∷ []) (length reads) j [] refl (omega arith) ∙ ap (λ (k : ℕ). get_or (piece ∷ []) k []) first in
          rw (same, take_at reads (piece ∷ []) j is) new
    ]

-- and more of what is unread
pub reads_go : {asked : ℕ → ℕ} (result : Result Bool PacketIoError) (before mid after : SpanState) (old src new : List ℕ) (unread left last : Option (List ℕ)) (old_reads new_reads all : ℕ) (b c : List ℕ)
    → (s : CopiesNext asked before old unread left old_reads new_reads so_far b mid src) → mid.limit ≡ before.limit → last ≡ left → all ≡ new_reads
    → EatsSpans mid src ((c, has_ended result) ∷ []) new after → EndsRead result s.reads → CopiesNext asked before old unread last old_reads all result (b ++ c) after new
reads_go result before mid after old src new unread left last old_reads new_reads all b c s limit same count eats ended =
    let more = copied_more before mid after (old ++ joined_reads s.reads) src new b c (has_ended result) limit s.eats eats in
    rw (same, count) (record { reads = s.reads; consumed = s.consumed; eats = more; ended = ended; waits = s.waits; counted = s.counted })

-- and one read more
abbrev pub reads_read : {asked : ℕ → ℕ} (before after : SpanState) (old src new : List ℕ) (unread left last : Option (List ℕ)) (old_reads new_reads all : ℕ) (b : List ℕ) (n : ℕ)
    → CopiesNext asked before old unread left old_reads new_reads so_far b after src → WaitsHere after src
    → (came : List ℕ) × (length came ≡ n) × (new ≡ src ++ came) × Consumes left last came → n ≤ asked (left_in after.place) → all ≡ min (new_reads + 1) (2 ^ 64 - 1)
    → CopiesNext asked before old unread last old_reads all so_far b after new
reads_read {asked = asked} before after old src new unread left last old_reads new_reads all b n s waiting (piece, size, is, took) most count =
    let joined = reads_more s.reads piece in
    let all_in : (old ++ joined_reads s.reads) ++ piece ≡ old ++ joined_reads (s.reads ++ piece ∷ []) =
    append_assoc old (joined_reads s.reads) piece ∙ ap (λ (z : List ℕ). old ++ z) (sym joined) in
    record {
      reads = s.reads ++ piece ∷ [];
      consumed = subst (λ (z : List ℕ). Consumes unread last z) (sym joined) (Consumes-trans unread left last (joined_reads s.reads) piece s.consumed took);
      eats = subst (λ (z : List ℕ). EatsSpans before z ((b, false) ∷ []) new after) all_in
          (subst (λ (z : List ℕ). EatsSpans before ((old ++ joined_reads s.reads) ++ piece) ((b, false) ∷ []) z after) (sym is)
          (copied_ahead before after (old ++ joined_reads s.reads) src piece b false s.eats));
      ended = tt;
      waits = each_read (λ (z : List (List ℕ)) (read : List ℕ). ReadsBehind asked before (old ++ joined_reads z) read) s.reads piece s.waits
          (b, src, after, s.eats, waiting, subst (λ (k : ℕ). k ≤ asked (left_in after.place)) (sym size) most);
      counted = counted_more old_reads new_reads all (length s.reads) _ s.counted count (length-push s.reads piece);
    }

-- a call of these reads that ends otherwise, but not with the packet
pub reads_end : {asked : ℕ → ℕ} (result : Result Bool PacketIoError) (before after : SpanState) (old new : List ℕ) (unread left : Option (List ℕ)) (old_reads new_reads : ℕ) (b : List ℕ)
    → (s : CopiesNext asked before old unread left old_reads new_reads so_far b after new) → has_ended result ≡ false → EndsRead result s.reads
    → CopiesNext asked before old unread left old_reads new_reads result b after new
reads_end result before after old new unread left old_reads new_reads b s going ended =
    let eats = subst (λ (e : Bool). EatsSpans before (old ++ joined_reads s.reads) ((b, e) ∷ []) new after) (sym going) s.eats in
    record { reads = s.reads; consumed = s.consumed; eats = eats; ended = ended; waits = s.waits; counted = s.counted }

ends_read : (result : Result Bool PacketIoError) (reads : List (List ℕ)) → EndsEmpty reads → EndsRead result reads
ends_read (Ok false) reads empty = empty
ends_read (Err UnexpectedEnd) reads empty = empty
ends_read other reads empty = tt

-- the last read gave nothing
pub reads_ended : {asked : ℕ → ℕ} (result : Result Bool PacketIoError) (before after : SpanState) (old src new : List ℕ) (unread left last : Option (List ℕ)) (old_reads new_reads all : ℕ) (b : List ℕ) (n : ℕ)
    → CopiesNext asked before old unread left old_reads new_reads so_far b after src → WaitsHere after src
    → (came : List ℕ) × (length came ≡ n) × (new ≡ src ++ came) × Consumes left last came → n ≤ asked (left_in after.place) → all ≡ min (new_reads + 1) (2 ^ 64 - 1)
    → n ≡ 0 → has_ended result ≡ false → CopiesNext asked before old unread last old_reads all result b after new
reads_ended result before after old src new unread left last old_reads new_reads all b n s waiting came most count none going =
    reads_end result before after old new unread last old_reads all b
    (reads_read before after old src new unread left last old_reads new_reads all b n s waiting came most count) going
    (ends_read result (s.reads ++ came.0 ∷ []) (last_empty s.reads came.0 (came.1 ∙ none)))

-- a step that stopped there saw no end
pub stops_unended : (error : PacketIoError) (state : SpanState) (unread : List ℕ) (reads : List (List ℕ)) → StopsHere error state unread → EndsRead (Err error) reads
stops_unended UnexpectedEnd state unread reads h = absurd h
stops_unended other state unread reads h = tt

-- a read failed, or memory for it was refused
pub reads_fail : {asked : ℕ → ℕ} (error : PacketIoError) (before after : SpanState) (old src new : List ℕ) (unread left last : Option (List ℕ)) (old_reads new_reads all : ℕ) (b : List ℕ)
    → CopiesNext asked before old unread left old_reads new_reads so_far b after src → WaitsHere after src → new ≡ src → Keeps left last → ReadFails error new_reads all
    → CopiesNext asked before old unread last old_reads all (Err error) b after new
reads_fail (Io error) before after old src new unread left last old_reads new_reads all b s waiting is kept count =
    reads_end (Err (Io error)) before after old new unread last old_reads all b
    (reads_read before after old src new unread left last old_reads new_reads all b 0 s waiting
    ([], refl, is ∙ sym (append-nil src), Consumes-kept left left last [] (Consumes-nil left) kept) (omega arith) count) refl tt
reads_fail OutOfMemory before after old src new unread left last old_reads new_reads all b s waiting is kept count =
    let consumed = Consumes-kept unread left last (joined_reads s.reads) s.consumed kept in
    rw (is, count) (record { reads = s.reads; consumed = consumed; eats = s.eats; ended = tt; waits = s.waits; counted = s.counted })
reads_fail other before after old src new unread left last old_reads new_reads all b s waiting is kept count = absurd count

-- the input ended
pub at_end : (result : Result Bool PacketIoError) (state : SpanState) (unread : List ℕ) (left : Option (List ℕ)) → CopyStops result state unread None → has_ended result ≡ false
    → (IfErr result (λ error. error ≡ UnexpectedEnd)) → IsAtEnd left → CopyStops result state unread left
at_end (Ok false) state unread left h going e end = (h.0, h.1, end)
at_end (Err UnexpectedEnd) state unread left h going e end = (h.0, h.1, end)
at_end other state unread left h going e end = absurd cc

-- more was written
pub copies_more : (ends : Bool) (a m z : SpanState) (P Q T : List ℕ) (held some more : Option (List ℕ)) → m.limit ≡ a.limit
    → Copies false a P held m Q some → Copies ends m Q some z T more → Copies ends a P held z T more
copies_more ends a m z P Q T held some more same f g =
    (f.0 ++ g.0, copied_more a m z P Q T f.0 g.0 ends same f.1 g.1, Appends-trans held some more f.0 g.0 f.2 g.2)

-- in a call, after its reads so far
pub copies_go : {asked : ℕ → ℕ} (result : Result Bool PacketIoError) (before mid after : SpanState) (old src new : List ℕ) (unread left last : Option (List ℕ)) (old_reads new_reads all : ℕ) (held some more : Option (List ℕ))
    → mid.limit ≡ before.limit → last ≡ left → all ≡ new_reads
    → (s : (b : List ℕ) × Appends held some b × CopiesNext asked before old unread left old_reads new_reads so_far b mid src)
    → Copies (has_ended result) mid src some after new more → EndsRead result s.2.reads
    → (b : List ℕ) × Appends held more b × CopiesNext asked before old unread last old_reads all result b after new
copies_go result before mid after old src new unread left last old_reads new_reads all held some more limit same count s f ended = (
  s.0 ++ f.0,
  Appends-trans held some more s.0 f.0 s.1 f.2,
  reads_go result before mid after old src new unread left last old_reads new_reads all s.0 f.0 s.2 limit same count f.1 ended,
)

-- a step at which nothing went
pub copies_kept : (a m z : SpanState) (P Q T : List ℕ) (held some more : Option (List ℕ)) → Copies false a P held m Q some
    → z ≡ m → T ≡ Q → Keeps some more → Copies false a P held z T more
copies_kept a m z P Q T held some more f state unread kept =
    rw (state, unread) (f.0, f.1, Appends-kept held some more f.0 f.2 kept)

-- after a call another one may be made
pub can_after : (copied : Option SpanDecoder) (lost : Bool) (codec : PacketCodec) (unread held : List ℕ) (lent : Option (List ℕ)) (decoder : SpanDecoder)
    → IsNone lent → held ≡ [] → (IsNone copied → header_of codec ≡ None) → IfSome copied (λ d. d ≡ decoder) → header_came (span_state decoder).place ≡ []
    → MatchOption copied (IsTrue lost ⊎ (Stands (codec_state codec unread held) × (held ≡ []) × IsNone lent))
    (λ d. (header_came (span_state d).place ≡ []) × (held ≡ []) × IsNone lent)
can_after None lost codec unread held lent decoder none empty header kept uncut =
    inr (subst (λ (z : List ℕ). Stands (codec_state codec unread z)) (sym empty) (stands_without codec.max_allowed_packet unread [] (header_of codec) nothing_whole (header refl)), empty, none)
can_after (Some d) lost codec unread held lent decoder none empty header kept uncut =
    (subst (λ (z : SpanDecoder). header_came (span_state z).place ≡ []) (sym kept) uncut, empty, none)

-- what a call that began in front of a packet wrote is the packet
pub copied_packet_is : CopiedPacket
copied_packet_is asked before after old new unread left old_reads new_reads written small between ends call =
    let L : ℕ = before.limit in
    let came = call.eats.2 before.id L [] [] [] (omega arith) (spans_begin_is before L small between) in
    let is = spans_end_is before.id L call.eats.0 (written ∷ []) [] after small ends came in (
      call.eats.1 ∙ ap (λ (z : List ℕ). z ++ new) (is.0 ∙ append-nil (framing before.id written)),
      All-head (λ (z : List ℕ). length z ≤ L) written [] came.2,
      is.2,
    )

-- and what that left
pub read_stops : (error : PacketIoError) (state : SpanState) (src new : List ℕ) (old_reads new_reads : ℕ) (left : Option (List ℕ))
    → WaitsHere state src → new ≡ src → ReadFails error old_reads new_reads → CopyStops (Err error) state new left
read_stops (Io error) state src new old_reads new_reads left waiting is failed = tt
read_stops OutOfMemory state src new old_reads new_reads left waiting is failed = subst (λ (z : List ℕ). WaitsHere state z) (sym is) waiting
read_stops other state src new old_reads new_reads left waiting is failed = absurd failed

-- a call after bytes that went before its first read
pub reads_before : {asked : ℕ → ℕ} (result : Result Bool PacketIoError) (before mid after : SpanState) (old src new : List ℕ) (unread left : Option (List ℕ)) (old_reads new_reads : ℕ) (b c : List ℕ)
    → mid.limit ≡ before.limit → EatsSpans before old ((b, false) ∷ []) src mid → CopiesNext asked mid src unread left old_reads new_reads result c after new
    → CopiesNext asked before old unread left old_reads new_reads result (b ++ c) after new
reads_before result before mid after old src new unread left old_reads new_reads b c limit eats s =
    let J : List ℕ = joined_reads s.reads in
    record {
      reads = s.reads;
      consumed = s.consumed;
      eats = copied_more before mid after (old ++ J) (src ++ J) new b c (has_ended result) limit (copied_ahead before mid old src J b false eats) s.eats;
      ended = s.ended;
      waits = λ j less.
          let T : List ℕ = joined_reads (take j s.reads) in
          let w = s.waits j less in
          (b ++ w.0, w.1, w.2, copied_more before mid w.2 (old ++ T) (src ++ T) w.1 b w.0 false limit (copied_ahead before mid old src T b false eats) w.3, w.4, w.5);
      counted = s.counted;
    }

pub copies_before : {asked : ℕ → ℕ} (result : Result Bool PacketIoError) (before mid after : SpanState) (old src new : List ℕ) (unread again left : Option (List ℕ)) (old_reads reads_again new_reads : ℕ) (held some more : Option (List ℕ))
    → mid.limit ≡ before.limit → again ≡ unread → reads_again ≡ old_reads → Copies false before old held mid src some
    → (b : List ℕ) × Appends some more b × CopiesNext asked mid src again left reads_again new_reads result b after new
    → (b : List ℕ) × Appends held more b × CopiesNext asked before old unread left old_reads new_reads result b after new
copies_before result before mid after old src new unread again left old_reads reads_again new_reads held some more limit same count f s = (
  f.0 ++ s.0,
  Appends-trans held some more f.0 s.0 f.2 s.1,
  reads_before result before mid after old src new unread left old_reads new_reads f.0 s.0 limit f.1 (rw (same, count) at s.2),
)

-- what a read gave is no longer than is asked for at this place
pub copied_size : (n left place : ℕ) → left ≡ place → n ≤ copy_read_size left → n ≤ copy_read_size place
copied_size n left place is most = subst (λ (k : ℕ). n ≤ copy_read_size k) is most

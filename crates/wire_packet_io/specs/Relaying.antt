-- A packet that is passed on to a writer of packets, with other sequence ids.
use Rattle.std.specs.Prelude.{◌≡◌, ℕ, ◌+◌, ◌<◌, ◌≤◌, ◌⊎◌, List, [], ◌∷◌, ◌++◌, length, Option, Some, None, Result, Ok, Err, Bool, true, false, IsTrue, IsFalse, ⊤}
use Rattle.std.specs.Io.KnownBytes.{Appends, IsAtEnd}
use Rattle.wire_codec.specs.declared.codec.packet.PacketCodec.{PacketCodec}
use Rattle.wire_codec.specs.Codec.{expected_id}
use Rattle.wire_codec.specs.Framing.{framing, next_id}
use Rattle.wire_span.specs.declared.span.SpanDecoder.{SpanDecoder}
use Rattle.wire_span.specs.declared.span.SpanError.TheVariants as span
use Rattle.wire_span.specs.Spans.{SpanState, header_came, span_state, CameTo, EatsSpans, IsBetween, SpansOn, StopsBefore}
use Rattle.wire_span.specs.Passing.{most_bytes}
use Rattle.wire_span.specs.Renumbering.{sent}
use Rattle.wire_packet_io.specs.declared.error.PacketIoError.{PacketIoError}
use Rattle.wire_packet_io.specs.declared.error.PacketIoError.TheVariants.{Io, UnexpectedEnd, WriteZero, PacketTooLarge, PacketsOutOfSync, OutOfMemory}
use Rattle.wire_packet_io.specs.PacketIo.{joined_reads, read_size, Writing}
use Rattle.wire_packet_io.specs.Lending.{Reading}
use Rattle.wire_packet_io.specs.Copying.{CopiesNext, WaitsHere, copied_to, has_ended}

-- bytes of a packet go out with their headers, which bear ids from this one on, after what was
-- pending: a front of both is written, and the rest is pending
pub record PassesOn (before : SpanState) (id : ℕ) (bytes : List ℕ) (ended : Bool) (after : SpanState)
    (next : ℕ) (old new : List ℕ) (held more : Option (List ℕ)) : Type 0 where
  pub out : List ℕ
  pub written : List ℕ
  pub spans : SpansOn (sent before id) out ((bytes, ended) ∷ []) (sent after next)
  pub all : old ++ out ≡ written ++ new
  pub appended : Appends held more written

-- a call of `relay_packet`: what it reads is a packet's bytes, and a writer of packets gets them with
-- their headers
abbrev pub RelaysTo : {R W : Type 0} → (R → Option (List ℕ)) → (W → Option (List ℕ)) → SpanState
    → Reading R → ℕ → Writing W → Result Bool PacketIoError → SpanState → Reading R → ℕ → Writing W
    → Type 0
RelaysTo remaining contents before old id held result after new next more =
    (bytes : List ℕ) × CopiesNext (λ left. read_size) before old.unread (remaining old.reader)
    (remaining new.reader) old.reads new.reads result bytes after new.unread
    × PassesOn before id bytes (has_ended result) after next held.pending more.pending
    (contents held.writer) (contents more.writer)

-- the same between two readers and writers of packets, each with its codec
abbrev pub RelaysPacket : {R W : Type 0} → (R → Option (List ℕ)) → (W → Option (List ℕ))
    → PacketCodec → Reading R → PacketCodec → Writing W → Result Bool PacketIoError
    → PacketCodec → Reading R → PacketCodec → Writing W → Type 0
RelaysPacket remaining contents codec old other held result behind new next more =
    RelaysTo remaining contents (copied_to old.copied codec) old (expected_id other) held result
    (copied_to new.copied behind) new (expected_id next) more

-- no header has come in part
abbrev pub IsUncut : SpanDecoder → Type 0
IsUncut decoder = header_came (span_state decoder).place ≡ []

-- the front of what was unread is moved after what was pending, in one span on both sides
abbrev pub Relays : Bool → SpanState → ℕ → List ℕ → List ℕ → SpanState → ℕ → List ℕ → List ℕ → Type 0
Relays ended before id old pending after next new left =
    (bytes : List ℕ) × (out : List ℕ) × EatsSpans before old ((bytes, ended) ∷ []) new after
    × SpansOn (sent before id) out ((bytes, ended) ∷ []) (sent after next)
    × (left ≡ pending ++ out)

-- why a step stops there: in front of the header that is refused, or where memory for what is
-- pending was
abbrev pub StopsRelay : PacketIoError → SpanState → List ℕ → Type 0
StopsRelay PacketTooLarge state unread = StopsBefore state unread span.PacketTooLarge
StopsRelay PacketsOutOfSync state unread = StopsBefore state unread span.PacketsOutOfSync
StopsRelay OutOfMemory state unread = ⊤
StopsRelay other state unread = ⊥

-- where a call is once what was unread has gone, or has stopped it
abbrev pub EndsRelay : Result Bool PacketIoError → SpanState → List ℕ → Type 0
EndsRelay (Ok true) state unread = IsBetween state
EndsRelay (Ok false) state unread = WaitsHere state unread
EndsRelay (Err error) state unread = StopsRelay error state unread

-- one step of it
abbrev pub StepsRelay : Result (Option Bool) PacketIoError → SpanState → ℕ → List ℕ → List ℕ
    → SpanState → ℕ → List ℕ → List ℕ → Type 0
StepsRelay (Ok (Some ended)) before id old pending after next new left =
    Relays ended before id old pending after next new left × (IsTrue ended → IsBetween after)
    × (IsFalse ended → (most_bytes after + length old ≤ most_bytes before + length new)
    × (length new < length old))
StepsRelay (Ok None) before id old pending after next new left =
    (after ≡ before) × (next ≡ id) × (new ≡ old) × (left ≡ pending) × WaitsHere after new
StepsRelay (Err error) before id old pending after next new left =
    (after ≡ before) × (next ≡ id) × (new ≡ old) × (left ≡ pending) × StopsRelay error after new

-- why a call stops there, with this unread, this left of the reader, and this pending
abbrev pub RelayStops : Result Bool PacketIoError → SpanState → List ℕ → Option (List ℕ) → List ℕ
    → Type 0
RelayStops (Ok true) state unread left pending = IsBetween state
-- the input ended between two packets
RelayStops (Ok false) state unread left pending =
    IsBetween state × (unread ≡ []) × IsAtEnd left × (pending ≡ [])
-- or inside one
RelayStops (Err UnexpectedEnd) state unread left pending =
    WaitsHere state unread × ((0 < length unread) ⊎ (¬ IsBetween state)) × IsAtEnd left
    × (pending ≡ [])
-- a write took nothing of what is pending
RelayStops (Err WriteZero) state unread left pending =
    WaitsHere state unread × (0 < length pending)
-- a write, a flush or a read failed, where nothing more of the packet was there
RelayStops (Err (Io error)) state unread left pending = WaitsHere state unread
RelayStops (Err error) state unread left pending = StopsRelay error state unread

-- what was eaten of a packet since it began, and what went out of it: the same bytes, framed with
-- the ids of each side
abbrev pub RelayedFront : Type 0
RelayedFront =
    (asked : ℕ → ℕ) (before after : SpanState) (id next : ℕ) (old new : List ℕ) (unread left : Option (List ℕ))
    (old_reads new_reads : ℕ) (result : Result Bool PacketIoError) (bytes pending rest : List ℕ)
    (held more : Option (List ℕ)) → before.id < 256 → id < 256 → IsBetween before
    → has_ended result ≡ false
    → (call : CopiesNext asked before old unread left old_reads new_reads result bytes after new)
    → (gone : PassesOn before id bytes (has_ended result) after next pending rest held more)
    → CameTo before.id before.limit call.eats.0 [] bytes after
    × CameTo id before.limit gone.out [] bytes (sent after next)

-- a packet that one call passed on: it came as the framing of its bytes and went as the framing of
-- the same bytes, each with the ids of its side, and is within the limit
abbrev pub RelayedPacket : Type 0
RelayedPacket =
    (asked : ℕ → ℕ) (before after : SpanState) (id next : ℕ) (old new : List ℕ) (unread left : Option (List ℕ))
    (old_reads new_reads : ℕ) (bytes pending rest : List ℕ) (held more : Option (List ℕ))
    → before.id < 256 → id < 256 → IsBetween before → IsBetween after
    → (call : CopiesNext asked before old unread left old_reads new_reads (Ok true) bytes after new)
    → (gone : PassesOn before id bytes true after next pending rest held more)
    → (old ++ joined_reads call.reads ≡ framing before.id bytes ++ new)
    × (gone.out ≡ framing id bytes) × (length bytes ≤ before.limit)
    × (after.id ≡ next_id before.id bytes) × (next ≡ next_id id bytes)

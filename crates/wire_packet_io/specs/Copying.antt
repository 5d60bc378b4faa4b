-- A packet whose bytes are written as they come.
use Rattle.std.specs.Prelude.{◌≡◌, ℕ, ◌+◌, ◌<◌, ◌≤◌, ◌⊎◌, List, [], ◌∷◌, ◌++◌, length, get_or, take, max, min, Option, Some, None, MatchOption, IsNone, IsSome, Result, Ok, Err, Bool, true, false, IsTrue, IsFalse, ⊤}
use Rattle.std.specs.Io.KnownBytes.{Consumes, Appends, Keeps, IsAtEnd}
use Rattle.wire_codec.specs.declared.codec.packet.PacketCodec.{PacketCodec}
use Rattle.wire_codec.specs.Codec.{expected_id, Stands}
use Rattle.wire_codec.specs.Framing.{framing, next_id}
use Rattle.wire_span.specs.declared.span.SpanDecoder.{SpanDecoder}
use Rattle.wire_span.specs.declared.span.SpanError.{SpanError}
use Rattle.wire_span.specs.declared.span.SpanError.TheVariants as span
use Rattle.wire_span.specs.Spans.{SpanState, span_state, AtHeader, IsBetween, EatsSpans, StopsBefore, header_came}
use Rattle.wire_span.specs.Passing.{left_in, most_bytes}
use Rattle.wire_packet_io.specs.declared.error.PacketIoError.{PacketIoError}
use Rattle.wire_packet_io.specs.declared.error.PacketIoError.TheVariants.{Io, UnexpectedEnd, WriteZero, PacketTooLarge, PacketsOutOfSync, OutOfMemory}
use Rattle.wire_packet_io.specs.PacketIo.{joined_reads, read_size, CountsUp, EndsEmpty}
use Rattle.wire_packet_io.specs.Lending.{Reading, reading_state}

-- in front of a packet: the first chunk is to bear the codec's id
abbrev pub in_front : PacketCodec → SpanState
in_front codec =
    record {
      limit = codec.max_allowed_packet;
      id = expected_id codec;
      size = 0;
      place = AtHeader [];
    }

-- where a reader is in the packet that it copies, under the codec's limit
abbrev pub copied_to : Option SpanDecoder → PacketCodec → SpanState
copied_to None codec = in_front codec
copied_to (Some decoder) codec =
    record (span_state decoder) { limit = codec.max_allowed_packet }

-- a call can go on: the reader isn't lost, but for a packet that is being copied
abbrev pub HasPlace : {R : Type 0} → Reading R → Type 0
HasPlace reading = IsSome reading.copied ⊎ IsFalse reading.is_lost

-- nothing of this can go before more has come: it is a part of a header, or nothing
abbrev pub WaitsHere : SpanState → List ℕ → Type 0
WaitsHere state unread = (length unread < 4) × (0 < left_in state.place → unread ≡ [])

-- the most bytes of a read of `copy_packet`, where this many are to come of the open chunk: of a large
-- one up to 65536, and none behind it
abbrev pub copy_read_size : ℕ → ℕ
copy_read_size left = max read_size (min 65536 left)

-- and the input is such, after bytes that go in one span; what is read there is no longer than what is
-- asked for where so many bytes are to come of the open chunk
abbrev pub ReadsBehind : (ℕ → ℕ) → SpanState → List ℕ → List ℕ → Type 0
ReadsBehind asked before input read =
    (bytes : List ℕ) × (left : List ℕ) × (after : SpanState)
    × EatsSpans before input ((bytes, false) ∷ []) left after × WaitsHere after left
    × (length read ≤ asked (left_in after.place))

-- whether a call ended a packet
abbrev pub has_ended : Result Bool PacketIoError → Bool
has_ended (Ok ended) = ended
has_ended (Err error) = false

-- why a step stops there: in front of the header that is refused, or at a write that took nothing of
-- the bytes in front, or failed
abbrev pub StopsHere : PacketIoError → SpanState → List ℕ → Type 0
StopsHere PacketTooLarge state unread = StopsBefore state unread span.PacketTooLarge
StopsHere PacketsOutOfSync state unread = StopsBefore state unread span.PacketsOutOfSync
StopsHere WriteZero state unread = (0 < left_in state.place) × (0 < length unread)
StopsHere (Io error) state unread = ⊤
StopsHere other state unread = ⊥

-- where a call is once what was unread has gone, or has stopped it
abbrev pub EndsCopy : Result Bool PacketIoError → SpanState → List ℕ → Type 0
EndsCopy (Ok true) state unread = IsBetween state
EndsCopy (Ok false) state unread = WaitsHere state unread
EndsCopy (Err error) state unread = StopsHere error state unread

-- why a call stops there, with this unread and this left of the reader
abbrev pub CopyStops : Result Bool PacketIoError → SpanState → List ℕ → Option (List ℕ) → Type 0
CopyStops (Ok true) state unread left = IsBetween state
-- the input ended between two packets
CopyStops (Ok false) state unread left = IsBetween state × (unread ≡ []) × IsAtEnd left
-- or inside one
CopyStops (Err UnexpectedEnd) state unread left =
    WaitsHere state unread × ((0 < length unread) ⊎ (¬ IsBetween state)) × IsAtEnd left
-- memory for a read was refused
CopyStops (Err OutOfMemory) state unread left = WaitsHere state unread
-- a read failed, or it stopped before
CopyStops (Err error) state unread left = StopsHere error state unread

-- the last read gave nothing, where the call says that the input ended
abbrev pub EndsRead : Result Bool PacketIoError → List (List ℕ) → Type 0
EndsRead (Ok false) reads = EndsEmpty reads
EndsRead (Err UnexpectedEnd) reads = EndsEmpty reads
EndsRead other reads = ⊤

-- a call of `copy_packet` from this place, where this was unread: its reads one by one, and
-- the bytes that were written, which came in one span
pub record CopiesNext (asked : ℕ → ℕ) (before : SpanState) (old : List ℕ) (unread left : Option (List ℕ))
    (old_reads new_reads : ℕ) (result : Result Bool PacketIoError) (written : List ℕ)
    (after : SpanState) (new : List ℕ) : Type 0 where
  pub reads : List (List ℕ)
  pub consumed : Consumes unread left (joined_reads reads)
  pub eats : EatsSpans before (old ++ joined_reads reads) ((written, has_ended result) ∷ []) new after
  pub ended : EndsRead result reads
  -- each read is made where nothing can go before more has come
  pub waits : (j : ℕ) → j < length reads
      → ReadsBehind asked before (old ++ joined_reads (take j reads)) (get_or reads j [])
  pub counted : CountsUp old_reads new_reads (length reads)

-- a call of `copy_packet`: what it reads is a packet's bytes, and a writer gets them
abbrev pub CopiesTo : {R W : Type 0} → (R → Option (List ℕ)) → (W → Option (List ℕ)) → SpanState
    → Reading R → W → Result Bool PacketIoError → SpanState → Reading R → W → Type 0
CopiesTo remaining contents before old held result after new more =
    (written : List ℕ) × Appends (contents held) (contents more) written
    × CopiesNext copy_read_size before old.unread (remaining old.reader) (remaining new.reader)
    old.reads new.reads result written after new.unread

-- the front of what was unread is written, in one span
abbrev pub Copies : Bool → SpanState → List ℕ → Option (List ℕ) → SpanState → List ℕ
    → Option (List ℕ) → Type 0
Copies ended before old held after new more =
    (bytes : List ℕ) × EatsSpans before old ((bytes, ended) ∷ []) new after
    × Appends held more bytes

-- one step of it, by what is unread
abbrev pub StepsCopy : Result (Option Bool) PacketIoError → SpanState → List ℕ → Option (List ℕ)
    → SpanState → List ℕ → Option (List ℕ) → Type 0
StepsCopy (Ok (Some ended)) before old held after new more =
    Copies ended before old held after new more × (IsTrue ended → IsBetween after)
    × (IsFalse ended → (most_bytes after + length old ≤ most_bytes before + length new)
    × (length new < length old))
StepsCopy (Ok None) before old held after new more =
    (after ≡ before) × (new ≡ old) × Keeps held more × WaitsHere after new
StepsCopy (Err error) before old held after new more =
    (after ≡ before) × (new ≡ old) × Keeps held more × StopsHere error after new

-- a packet may be copied with this codec
abbrev pub CanCopy : {R : Type 0} → PacketCodec → Reading R → Type 0
CanCopy codec reading =
    MatchOption reading.copied
    (IsTrue reading.is_lost
    ⊎ (Stands (reading_state codec reading) × (reading.held ≡ []) × IsNone reading.lent))
    (λ decoder. (header_came (span_state decoder).place ≡ []) × (reading.held ≡ []) × IsNone reading.lent)

-- the reader's name for a refusal of a header
abbrev pub IsSpanRefusal : SpanError → PacketIoError → Type 0
IsSpanRefusal span.PacketTooLarge error = error ≡ PacketTooLarge
IsSpanRefusal span.PacketsOutOfSync error = error ≡ PacketsOutOfSync

-- a packet that was copied by one call: what was unread and read began with the framing of what was
-- written, which is within the limit, and the id is the one after it
abbrev pub CopiedPacket : Type 0
CopiedPacket =
    (asked : ℕ → ℕ) (before after : SpanState) (old new : List ℕ) (unread left : Option (List ℕ))
    (old_reads new_reads : ℕ) (written : List ℕ) → before.id < 256 → IsBetween before → IsBetween after
    → (call : CopiesNext asked before old unread left old_reads new_reads (Ok true) written after new)
    → (old ++ joined_reads call.reads ≡ framing before.id written ++ new)
    × (length written ≤ before.limit) × (after.id ≡ next_id before.id written)

-- Laws of spans.
use Rattle.std.specs.Prelude.{◌≡◌, ℕ, ◌+◌, ◌<◌, ◌≤◌, List, [], ◌++◌, length, drop, Bool}
use Rattle.wire_span.specs.declared.span.SpanError.{SpanError}
use Rattle.wire_span.specs.declared.span.SpanError.TheVariants.{PacketTooLarge, PacketsOutOfSync}
use Rattle.wire_codec.specs.Framing.{id_after, stream}
use Rattle.wire_codec.specs.Delivery.{chunk_len, Splits, Delivers, Waiting, TooLarge, OutOfSync}
use Rattle.wire_span.specs.Spans.{SpanState, CameTo, IsBetween, SpansOn, Refuses}
use Rattle.wire_span.specs.Renumbering.{RenumbersFront}

-- between two packets a stream begins with the id that is expected
abbrev pub SpansBegin : Type 0
SpansBegin =
    (state : SpanState) (limit : ℕ) → state.id < 256 → IsBetween state
    → CameTo state.id limit [] [] [] state

-- between two packets of a delivery a decoder of spans may go on, with the id that comes next
abbrev pub SpansFollow : Type 0
SpansFollow =
    (first limit : ℕ) (input : List ℕ) (payloads : List (List ℕ)) (state : SpanState)
    → state.id < 256 → IsBetween state → state.id ≡ id_after first payloads
    → Delivers [] input first limit payloads Waiting [] []
    → CameTo first limit input payloads [] state

-- and between two packets of its own, what came is whole packets, so that a codec with the id that
-- it expects may go on
abbrev pub SpansEnd : Type 0
SpansEnd =
    (first limit : ℕ) (input : List ℕ) (payloads : List (List ℕ)) (opened : List ℕ)
    (state : SpanState) → first < 256 → IsBetween state
    → CameTo first limit input payloads opened state
    → (input ≡ stream first payloads) × (opened ≡ []) × (state.id ≡ id_after first payloads)

-- what came is what the stream delivers: the packets that spans make are the payloads, each once
-- and in order, and the bytes of the open packet are its full chunks and what came of the open
-- chunk
abbrev pub SpansDeliver : Type 0
SpansDeliver =
    (first limit : ℕ) (input : List ℕ) (payloads : List (List ℕ)) (opened : List ℕ)
    (state : SpanState) → CameTo first limit input payloads opened state
    → (unfinished : List ℕ) × (rest : List ℕ)
    × Delivers [] input first limit payloads Waiting unfinished rest
    × (opened ≡ unfinished ++ drop 4 rest)

-- a stop is that of the stream's delivery, in front of the same chunk: at once where the packet
-- would be too large, and where the chunk bears another id as soon as the rest of it has come
abbrev pub StopIs : SpanError → List ℕ → ℕ → ℕ → List (List ℕ) → List ℕ → List ℕ → Type 0
StopIs PacketTooLarge input first limit payloads opened rest =
    Delivers [] input first limit payloads TooLarge opened rest
StopIs PacketsOutOfSync input first limit payloads opened rest =
    (more : List ℕ) → 4 + chunk_len rest ≤ length (rest ++ more)
    → Delivers [] (input ++ more) first limit payloads OutOfSync opened (rest ++ more)

abbrev pub SpansStop : Type 0
SpansStop =
    (error : SpanError) (input : List ℕ) (first limit : ℕ) (payloads : List (List ℕ))
    (opened rest : List ℕ) → Splits [] input first limit payloads opened rest
    → Refuses error (id_after first payloads) limit opened rest
    → StopIs error input first limit payloads opened rest

-- two cuttings of one stream agree: in the packets, in the bytes of the open one, and in where the
-- decoders stand
abbrev pub OneSpanning : Type 0
OneSpanning =
    (first limit : ℕ) (input : List ℕ) (payloads others : List (List ℕ)) (opened other : List ℕ)
    (state another : SpanState)
    → CameTo first limit input payloads opened state → CameTo first limit input others other another
    → (payloads ≡ others) × (opened ≡ other) × (state.id ≡ another.id)
    × (state.size ≡ another.size) × (state.place ≡ another.place)

-- calls one after another are one call over all bytes that they ate
abbrev pub JoinedSpans : Type 0
JoinedSpans =
    (before between after : SpanState) (eaten more : List ℕ) (spans others : List (List ℕ × Bool))
    → between.limit ≡ before.limit → SpansOn before eaten spans between
    → SpansOn between more others after
    → SpansOn before (eaten ++ more) (spans ++ others) after

-- no bytes, in no spans
abbrev pub NothingCame : Type 0
NothingCame = (state : SpanState) → SpansOn state [] [] state

-- a piece that went whole, and the front of the one after it
abbrev pub JoinedRenumberings : Type 0
JoinedRenumberings =
    (before between after : SpanState) (id other next count : ℕ) (old new more others : List ℕ)
    → between.limit ≡ before.limit → RenumbersFront before id old new (length old) between other
    → RenumbersFront between other more others count after next
    → RenumbersFront before id (old ++ more) (new ++ others) (length old + count) after next

-- what went out between two packets is the framing of the payloads that came, with ids that count
-- on from the other first one
abbrev pub RenumberedStream : Type 0
RenumberedStream =
    (before after : SpanState) (id next : ℕ) (old new : List ℕ)
    → before.id < 256 → id < 256 → IsBetween before → IsBetween after
    → RenumbersFront before id old new (length old) after next
    → (payloads : List (List ℕ)) × (old ≡ stream before.id payloads) × (new ≡ stream id payloads)
    × (after.id ≡ id_after before.id payloads) × (next ≡ id_after id payloads)

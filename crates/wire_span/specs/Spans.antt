-- Packets that come in spans: what came of a stream since a place between two packets, and what
-- spans are put together. Nothing here knows of pieces or of a loop.
use Rattle.std.specs.Prelude.{◌≡◌, ◌≢◌, ℕ, ◌+◌, ◌%◌, ◌<◌, ◌≤◌, ◌==◌, ◌⊎◌, if◌then◌else◌, List, [], ◌∷◌, ◌++◌, length, slice_index, All, Bool, Option, Some, None}
use Rattle.std.specs.Int.NonZero.{non_zero_usize_get}
use Rattle.wire_span.specs.declared.span.HeaderFront.{HeaderFront}
use Rattle.wire_span.specs.declared.span.HeaderFront.TheVariants.{Empty, One, Two, Three}
use Rattle.wire_span.specs.declared.span.Place.{Place}
use Rattle.wire_span.specs.declared.span.Place.TheVariants.{InHeader, InChunk}
use Rattle.wire_span.specs.declared.span.Span.{Span}
use Rattle.wire_span.specs.declared.span.SpanDecoder.{SpanDecoder}
use Rattle.wire_span.specs.declared.span.SpanError.{SpanError}
use Rattle.wire_span.specs.declared.span.SpanError.TheVariants.{PacketTooLarge, PacketsOutOfSync}
use Rattle.wire_codec.specs.declared.codec.error.PacketCodecError.{PacketCodecError}
use Rattle.wire_codec.specs.declared.codec.error.PacketCodecError.TheVariants.{PacketTooLarge as CodecTooLarge, PacketsOutOfSync as CodecOutOfSync}
use Rattle.wire_codec.specs.Framing.{max_payload, header, front, stream, id_after}
use Rattle.wire_codec.specs.Delivery.{chunk_len, id_at, IsWholeChunks, Splits, IsTooLarge}

-- the bytes that came of a header
abbrev pub front_bytes : HeaderFront → List ℕ
front_bytes Empty = []
front_bytes (One a) = a ∷ []
front_bytes (Two a b) = a ∷ b ∷ []
front_bytes (Three a b c) = a ∷ b ∷ c ∷ []

-- where in a packet a decoder is
pub data SpanPlace : Type 0 where
  -- in front of a chunk's bytes: these bytes of its header came
  AtHeader : List ℕ → SpanPlace
  -- among them: this many are to come, and whether the chunk is a full one
  Within : ℕ → Bool → SpanPlace

abbrev pub place_of : Place → SpanPlace
place_of (InHeader came) = AtHeader (front_bytes came)
place_of (InChunk left is_full) = Within (non_zero_usize_get left) is_full

-- the bytes that came of a header, where it has not come whole
abbrev pub header_came : SpanPlace → List ℕ
header_came (AtHeader came) = came
header_came (Within left is_full) = []

-- a decoder of spans between two calls: the limit of a packet, the id that the next chunk is to
-- bear, how many bytes the open packet has up to the end of its open chunk, and the place in it
pub record SpanState : Type 0 where
  pub limit : ℕ
  pub id : ℕ
  pub size : ℕ
  pub place : SpanPlace

abbrev pub span_state : SpanDecoder → SpanState
span_state decoder =
    record {
      limit = decoder.max_allowed_packet;
      id = decoder.seq_id;
      size = decoder.size;
      place = place_of decoder.place;
    }

-- the full chunks of an open packet, and after them the header of its open chunk and the part of
-- the chunk that came, with this many bytes to come
pub record InOpenChunk (first limit id size left : ℕ) (is_full : Bool)
    (opened begun : List ℕ) : Type 0 where
  pub held : List ℕ
  pub part : List ℕ
  pub len : ℕ
  pub opened_is : opened ≡ held ++ part
  pub held_whole : IsWholeChunks held
  pub begun_is : begun ≡ front first held ++ (header len (id_at first held) ++ part)
  pub len_is : len ≡ length part + left
  pub small : len ≤ max_payload
  pub full_is : is_full ≡ (len == max_payload)
  pub id_is : id ≡ (id_at first held + 1) % 256
  pub size_is : size ≡ length opened + left
  pub within : size ≤ limit

-- the full chunks of an open packet, and after them these bytes of the next header
pub record InNextHeader (first limit id size : ℕ) (came opened begun : List ℕ) : Type 0 where
  pub opened_whole : IsWholeChunks opened
  pub begun_is : begun ≡ front first opened ++ came
  pub not_whole : length came < 4
  pub id_is : id ≡ id_at first opened
  pub size_is : size ≡ length opened
  pub within : size ≤ limit

-- what came of a packet since its first chunk, which bears this id: these bytes of the payload
abbrev pub Begins : ℕ → ℕ → ℕ → ℕ → SpanPlace → List ℕ → List ℕ → Type 0
Begins first limit id size (AtHeader came) opened begun =
    InNextHeader first limit id size came opened begun
Begins first limit id size (Within left is_full) opened begun =
    (0 < left) × InOpenChunk first limit id size left is_full opened begun

-- the input, which began between two packets, is these payloads framed, and the front of the
-- framing of one more, whose first bytes are `opened`; all are within the limit
abbrev pub CameTo : ℕ → ℕ → List ℕ → List (List ℕ) → List ℕ → SpanState → Type 0
CameTo first limit input payloads opened state =
    (begun : List ℕ) × (input ≡ stream first payloads ++ begun)
    × All (λ payload. length payload ≤ limit) payloads
    × Begins (id_after first payloads) limit state.id state.size state.place opened begun

-- between two packets
abbrev pub IsBetween : SpanState → Type 0
IsBetween state = (state.size ≡ 0) × (state.place ≡ AtHeader [])

-- the packets that spans end, where these bytes are open before them: bytes, and whether they end
-- their packet
abbrev pub packets_of : List ℕ → List (List ℕ × Bool) → List (List ℕ)
packets_of opened [] = []
packets_of opened (span ∷ spans) =
    if span.1 then (opened ++ span.0) ∷ packets_of [] spans else packets_of (opened ++ span.0) spans

-- the bytes that are open after them
abbrev pub opened_after : List ℕ → List (List ℕ × Bool) → List ℕ
opened_after opened [] = opened
opened_after opened (span ∷ spans) =
    if span.1 then opened_after [] spans else opened_after (opened ++ span.0) spans

-- this many bytes more came, in these spans: wherever the stream stood, the packets are those that
-- the spans make
abbrev pub SpansOn : SpanState → List ℕ → List (List ℕ × Bool) → SpanState → Type 0
SpansOn before eaten spans after =
    (first limit : ℕ) (input : List ℕ) (payloads : List (List ℕ)) (opened : List ℕ)
    → before.limit ≤ limit → CameTo first limit input payloads opened before
    → CameTo first limit (input ++ eaten) (payloads ++ packets_of opened spans)
    (opened_after opened spans) after

-- a span, as bytes, and whether they end their packet
abbrev pub span_of : Span → List ℕ × Bool
span_of span = (span.bytes.now, span.ends_packet)

abbrev pub spans_of : Option Span → List (List ℕ × Bool)
spans_of None = []
spans_of (Some span) = span_of span ∷ []

-- the front of a piece came in these spans, and this is left of it
abbrev pub EatsSpans : SpanState → List ℕ → List (List ℕ × Bool) → List ℕ → SpanState → Type 0
EatsSpans before piece spans left after =
    (eaten : List ℕ) × (piece ≡ eaten ++ left) × SpansOn before eaten spans after

-- the header in front states a chunk within the limit, or an empty one, and bears another id than
-- the next; the chunk need not have come
abbrev pub IsOfAnotherId : ℕ → ℕ → List ℕ → List ℕ → Type 0
IsOfAnotherId first limit opened rest =
    (4 ≤ length rest) × ((chunk_len rest ≡ 0) ⊎ (length opened + chunk_len rest ≤ limit))
    × (slice_index rest 3 ≢ id_at first opened)

-- why a header is refused
abbrev pub Refuses : SpanError → ℕ → ℕ → List ℕ → List ℕ → Type 0
Refuses PacketTooLarge first limit opened rest = IsTooLarge limit opened rest
Refuses PacketsOutOfSync first limit opened rest = IsOfAnotherId first limit opened rest

-- in front of these bytes a decoder stops: wherever the stream stood, it stood after full chunks,
-- and the header that follows is refused
abbrev pub StopsBefore : SpanState → List ℕ → SpanError → Type 0
StopsBefore state more error =
    (first limit : ℕ) (input : List ℕ) (payloads : List (List ℕ)) (opened : List ℕ)
    → state.limit ≤ limit → CameTo first limit input payloads opened state
    → (rest : List ℕ) × Splits [] (input ++ more) first limit payloads opened rest
    × Refuses error (id_after first payloads) state.limit opened rest

-- the codec's name for it
abbrev pub IsCodecError : SpanError → PacketCodecError → Type 0
IsCodecError PacketTooLarge error = error ≡ CodecTooLarge
IsCodecError PacketsOutOfSync error = error ≡ CodecOutOfSync

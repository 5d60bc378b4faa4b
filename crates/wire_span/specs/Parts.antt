-- Where a decoder of spans stands, in plain numbers.
use Rattle.std.specs.Prelude.{◌≡◌, ℕ, ◌-◌, ◌%◌, ◌≤◌, ◌==◌, ◌⊎◌, Bool, List, take, drop, replicate, zero, suc}
use Rattle.wire_span.specs.declared.span.parts.SpanParts.{SpanParts}
use Rattle.wire_codec.specs.Framing.{max_payload}
use Rattle.wire_span.specs.Spans.{SpanPlace, AtHeader, Within, SpanState, CameTo, SpansOn}

-- the place in a packet that has this many bytes up to the end of its open chunk, of which this many
-- are to come: with none to come it is in front of a header, of which these bytes came; and full
-- chunks alone leave none after them
abbrev pub place_at : ℕ → ℕ → List ℕ → SpanPlace
place_at size zero came = AtHeader came
place_at size (suc less) came = Within (suc less) (size % max_payload == 0)

abbrev pub parts_state : SpanParts → SpanState
parts_state parts =
    record {
      limit = parts.max_allowed_packet;
      id = parts.seq_id;
      size = parts.size;
      place = place_at parts.size parts.left (take parts.header_len parts.header);
    }

-- what came of a header stands in front of zeros, and inside a chunk nothing came of one
abbrev pub IsTidy : SpanParts → Type 0
IsTidy parts =
    (parts.header_len ≤ 3)
    × (drop parts.header_len parts.header ≡ replicate (3 - parts.header_len) 0)
    × ((parts.left ≡ 0) ⊎ (parts.header_len ≡ 0))

-- the open chunk of a packet of this many bytes up to its end, a full one or a shorter one after
-- full ones, may have this many to come
abbrev pub IsInChunk : ℕ → ℕ → Type 0
IsInChunk size left =
    ((size % max_payload ≡ 0) × (left ≤ max_payload) × (left ≤ size))
    ⊎ (left ≤ size % max_payload)

-- with none to come there are full chunks alone
abbrev pub IsPlace : ℕ → ℕ → Type 0
IsPlace size zero = size % max_payload ≡ 0
IsPlace size (suc less) = IsInChunk size (suc less)

-- a decoder may stand so: it does after the bytes of some stream, which began between two packets
abbrev pub CanStand : SpanState → Type 0
CanStand state =
    (first limit : ℕ) × (input : List ℕ) × (payloads : List (List ℕ)) × (opened : List ℕ)
    × (state.limit ≤ limit) × CameTo first limit input payloads opened state

-- so it may after more bytes that came
abbrev pub SpansStand : Type 0
SpansStand =
    (before after : SpanState) (eaten : List ℕ) (spans : List (List ℕ × Bool))
    → after.limit ≤ before.limit → CanStand before → SpansOn before eaten spans after
    → CanStand after

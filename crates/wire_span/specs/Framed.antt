-- A packet of a known length that goes out as its bytes come: what went, and what is to go still.
-- Nothing here knows of pieces or of a loop.
use Rattle.std.specs.Prelude.{◌≡◌, ℕ, ◌+◌, ◌*◌, ◌==◌, ◌&&◌, if◌then◌else◌, is_some, List, [], ◌++◌, length, take, drop, unwrap_or, Option, Some, None, IsSome}
use Rattle.wire_span.specs.declared.frame.FrameWriter.{FrameWriter}
use Rattle.wire_codec.specs.Framing.{framing, next_id}

-- a writer between two calls: the id that the next chunk bears, how many bytes of the open chunk are
-- to come, and how many of the packet after it, where another chunk follows
pub record FrameState : Type 0 where
  pub id : ℕ
  pub chunk_left : ℕ
  pub behind : Option ℕ

abbrev pub frame_state : FrameWriter → FrameState
frame_state writer =
    record {
      id = writer.seq_id;
      chunk_left = writer.chunk_left;
      behind = writer.behind;
    }

-- in front of a packet of this many bytes
abbrev pub begun : ℕ → ℕ → FrameState
begun id len = record { id = id; chunk_left = 0; behind = Some len }

-- all of the packet went, or none was begun
abbrev pub IsBetweenPackets : FrameState → Type 0
IsBetweenPackets state = (state.chunk_left ≡ 0) × (state.behind ≡ None)

-- in front of a chunk's header
abbrev pub IsHeaderDue : FrameState → Type 0
IsHeaderDue state = (state.chunk_left ≡ 0) × IsSome state.behind

-- a bound on the parts that go out of these bytes: it falls with each
abbrev pub most_parts : FrameState → List ℕ → ℕ
most_parts state piece =
    (if state.chunk_left == 0 && is_some state.behind then 1 else 0) + 2 * length piece

-- how many bytes of the payload are to come
abbrev pub payload_left : FrameState → ℕ
payload_left state = state.chunk_left + unwrap_or state.behind 0

-- after the open chunk: the rest of the payload framed from the next id on, where a chunk follows
abbrev pub framed_behind : Option ℕ → ℕ → List ℕ → List ℕ
framed_behind None id rest = []
framed_behind (Some len) id rest = framing id rest

abbrev pub next_behind : Option ℕ → ℕ → List ℕ → ℕ
next_behind None id rest = id
next_behind (Some len) id rest = next_id id rest

-- what goes out still, where these bytes of the payload are to come
abbrev pub to_send : FrameState → List ℕ → List ℕ
to_send state rest =
    take state.chunk_left rest ++ framed_behind state.behind state.id (drop state.chunk_left rest)

-- and the sequence id then
abbrev pub id_at_end : FrameState → List ℕ → ℕ
id_at_end state rest = next_behind state.behind state.id (drop state.chunk_left rest)

abbrev pub header_bytes : Option (List ℕ) → List ℕ
header_bytes None = []
header_bytes (Some header) = header

-- these bytes of the payload came and those went out: whatever comes after them, what was to go is
-- what went, and what goes still
pub record FramesOn (before : FrameState) (eaten out : List ℕ) (after : FrameState) : Type 0 where
  pub left : payload_left before ≡ length eaten + payload_left after
  pub sends : (rest : List ℕ) → length rest ≡ payload_left after
      → to_send before (eaten ++ rest) ≡ out ++ to_send after rest
  pub ids : (rest : List ℕ) → length rest ≡ payload_left after
      → id_at_end before (eaten ++ rest) ≡ id_at_end after rest

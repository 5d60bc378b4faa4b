-- Packets that are lent from the caller's bytes, or put together of them.
use Rattle.std.specs.Prelude.{◌≡◌, ◌↔◌, ℕ, ℤ, ◌+◌, ◌%◌, ◌<◌, ◌≤◌, ◌⊎◌, List, [], ◌∷◌, length, take, drop, None, IfSome, Ok, true, false}
use Rattle.std.specs.List.{flat_map}
use Rattle.wire_codec.specs.Delivery.{chunk_len}
use Rattle.wire_codec.specs.InPlace.{HasFront, front_payload}
use Rattle.wire_codec.specs.Laws.{appended, empty_state}
use Rattle.wire_codec.specs.LimitedRuns.{DecodesAligned}
use Rattle.mysql_wire_c_calls.specs.declared.codes.TheConstants.{WAITS, PACKET, NO_MEMORY}
use Rattle.mysql_wire_c_calls.specs.declared.fields.Span.{Span}
use Rattle.mysql_wire_c_calls.specs.declared.side.Front.TheVariants.{Unfinished}
use Rattle.mysql_wire_c_calls.specs.Side.{Side, side_of}
use Rattle.mysql_wire_c_calls.specs.Answers.{Waits, holding}
use Rattle.mysql_wire_c_calls.specs.SideCalls.{Peeks}

-- a side without the packet that is lent
abbrev pub unlent : Side → Side
unlent side = record side { lent = None }

-- a side to which these bytes were fed
abbrev pub fed_with : Side → List ℕ → Side
fed_with side bytes = record side { state = appended side.state bytes }

-- nothing that came is unread or held, and the bytes begin with a whole packet of one chunk
abbrev pub HasPacketIn : List ℕ → Side → Type 0
HasPacketIn bytes side =
    (side.is_lost ≡ false) × (side.state.unread ≡ []) × (side.state.held ≡ [])
    × HasFront (appended side.state bytes)

-- the packet is lent from the bytes, of which this many are its chunk: as if they were fed, and it was
-- peeked and taken
pub record LendsFrom (bytes : List ℕ) (used len : ℕ) (answer : ℤ) (before after : Side) : Type 0 where
  pub packet : answer ≡ PACKET
  pub size : len ≡ chunk_len bytes
  pub ends : used ≡ 4 + chunk_len bytes
  pub bound : used ≤ length bytes
  pub behind : after ≡ record before {
    state = record before.state { id = (before.state.id + 1) % 256; header = None };
  }
  pub decodes : DecodesAligned (appended before.state bytes) (Ok true)
      (holding (front_payload bytes) (appended after.state (drop used bytes)))

-- these pieces were fed, each where the connection asked for more
abbrev pub FedInTurn : List (List ℕ) → Side → Side → Type 0
FedInTurn [] before after = after ≡ before
FedInTurn (piece ∷ pieces) before after =
    (between : Side) × Waits before between × FedInTurn pieces (fed_with between piece) after

-- the front of the bytes is fed in pieces, and then it is as `peek` has it; or memory for the next
-- piece was refused
pub record FeedsFront (bytes : List ℕ) (used : ℕ) (answer : ℤ) (before after : Side) : Type 0 where
  pub pieces : List (List ℕ)
  pub between : Side
  pub all : flat_map (λ piece. piece) pieces ≡ take used bytes
  pub bound : used ≤ length bytes
  pub fed : FedInTurn pieces before between
  pub peeks : Peeks answer between after ⊎ ((answer ≡ NO_MEMORY) × Waits between after)
  pub waits : answer ≡ WAITS → used ≡ length bytes

-- the packet that was lent is taken; the next one is lent from the bytes where it lies whole there
-- and nothing came before it, and else the connection is fed with them
pub record Decodes (bytes : List ℕ) (used len : ℕ) (answer : ℤ) (before after : Side) : Type 0 where
  pub lends : HasPacketIn bytes (unlent before)
      → LendsFrom bytes used len answer (unlent before) after
  pub feeds : (HasPacketIn bytes (unlent before) → ⊥)
      → FeedsFront bytes used answer (unlent before) after
      × (answer ≡ PACKET → IfSome after.lent (λ packet. len ≡ length packet))
  pub empty : (answer ≡ PACKET) ⊎ (len ≡ 0)

-- a codec of this limit between two packets, which expects this number
abbrev pub codec_at : ℕ → ℕ → List ℕ → Side
codec_at id limit pending = side_of Unfinished (empty_state id limit) pending

-- these packets are lent one after another, as by calls of `decode` over what is left of the bytes:
-- the first stands at this place, the last ends at the other
abbrev pub LendsInTurn : List ℕ → ℕ → List Span → ℕ → Side → Side → Type 0
LendsInTurn bytes at [] end before after = (end ≡ at) × (after ≡ before)
LendsInTurn bytes at (span ∷ spans) end before after =
    (between : Side) × (span.at ≡ at + 4) × HasPacketIn (drop at bytes) before
    × LendsFrom (drop at bytes) (4 + span.len) span.len PACKET before between
    × LendsInTurn bytes (at + 4 + span.len) spans end between after

-- the packet that was lent is taken, and this many are lent from the bytes: till the places for them
-- are used up, or no other lies there
pub record DecodesMany (bytes : List ℕ) (old_spans spans : List Span) (count used : ℕ) (answer : ℤ)
    (before after : Side) : Type 0 where
  pub lends : LendsInTurn bytes 0 (take count spans) used (unlent before) after
  pub room : count ≤ length spans
  pub bound : used ≤ length bytes
  pub all : (count ≡ length spans) ⊎ (HasPacketIn (drop used bytes) after → ⊥)
  pub packet : answer ≡ PACKET ↔ (0 < count)
  pub answers : (answer ≡ PACKET) ⊎ (answer ≡ WAITS)
  pub rest_of_spans : drop count spans ≡ drop count old_spans

-- What each other call of a connection does, by its answer. Each answer but these is none that it
-- gives.
use Rattle.std.specs.Prelude.{◌≡◌, ℕ, ℤ, pos, ◌+◌, ◌%◌, ◌^◌, ◌-◌, ◌<◌, ◌≤◌, ◌⊎◌, ◌↔◌, List, ◌++◌, length, take, drop, min, Option, None, IsSome, IfSome, true, false}
use Rattle.wire_codec.specs.declared.codec.error.PacketCodecError.TheVariants.{OutOfMemory, PacketTooLarge}
use Rattle.wire_codec.specs.Early.{IsOutOfStep}
use Rattle.wire_codec.specs.Framing.{max_payload, framing, next_id}
use Rattle.mysql_wire_c_calls.specs.declared.codes.TheConstants.{OK, TOO_LARGE, OUT_OF_SYNC, NO_MEMORY, ROOM_TOO_SMALL, PACKET_WAITS}
use Rattle.mysql_wire_c_calls.specs.Side.{Side, ConnectionState}
use Rattle.mysql_wire_c_calls.specs.Answers.{IsNextPacket, HasPacket, Waits, Stops, LosesSync}

-- this holds of two connections, where both are open
abbrev pub BothStates : Option ConnectionState → Option ConnectionState
    → (ConnectionState → ConnectionState → Type 0) → Type 0
BothStates old new holds = IfSome old (λ before. IfSome new (λ after. holds before after))

-- and this of their sides
abbrev pub Both : Option ConnectionState → Option ConnectionState → (Side → Side → Type 0) → Type 0
Both old new holds = BothStates old new (λ before after. holds before.side after.side)

-- the limit is set where all headers that came were judged under the old one
pub record SetsLimit (limit : ℕ) (answer : ℤ) (before after : Side) : Type 0 where
  pub set : answer ≡ OK → (between : Side)
      × (Waits before between ⊎ Stops before PacketTooLarge between)
      × (after ≡ record between { state = record between.state { limit = limit } })
  pub packet : answer ≡ PACKET_WAITS
      → IfSome after.lent (λ packet. IsNextPacket before packet after.state)
  pub lent : answer ≡ PACKET_WAITS → IsSome after.lent × (after.is_lost ≡ false)
  pub found : HasPacket before → answer ≡ PACKET_WAITS
  pub memory : answer ≡ NO_MEMORY → Stops before OutOfMemory after
  pub lost : answer ≡ OUT_OF_SYNC → LosesSync before after
  pub answers : (answer ≡ OK) ⊎ (answer ≡ PACKET_WAITS) ⊎ (answer ≡ NO_MEMORY)
      ⊎ (answer ≡ OUT_OF_SYNC)
  pub stays_lost : before.is_lost ≡ true → answer ≡ OUT_OF_SYNC
  pub refused : (answer ≡ OK) ⊎ (after.state.limit ≡ before.state.limit)
  pub pending : after.pending ≡ before.pending

abbrev pub unread_count : Side → ℕ
unread_count side = min (length side.state.unread + length side.state.held) (2 ^ 64 - 1)

pub record Encodes (payload : List ℕ) (answer : ℤ) (before after : Side) : Type 0 where
  pub encoded : answer ≡ OK → after ≡ record before {
    state = record before.state { id = next_id before.state.id payload };
    pending = before.pending ++ framing before.state.id payload;
  }
  pub within : answer ≡ OK → length payload ≤ before.state.limit
  pub too_large : answer ≡ TOO_LARGE → before.state.limit < length payload
  pub refused : (answer ≡ OK) ⊎ (after ≡ before)
  pub answers : (answer ≡ OK) ⊎ (answer ≡ TOO_LARGE) ⊎ (answer ≡ NO_MEMORY)

-- the payload is framed at the front of the room, as `Encodes` numbers it; `written` is how many
-- bytes that takes
pub record EncodesTo (payload old_room room : List ℕ) (written : ℕ) (answer : ℤ)
    (before after : Side) : Type 0 where
  pub encoded : answer ≡ OK → (room ≡ framing before.state.id payload ++ drop written old_room)
      × (after ≡ record before {
        state = record before.state { id = next_id before.state.id payload };
      })
  pub len : (answer ≡ OK) ⊎ (answer ≡ ROOM_TOO_SMALL)
      → written ≡ length (framing before.state.id payload)
  pub fits : answer ≡ OK → (length payload ≤ before.state.limit) × (written ≤ length old_room)
  pub small : answer ≡ ROOM_TOO_SMALL → length old_room < written
  pub too_large : answer ≡ TOO_LARGE → (before.state.limit < length payload)
      ⊎ (2 ^ 64 ≤ length (framing before.state.id payload))
  pub refused : (answer ≡ OK) ⊎ ((after ≡ before) × (room ≡ old_room))
  pub none : (answer ≡ OK) ⊎ (answer ≡ ROOM_TOO_SMALL) ⊎ (written ≡ 0)
  pub answers : (answer ≡ OK) ⊎ (answer ≡ ROOM_TOO_SMALL) ⊎ (answer ≡ TOO_LARGE)
      ⊎ (answer ≡ NO_MEMORY)

-- this is the header of a packet of this many bytes, which the next one is: its framing is the header
-- and the payload
pub record EncodesHeader (len : ℕ) (old_header header : List ℕ) (answer : ℤ) (before after : Side)
    : Type 0 where
  pub encoded : answer ≡ OK → (payload : List ℕ) → length payload ≡ len
      → (framing before.state.id payload ≡ header ++ payload)
      × (after ≡ record before {
        state = record before.state { id = next_id before.state.id payload };
      })
  pub next : answer ≡ OK
      → after ≡ record before { state = record before.state { id = (before.state.id + 1) % 256 } }
  pub fits : answer ≡ OK → (len ≤ before.state.limit) × (len < max_payload)
  pub too_large : answer ≡ TOO_LARGE → (before.state.limit < len) ⊎ (max_payload ≤ len)
  pub memory : answer ≡ NO_MEMORY → IsSome before.lent
  pub refused : (answer ≡ OK) ⊎ ((after ≡ before) × (header ≡ old_header))
  pub answers : (answer ≡ OK) ⊎ (answer ≡ TOO_LARGE) ⊎ (answer ≡ NO_MEMORY)

-- this many of the bytes that wait go
pub record Sends (count : ℕ) (before after : Side) : Type 0 where
  pub bound : count ≤ length before.pending
  pub rest : after ≡ record before { pending = drop count before.pending }

-- they are put at the front of the room: as many as it has place for
abbrev pub MovesPending : ℕ → List ℕ → List ℕ → Side → Side → Type 0
MovesPending count old new before after =
    (count ≡ min (length before.pending) (length old))
    × (new ≡ take count before.pending ++ drop count old) × Sends count before after

-- the next packet gets this number
pub record SetsId (id : ℕ) (answer : ℤ) (before after : Side) : Type 0 where
  pub set : answer ≡ OK → after ≡ record before { state = record before.state { id = id } }
  pub refused : (answer ≡ OK) ⊎ (after ≡ before)
  pub memory : answer ≡ NO_MEMORY → IsSome before.lent
  pub answers : (answer ≡ OK) ⊎ (answer ≡ NO_MEMORY)

pub record Resets (answer : ℤ) (before after : Side) : Type 0 where
  pub reset : answer ≡ OK → after ≡ record before { state = record before.state { id = 0 } }
  pub refused : (answer ≡ OK) ⊎ (after ≡ before)
  pub memory : answer ≡ NO_MEMORY → IsSome before.lent
  pub answers : (answer ≡ OK) ⊎ (answer ≡ NO_MEMORY)

-- the number of the next packet
abbrev pub Numbers : ℤ → Side → Type 0
Numbers answer side =
    (side.is_lost ≡ false → answer ≡ pos side.state.id)
    × (side.is_lost ≡ true → answer ≡ OUT_OF_SYNC)

-- the number before it: that of the chunk which was lent, taken or sent last
abbrev pub LastNumbers : ℤ → Side → Type 0
LastNumbers answer side =
    (side.is_lost ≡ false → answer ≡ pos ((side.state.id + 255) % 256))
    × (side.is_lost ≡ true → answer ≡ OUT_OF_SYNC)

-- the stream is lost, or no packet is lent, and the header in front bears another number than the
-- expected one
abbrev pub JudgesFront : ℤ → Side → Type 0
JudgesFront answer side =
    ((answer ≡ OUT_OF_SYNC) ↔ ((side.is_lost ≡ true) ⊎ ((side.is_lost ≡ false)
    × (side.lent ≡ None) × IsOutOfStep side.state.id side.state.unread)))
    × ((answer ≡ OK) ⊎ (answer ≡ OUT_OF_SYNC))

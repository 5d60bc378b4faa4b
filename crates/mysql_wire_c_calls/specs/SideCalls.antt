-- What each call for the packets that come does, by its answer. Each answer but these is none that it
-- gives.
use Rattle.std.specs.Prelude.{◌≡◌, ℕ, ℤ, ◌<◌, ◌≤◌, ◌⊎◌, List, length, take, drop, None, IsSome, IfSome, true, false}
use Rattle.wire_codec.specs.declared.codec.error.PacketCodecError.TheVariants.{OutOfMemory, PacketTooLarge}
use Rattle.wire_codec.specs.Laws.{appended}
use Rattle.mysql_wire_c_calls.specs.declared.codes.TheConstants.{OK, WAITS, PACKET, TOO_LARGE, OUT_OF_SYNC, NO_MEMORY, ROOM_TOO_SMALL, NO_PACKET}
use Rattle.mysql_wire_c_calls.specs.Side.{Side, ConnectionState}
use Rattle.mysql_wire_c_calls.specs.Answers.{IsNextPacket, HasPacket, Waits, Stops, LosesSync}

pub record Feeds (bytes : List ℕ) (answer : ℤ) (before after : Side) : Type 0 where
  pub fed : answer ≡ OK → (before.is_lost ≡ false)
      × (after ≡ record before { state = appended before.state bytes })
  pub refused : (answer ≡ OK) ⊎ (after ≡ before)
  pub lost : answer ≡ OUT_OF_SYNC → before.is_lost ≡ true
  pub stays_lost : before.is_lost ≡ true → answer ≡ OUT_OF_SYNC
  pub answers : (answer ≡ OK) ⊎ (answer ≡ OUT_OF_SYNC) ⊎ (answer ≡ NO_MEMORY)

pub record Peeks (answer : ℤ) (before after : Side) : Type 0 where
  pub packet : answer ≡ PACKET → IfSome after.lent (λ packet. IsNextPacket before packet after.state)
  pub lent : answer ≡ PACKET → IsSome after.lent × (after.is_lost ≡ false)
  pub waits : answer ≡ WAITS → Waits before after
  pub too_large : answer ≡ TOO_LARGE → Stops before PacketTooLarge after
  pub memory : answer ≡ NO_MEMORY → Stops before OutOfMemory after
  pub lost : answer ≡ OUT_OF_SYNC → LosesSync before after
  pub lends_again : IsSome before.lent → answer ≡ PACKET
  pub stays_lost : before.is_lost ≡ true → answer ≡ OUT_OF_SYNC
  pub answers : (answer ≡ PACKET) ⊎ (answer ≡ WAITS) ⊎ (answer ≡ TOO_LARGE)
      ⊎ (answer ≡ NO_MEMORY) ⊎ (answer ≡ OUT_OF_SYNC)
  pub limit : after.state.limit ≡ before.state.limit
  pub pending : after.pending ≡ before.pending

-- a whole packet in front is lent where it came, and one that is lent stays where it lies
pub record LendsInPlace (answer : ℤ) (before after : ConnectionState) : Type 0 where
  pub found : HasPacket before.side → (answer ≡ PACKET) × (after.is_in_place ≡ true)
  pub again : IsSome before.side.lent → after.is_in_place ≡ before.is_in_place

pub record Takes (answer : ℤ) (before after : Side) : Type 0 where
  pub taken : answer ≡ OK → IsSome before.lent × (after ≡ record before { lent = None })
  pub none : answer ≡ NO_PACKET → (before.lent ≡ None) × (after ≡ before)
  pub answers : (answer ≡ OK) ⊎ (answer ≡ NO_PACKET)

-- the packet is copied to the front of the room, which has this many bytes of it then, and is taken
pub record CopiesNext (old_room room : List ℕ) (len : ℕ) (answer : ℤ) (before after : Side)
    : Type 0 where
  pub packet : answer ≡ PACKET → (after.lent ≡ None) × (after.is_lost ≡ false)
      × (len ≤ length room) × IsNextPacket before (take len room) after.state
  pub small : answer ≡ ROOM_TOO_SMALL → IfSome after.lent (λ packet.
      IsNextPacket before packet after.state × (len ≡ length packet) × (length old_room < len))
  pub lent : answer ≡ ROOM_TOO_SMALL → IsSome after.lent × (after.is_lost ≡ false)
  pub found : HasPacket before → (answer ≡ PACKET) ⊎ (answer ≡ ROOM_TOO_SMALL)
  pub waits : answer ≡ WAITS → Waits before after
  pub too_large : answer ≡ TOO_LARGE → Stops before PacketTooLarge after
  pub memory : answer ≡ NO_MEMORY → Stops before OutOfMemory after
  pub lost : answer ≡ OUT_OF_SYNC → LosesSync before after
  pub answers : (answer ≡ PACKET) ⊎ (answer ≡ ROOM_TOO_SMALL) ⊎ (answer ≡ WAITS)
      ⊎ (answer ≡ TOO_LARGE) ⊎ (answer ≡ NO_MEMORY) ⊎ (answer ≡ OUT_OF_SYNC)
  pub stays_lost : before.is_lost ≡ true → answer ≡ OUT_OF_SYNC
  pub empty : (answer ≡ PACKET) ⊎ (answer ≡ ROOM_TOO_SMALL) ⊎ (len ≡ 0)
  pub limit : after.state.limit ≡ before.state.limit
  pub pending : after.pending ≡ before.pending
  pub same_room : (answer ≡ PACKET) ⊎ (room ≡ old_room)
  pub rest_of_room : answer ≡ PACKET → drop len room ≡ drop len old_room

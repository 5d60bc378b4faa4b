-- What the calls of a connection do to its side.
use Rattle.std.specs.Prelude.{◌≡◌, ℕ, ◌⊎◌, List, [], None, MatchOption, Ok, Err, true, false}
use Rattle.wire_codec.specs.declared.codec.error.PacketCodecError.{PacketCodecError}
use Rattle.wire_codec.specs.declared.codec.error.PacketCodecError.TheVariants.{PacketsOutOfSync}
use Rattle.wire_codec.specs.Codec.{CodecState, Stands}
use Rattle.wire_codec.specs.InPlace.{HasFront}
use Rattle.wire_codec.specs.LimitedRuns.{DecodesAligned}
use Rattle.wire_codec.specs.Laws.{empty_state}
use Rattle.mysql_wire_c_calls.specs.Side.{Side, ConnectionState}

-- a connection to which nothing has come, with this limit
abbrev pub new_side : ℕ → Side
new_side limit =
    record { is_lost = false; lent = None; state = empty_state 0 limit; pending = [] }

abbrev pub new_connection : ℕ → ConnectionState
new_connection limit = record { side = new_side limit; is_in_place = false }

-- a state with this packet held
abbrev pub holding : List ℕ → CodecState → CodecState
holding packet state = record state { held = packet }

-- the packet is the one that was lent, or else the next one, as one call of the codec's `decode`
-- has it; and this stands after it, with nothing held
abbrev pub IsNextPacket : Side → List ℕ → CodecState → Type 0
IsNextPacket before packet behind =
    (behind.held ≡ [])
    × MatchOption before.lent (DecodesAligned before.state (Ok true) (holding packet behind))
    (λ lent. (packet ≡ lent) × (behind ≡ before.state))

-- no packet is lent, the codec stands, and the chunk in front is a whole packet
abbrev pub HasPacket : Side → Type 0
HasPacket side =
    (side.is_lost ≡ false) × (side.lent ≡ None) × Stands side.state × HasFront side.state

-- no packet was lent, and none is; one call of `decode` asks for more bytes, and leaves this
abbrev pub Waits : Side → Side → Type 0
Waits before after =
    (before.lent ≡ None) × (after.lent ≡ None) × (after.is_lost ≡ false)
    × DecodesAligned before.state (Ok false) after.state

-- the same, and the call answers this error
abbrev pub Stops : Side → PacketCodecError → Side → Type 0
Stops before error after =
    (before.lent ≡ None) × (after.lent ≡ None) × (after.is_lost ≡ false)
    × DecodesAligned before.state (Err error) after.state

-- the connection was lost before, and nothing changes, or it is lost by this call
abbrev pub LosesSync : Side → Side → Type 0
LosesSync before after =
    (after.is_lost ≡ true) × (((before.is_lost ≡ true) × (after ≡ before))
    ⊎ ((before.is_lost ≡ false) × (before.lent ≡ None) × (after.lent ≡ None)
    × DecodesAligned before.state (Err PacketsOutOfSync) after.state))

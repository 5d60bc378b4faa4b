-- One side of a connection, as contracts see it.
use Rattle.std.specs.Prelude.{ℕ, List, [], Option, Some, None, Bool, true, false, ⊤}
use Rattle.wire_codec.specs.Codec.{CodecState}
use Rattle.wire_codec.specs.LimitedRuns.{Aligned}
use Rattle.wire_codec.specs.InPlace.{HasFront, front_payload, behind_front}
use Rattle.mysql_wire_c_calls.specs.declared.side.Front.{Front}
use Rattle.mysql_wire_c_calls.specs.declared.side.Front.TheVariants.{Unfinished, InPlace, Copied, Lost}

pub record Side : Type 0 where
  -- a packet came with another number than the expected one, and the stream is lost
  pub is_lost : Bool
  -- the packet that is lent, and not taken yet
  pub lent : Option (List ℕ)
  -- the codec, and what is to be read, after the packet that is lent
  pub state : CodecState
  -- the bytes that wait to be sent
  pub pending : List ℕ

-- a state in which nothing is held
abbrev pub emptied : CodecState → CodecState
emptied state = record state { held = [] }

abbrev pub is_lost_at : Front → Bool
is_lost_at Lost = true
is_lost_at other = false

-- the packet that is lent lies in front of the bytes to be read, or is what is held
abbrev pub lent_at : Front → CodecState → Option (List ℕ)
lent_at Unfinished state = None
lent_at InPlace state = Some (front_payload state.unread)
lent_at Copied state = Some state.held
lent_at Lost state = None

-- what stands after it
abbrev pub behind_lent : Front → CodecState → CodecState
behind_lent Unfinished state = state
behind_lent InPlace state = emptied (behind_front state)
behind_lent Copied state = emptied state
behind_lent Lost state = state

abbrev pub side_of : Front → CodecState → List ℕ → Side
side_of front state pending = record {
  is_lost = is_lost_at front;
  lent = lent_at front state;
  state = behind_lent front state;
  pending = pending;
}

-- a connection goes on at its buffers, or is lost
abbrev pub IsReady : Front → CodecState → Type 0
IsReady Unfinished state = Aligned state
IsReady InPlace state = HasFront state
IsReady Copied state = Aligned (emptied state)
IsReady Lost state = ⊤

-- the packet that is lent lies where it came
abbrev pub is_in_place_at : Front → Bool
is_in_place_at InPlace = true
is_in_place_at other = false

-- a connection: its side, and whether the packet that is lent lies where it came
pub record ConnectionState : Type 0 where
  pub side : Side
  pub is_in_place : Bool

abbrev pub connection_of : Front → CodecState → List ℕ → ConnectionState
connection_of front state pending =
    record { side = side_of front state pending; is_in_place = is_in_place_at front }

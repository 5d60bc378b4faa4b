-- A packet where it lies: the whole of it in one chunk, at the front of the bytes to be read.
use Rattle.std.specs.Prelude.{◌≡◌, ℕ, ◌+◌, ◌%◌, ◌<◌, ◌≤◌, List, [], length, take, drop, slice_index, None, MatchOption, ⊤}
use Rattle.wire_codec.specs.Framing.{max_payload}
use Rattle.wire_codec.specs.Delivery.{chunk_len}
use Rattle.wire_codec.specs.Codec.{CodecState}
use Rattle.wire_codec.specs.LimitedRuns.{Aligned}

-- the payload bytes of the chunk in front
abbrev pub front_payload : List ℕ → List ℕ
front_payload src = take (chunk_len src) (drop 4 src)

-- the codec goes on here, nothing is held, and the chunk in front is a whole packet: it has come
-- whole, is shorter than a full one, bears the expected id and is within the limit; a remembered
-- header isn't judged again
abbrev pub HasFront : CodecState → Type 0
HasFront state =
    Aligned state × (state.held ≡ []) × (4 ≤ length state.unread)
    × (4 + chunk_len state.unread ≤ length state.unread)
    × (chunk_len state.unread < max_payload) × (slice_index state.unread 3 ≡ state.id)
    × MatchOption state.header (chunk_len state.unread ≤ state.limit) (λ h. ⊤)

-- what stands after the packet in front, as `decode` would leave it, with the packet in `dst`
abbrev pub behind_front : CodecState → CodecState
behind_front state = record {
  limit = state.limit;
  id = (state.id + 1) % 256;
  header = None;
  unread = drop (4 + chunk_len state.unread) state.unread;
  held = front_payload state.unread;
}

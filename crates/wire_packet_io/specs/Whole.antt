-- A packet that lies whole in one chunk, in front of what was read.
use Rattle.std.specs.Prelude.{ℕ, ◌+◌, ◌%◌, ◌<◌, ◌≤◌, List, [], ◌∷◌, ◌++◌, length, take, drop, true}
use Rattle.wire_codec.specs.declared.codec.packet.PacketCodec.{PacketCodec}
use Rattle.wire_codec.specs.Framing.{max_payload, header}
use Rattle.wire_span.specs.Spans.{SpanState, EatsSpans, SpansOn}
use Rattle.wire_packet_io.specs.Copying.{in_front}

-- the bytes of the packet in front, where it has this many
abbrev pub payload_of : ℕ → List ℕ → List ℕ
payload_of len src = take len (drop 4 src)

-- between two packets, with this id next
abbrev pub in_front_with : PacketCodec → ℕ → SpanState
in_front_with codec id = record (in_front codec) { id = id }

-- a packet of this many bytes lies whole in one chunk in front, the codec accepts it, and this id is
-- the next one after it
pub record LiesWhole (codec : PacketCodec) (src : List ℕ) (len next : ℕ) : Type 0 where
  pub there : 4 + len ≤ length src
  pub small : len ≤ max_payload
  pub eats : EatsSpans (in_front codec) src ((payload_of len src, true) ∷ []) (drop (4 + len) src)
      (in_front_with codec next)
  -- as it goes out with any id
  pub goes : (id : ℕ) → id < 256 → SpansOn (in_front_with codec id)
      (header len id ++ payload_of len src) ((payload_of len src, true) ∷ [])
      (in_front_with codec ((id + 1) % 256))

-- Laws of packets that go out as their bytes come.
use Rattle.std.specs.Prelude.{◌≡◌, ℕ, List, [], ◌∷◌, ◌++◌, length}
use Rattle.wire_codec.specs.Framing.{framing, next_id, stream, id_after}
use Rattle.wire_span.specs.Framed.{FrameState, begun, IsBetweenPackets, to_send, FramesOn}

-- calls one after another are one call over all bytes that they ate
abbrev pub JoinedFrames : Type 0
JoinedFrames =
    (before between after : FrameState) (eaten out more others : List ℕ)
    → FramesOn before eaten out between → FramesOn between more others after
    → FramesOn before (eaten ++ more) (out ++ others) after

-- no bytes came, and none went
abbrev pub NothingFramed : Type 0
NothingFramed = (state : FrameState) → FramesOn state [] [] state

-- what went out of a packet is the front of the framing of each payload that begins with the bytes
-- that came and has the length that was stated; the rest of that framing goes out still
abbrev pub FramesFront : Type 0
FramesFront =
    (id len : ℕ) (came out rest : List ℕ) (after : FrameState)
    → FramesOn (begun id len) came out after → length (came ++ rest) ≡ len
    → framing id (came ++ rest) ≡ out ++ to_send after rest

-- once all of it went, the bytes that came are the payload, of the length that was stated, what
-- went is its framing, and the id is the one after it
abbrev pub FramedPacket : Type 0
FramedPacket =
    (id len : ℕ) (payload out : List ℕ) (after : FrameState)
    → FramesOn (begun id len) payload out after → IsBetweenPackets after
    → (length payload ≡ len) × (out ≡ framing id payload) × (after.id ≡ next_id id payload)

-- after other packets, what went out is the stream of all payloads
abbrev pub FramedStream : Type 0
FramedStream =
    (first len : ℕ) (payloads : List (List ℕ)) (payload out : List ℕ) (after : FrameState)
    → FramesOn (begun (id_after first payloads) len) payload out after → IsBetweenPackets after
    → (stream first payloads ++ out ≡ stream first (payloads ++ payload ∷ []))
    × (after.id ≡ id_after first (payloads ++ payload ∷ []))

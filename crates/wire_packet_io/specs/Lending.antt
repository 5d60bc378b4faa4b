-- A packet that a reader found, and lends.
use Rattle.std.specs.Prelude.{◌≡◌, ℕ, ◌+◌, ◌≤◌, List, length, drop, Vec, Option, Some, None, Result, Ok, Err, Bool, ⊤}
use Rattle.wire_packet_io.specs.declared.error.PacketIoError.{PacketIoError}
use Rattle.wire_packet_io.specs.declared.error.PacketIoError.TheVariants.{OutOfMemory}
use Rattle.wire_packet_io.specs.declared.input.Found.{Found}
use Rattle.wire_packet_io.specs.declared.input.Input.{Input}
use Rattle.wire_packet_io.specs.declared.input.Found.TheVariants.{InFront, Copied}
use Rattle.wire_codec.specs.Delivery.{chunk_len}
use Rattle.wire_codec.specs.Codec.{CodecState, codec_state}
use Rattle.wire_codec.specs.InPlace.{front_payload}
use Rattle.wire_codec.specs.declared.codec.packet.PacketCodec.{PacketCodec}
use Rattle.wire_codec.specs.declared.codec.packet.skip.Skipped.{Skipped}
use Rattle.wire_span.specs.declared.span.SpanDecoder.{SpanDecoder}
use Rattle.wire_packet_io.specs.PacketIo.{Answer, NextPacket}

-- a reader of packets, as contracts see it
pub record Reading (R : Type 0) : Type 0 where
  -- the reader below
  pub reader : R
  -- what was read, after the packet that is lent
  pub unread : List ℕ
  -- the full chunks of an unfinished packet
  pub held : List ℕ
  -- the packet that is lent, and not taken yet
  pub lent : Option (List ℕ)
  -- a chunk bore another id than the expected one, and the stream is lost
  pub is_lost : Bool
  -- how much was dropped of a packet that is being skipped: the reader is lost until it has ended
  pub skipped : Option Skipped
  -- where it is in a packet that is being copied: the reader is lost until it has ended
  pub copied : Option SpanDecoder
  -- how many reads were made
  pub reads : ℕ

-- a codec at a reader of packets
abbrev pub reading_state : {R : Type 0} → PacketCodec → Reading R → CodecState
reading_state codec reading = codec_state codec reading.unread reading.held

-- a call of `next_packet`: the reader with its codec, the answer, and both after it
abbrev pub ReadsPacket : {R : Type 0} → (R → Option (List ℕ)) → PacketCodec → Reading R → Answer
    → PacketCodec → Reading R → Type 0
ReadsPacket remaining codec old answer behind new =
    NextPacket (reading_state codec old) (remaining old.reader) (remaining new.reader)
    old.reads new.reads answer (reading_state behind new)

-- what was found, if the answer has something
abbrev pub found_in : {A : Type 0} → Result (Option (Found A)) PacketIoError → Option (Found A)
found_in (Ok found) = found
found_in (Err error) = None

-- the packet that was found, where these bytes were read
abbrev pub packet_of : {A : Type 0} → Option (Found A) → List ℕ → Option (List ℕ)
packet_of (Some (InFront chunk)) src = Some (front_payload src)
packet_of (Some (Copied packet)) src = Some packet.items
packet_of None src = None

-- the bytes after it
abbrev pub unread_behind : {A : Type 0} → Option (Found A) → List ℕ → List ℕ
unread_behind (Some (InFront chunk)) src = drop (4 + chunk_len src) src
unread_behind (Some (Copied packet)) src = src
unread_behind None src = src

-- a reader of packets that lends what was found in what it read
abbrev pub lender : {R A : Type 0} → Option (Found A) → Input R A → Reading R
lender found input =
    record {
      reader = input.reader;
      unread = unread_behind found input.src.items;
      held = input.dst.items;
      lent = packet_of found input.src.items;
      is_lost = input.lost;
      skipped = None;
      copied = None;
      reads = input.reads;
    }

-- a codec at it
abbrev pub input_state : {R A : Type 0} → PacketCodec → Option (Found A) → Input R A → CodecState
input_state codec found input = reading_state codec (lender found input)

-- where it lies in front, its chunk has come whole
abbrev pub IsThere : {A : Type 0} → Option (Found A) → List ℕ → Type 0
IsThere (Some (InFront chunk)) src = (chunk ≡ 4 + chunk_len src) × (chunk ≤ length src)
IsThere (Some (Copied packet)) src = ⊤
IsThere None src = ⊤

-- it doesn't lie in front
abbrev pub IsCopied : {A : Type 0} → Option (Found A) → Type 0
IsCopied (Some (InFront chunk)) = ⊥
IsCopied (Some (Copied packet)) = ⊤
IsCopied None = ⊤

-- an answer with the packet's bytes
abbrev pub answer_over : {A : Type 0} → Result (Option (Found A)) PacketIoError → List ℕ → Answer
answer_over (Ok found) src = Ok (packet_of found src)
answer_over (Err error) src = Err error

-- the same for a packet in a vector
abbrev pub answer_of : {A : Type 0} → Result (Option (Vec ℕ A)) PacketIoError → Answer
answer_of (Ok (Some packet)) = Ok (Some packet.items)
answer_of (Ok None) = Ok None
answer_of (Err error) = Err error

-- the answer where a packet is lent
abbrev pub answer_lent : Result Bool PacketIoError → Option (List ℕ) → Answer
answer_lent (Ok ready) lent = Ok lent
answer_lent (Err error) lent = Err error

-- a packet that is lent is handed out as it is, or stays lent where memory is refused
abbrev pub HandsOutLent : {R : Type 0} → Answer → Reading R → Reading R → Type 0
HandsOutLent (Ok packet) before after =
    (packet ≡ before.lent) × (after ≡ record before { lent = None })
HandsOutLent (Err OutOfMemory) before after = after ≡ before
HandsOutLent (Err other) before after = ⊥

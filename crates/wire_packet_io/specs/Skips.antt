-- A packet that a reader skips.
use Rattle.std.specs.Prelude.{◌≡◌, ℕ, List, length, Option, Some, None, MatchOption, Result, Ok, Err, Bool, true, false}
use Rattle.wire_codec.specs.Codec.{CodecState}
use Rattle.wire_codec.specs.Skipping.{WouldStand, IsBehind, MaySkip}
use Rattle.wire_codec.specs.declared.codec.packet.PacketCodec.{PacketCodec}
use Rattle.wire_codec.specs.declared.codec.packet.skip.Skipped.{Skipped}
use Rattle.wire_codec.specs.declared.codec.error.PacketCodecError.{PacketCodecError}
use Rattle.wire_codec.specs.declared.codec.error.PacketCodecError.TheVariants as codec
use Rattle.wire_packet_io.specs.declared.error.PacketIoError.{PacketIoError}
use Rattle.wire_packet_io.specs.declared.error.PacketIoError.TheVariants.{Io, PacketTooLarge, PacketsOutOfSync, OutOfMemory}
use Rattle.wire_packet_io.specs.PacketIo.{Answer, FitsAt, NextPacket}
use Rattle.wire_packet_io.specs.Lending.{Reading, reading_state}

-- the answer of `next_packet` where a packet is skipped so
abbrev pub SkipsFor : Result Bool PacketIoError → Answer → Type 0
SkipsFor (Ok true) answer = (packet : List ℕ) × (answer ≡ Ok (Some packet))
SkipsFor (Ok false) answer = answer ≡ Ok None
SkipsFor (Err error) answer = answer ≡ Err error

-- where the codec is left: after the packet, or where it would stand had the bytes been kept
abbrev pub LeavesNext : Result Bool PacketIoError → Skipped → PacketCodec → List ℕ → CodecState → Type 0
LeavesNext (Ok true) skipped codec unread after = IsBehind skipped codec unread after
LeavesNext (Err PacketsOutOfSync) skipped codec unread after = IsBehind skipped codec unread after
LeavesNext other skipped codec unread after = WouldStand skipped codec unread after

-- how much of the packet was dropped that is being skipped: what is held is dropped at the start
abbrev pub skipped_or : Option Skipped → ℕ → Skipped
skipped_or None held = record { held = held; begun = None }
skipped_or (Some skipped) held = skipped

abbrev pub skipped_at : {R : Type 0} → Reading R → Skipped
skipped_at reading = skipped_or reading.skipped (length reading.held)

-- a reader that dropped so much of a packet
abbrev pub skipping : {R : Type 0} → Skipped → Reading R → Reading R
skipping skipped reading = record reading { skipped = Some skipped }

-- a packet is skipped: what `next_packet` would do, had the bytes that were dropped been kept
abbrev pub SkipsNext : {R : Type 0} → (R → Option (List ℕ)) → CodecState → Reading R
    → Result Bool PacketIoError → PacketCodec → Reading R → Type 0
SkipsNext remaining full old result behind new =
    (answer : Answer) × (after : CodecState) × SkipsFor result answer
    × NextPacket full (remaining old.reader) (remaining new.reader) old.reads new.reads answer after
    × LeavesNext result (skipped_at new) behind new.unread after

-- the same in the midst of a packet, wherever the codec would stand
abbrev pub SkipsOn : {R : Type 0} → (R → Option (List ℕ)) → PacketCodec → Reading R
    → Result Bool PacketIoError → PacketCodec → Reading R → Type 0
SkipsOn remaining codec old result behind new =
    (full : CodecState) → WouldStand (skipped_at old) codec old.unread full
    → SkipsNext remaining full old result behind new

-- a packet may be skipped with this codec
abbrev pub CanSkip : {R : Type 0} → PacketCodec → Reading R → Type 0
CanSkip codec reading =
    MatchOption reading.skipped (FitsAt reading.is_lost (reading_state codec reading))
    (λ skipped. MaySkip skipped codec reading.unread)

-- the reader's name for a refusal of the codec
abbrev pub IsRefusal : PacketCodecError → PacketIoError → Type 0
IsRefusal codec.PacketTooLarge error = error ≡ PacketTooLarge
IsRefusal codec.PacketsOutOfSync error = error ≡ PacketsOutOfSync
IsRefusal codec.OutOfMemory error = error ≡ OutOfMemory
IsRefusal (codec.Io cause) error = error ≡ Io cause

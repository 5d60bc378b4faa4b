-- Packets from a reader, and to a writer.
use Rattle.std.specs.Prelude.{◌≡◌, ◌≢◌, ℕ, ◌+◌, ◌*◌, ◌/◌, ◌-◌, ◌^◌, ◌<◌, ◌≤◌, ◌⊎◌, List, [], ◌∷◌, ◌++◌, length, take, min, All, Option, Some, None, Result, Ok, Err, Bool, true, false, IsTrue, IsFalse, ⊤}
use Rattle.std.specs.List.{flat_map}
use Rattle.std.specs.Io.KnownBytes.{Consumes, IsAtEnd}
use Rattle.wire_codec.specs.declared.codec.error.PacketCodecError.TheVariants as codec
use Rattle.wire_packet_io.specs.declared.error.PacketIoError.{PacketIoError}
use Rattle.wire_packet_io.specs.declared.error.PacketIoError.TheVariants.{Io, UnexpectedEnd, WriteZero, PacketTooLarge, PacketsOutOfSync, OutOfMemory}
use Rattle.wire_codec.specs.Framing.{max_payload}
use Rattle.wire_codec.specs.Codec.{CodecState, first_id, input_of, Stands, DecodesFrom, DecodesPacket}
use Rattle.wire_codec.specs.Runs.{RunsTo}

-- what a call answers: a packet, that the input ended between two packets, or a refusal
abbrev pub Answer : Type 0
Answer = Result (Option (List ℕ)) PacketIoError

-- the most bytes of one read
abbrev pub read_size : ℕ
read_size = 8192

-- a reader at a codec: it is lost, or the codec stands at its buffers
abbrev pub FitsAt : Bool → CodecState → Type 0
FitsAt lost state = IsTrue lost ⊎ Stands state

-- the bytes of reads, one after another
abbrev pub joined_reads : List (List ℕ) → List ℕ
joined_reads reads = flat_map (λ bytes. bytes) reads

-- what a call answers, from this state and with these bytes more, and what stands afterwards
abbrev pub ReadsTo : CodecState → List ℕ → Answer → CodecState → Type 0
ReadsTo before more (Ok (Some packet)) after =
    DecodesFrom (first_id before) (input_of before
    ++ more) before.held before.limit (Ok true) after.id after.header after.unread packet
    × (after.held ≡ [])
-- the input ended between two packets
ReadsTo before more (Ok None) after = RunsTo before more (Ok tt) [] after
    × (input_of before ++ more ≡ [])
-- the input ended inside a packet
ReadsTo before more (Err UnexpectedEnd) after = RunsTo before more (Ok tt) [] after
    × (input_of before ++ more ≢ [])
ReadsTo before more (Err (Io error)) after = RunsTo before more (Ok tt) [] after
ReadsTo before more (Err PacketTooLarge) after = RunsTo before more (Err codec.PacketTooLarge) []
    after
ReadsTo before more (Err PacketsOutOfSync) after = RunsTo before more (Err codec.PacketsOutOfSync)
    [] after
ReadsTo before more (Err OutOfMemory) after = RunsTo before more (Err codec.OutOfMemory) [] after
ReadsTo before more (Err WriteZero) after = ⊥

-- the last of these reads gave nothing
abbrev pub EndsEmpty : List (List ℕ) → Type 0
EndsEmpty reads = (before : List (List ℕ)) × (reads ≡ before ++ [] ∷ [])

-- the last read gave nothing, where the call says that the input ended
abbrev pub SeesEnd : Answer → List (List ℕ) → Option (List ℕ) → Type 0
SeesEnd (Ok None) reads left = EndsEmpty reads × IsAtEnd left
SeesEnd (Err UnexpectedEnd) reads left = EndsEmpty reads × IsAtEnd left
SeesEnd other reads left = ⊤

-- over these bytes no packet is whole, and more are needed
abbrev pub WaitsAlone : CodecState → List ℕ → Type 0
WaitsAlone before more = (after : CodecState) × RunsTo before more (Ok tt) [] after

-- the most reads of one call
abbrev pub most_reads : ℕ → ℕ
most_reads limit = limit + 4 * (limit / max_payload + 1)

-- a count of reads rose by this many, or stays at the end of its range
abbrev pub CountsUp : ℕ → ℕ → ℕ → Type 0
CountsUp old new count = (count ≡ 0 → new ≡ old)
    × (0 < count → new ≡ min (old + count) (2 ^ 64 - 1))

-- a call of `next_packet` by a reader that isn't lost: its reads one by one
pub record NextPacket (before : CodecState) (unread left : Option (List ℕ))
    (old_reads new_reads : ℕ) (answer : Answer) (after : CodecState) : Type 0 where
  pub reads : List (List ℕ)
  pub consumed : Consumes unread left (joined_reads reads)
  pub answers : ReadsTo before (joined_reads reads) answer after
  pub sees_end : SeesEnd answer reads left
  -- each read is made where no packet is whole, and more bytes are needed
  pub waits : (j : ℕ) → j < length reads → WaitsAlone before (joined_reads (take j reads))
  pub counted : CountsUp old_reads new_reads (length reads)
  pub few : length reads ≤ most_reads before.limit
  pub small : All (λ read. length read ≤ read_size) reads

-- a read failed, or memory for it was refused, and then none was made
abbrev pub ReadFails : PacketIoError → ℕ → ℕ → Type 0
ReadFails (Io error) old_reads new_reads = new_reads ≡ min (old_reads + 1) (2 ^ 64 - 1)
ReadFails OutOfMemory old_reads new_reads = new_reads ≡ old_reads
ReadFails other old_reads new_reads = ⊥

-- what one decode makes of what was read, and whether the reader is lost by it
abbrev pub TakesPacket : CodecState → Answer → Bool → CodecState → Type 0
TakesPacket before (Ok (Some packet)) lost after =
    DecodesFrom (first_id before) (input_of before) before.held before.limit (Ok true) after.id
    after.header after.unread packet × (after.held ≡ []) × IsFalse lost
TakesPacket before (Ok None) lost after = DecodesPacket before (Ok false) after × IsFalse lost
TakesPacket before (Err PacketTooLarge) lost after = DecodesPacket before (Err codec.PacketTooLarge)
    after × IsFalse lost
TakesPacket before (Err PacketsOutOfSync) lost after = DecodesPacket before
    (Err codec.PacketsOutOfSync) after × IsTrue lost
TakesPacket before (Err OutOfMemory) lost after = DecodesPacket before (Err codec.OutOfMemory) after
    × IsFalse lost
TakesPacket before (Err other) lost after = ⊥

-- at the end of the input, with this many bytes unread and held
abbrev pub EndsAt : Answer → ℕ → ℕ → Type 0
EndsAt (Ok None) unread held = (unread ≡ 0) × (held ≡ 0)
EndsAt (Err UnexpectedEnd) unread held = 0 < unread + held
EndsAt other unread held = ⊥

-- a write or a flush failed, or a write took none of the bytes that were pending
abbrev pub WriteFails : PacketIoError → List ℕ → Type 0
WriteFails (Io error) pending = ⊤
WriteFails WriteZero pending = 0 < length pending
WriteFails other pending = ⊥

-- a writer of packets, as contracts see it
pub record Writing (W : Type 0) : Type 0 where
  -- the writer below
  pub writer : W
  -- the bytes that are still to be written
  pub pending : List ℕ

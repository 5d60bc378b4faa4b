-- A packet whose bytes are dropped as they come.
use Rattle.std.specs.Prelude.{◌≡◌, ℕ, ◌+◌, ◌<◌, ◌≤◌, ◌⊎◌, List, [], ◌++◌, length, slice_index, Option, Some, None, Result, Ok, Err, Bool, true, false}
use Rattle.std.specs.Int.NonZero.{non_zero_usize_get}
use Rattle.wire_codec.specs.declared.codec.error.PacketCodecError.{PacketCodecError}
use Rattle.wire_codec.specs.declared.codec.error.PacketCodecError.TheVariants.{PacketTooLarge, OutOfMemory, PacketsOutOfSync, Io}
use Rattle.wire_codec.specs.declared.codec.header.Header.{Header}
use Rattle.wire_codec.specs.declared.codec.packet.PacketCodec.{PacketCodec}
use Rattle.wire_codec.specs.declared.codec.packet.Progress.{Progress}
use Rattle.wire_codec.specs.declared.codec.packet.Progress.TheVariants.{Whole, Starved, More}
use Rattle.wire_codec.specs.declared.codec.packet.skip.OpenChunk.{OpenChunk}
use Rattle.wire_codec.specs.declared.codec.packet.skip.Skipped.{Skipped}
use Rattle.wire_codec.specs.Delivery.{chunk_len, IsSpelled, IsWholeChunks}
use Rattle.wire_codec.specs.Codec.{CodecState, codec_state, expected_id, header_of, first_id, input_of, Stands, DecodesPacket, TakesChunk}

-- nothing of a packet was dropped
abbrev pub nothing_skipped : Skipped
nothing_skipped = record { held = 0; begun = None }

-- the chunk in front would take a packet, of which so much is held, past the limit
abbrev pub IsPast : ℕ → ℕ → List ℕ → Type 0
IsPast limit held front =
    (4 ≤ length front) × (0 < chunk_len front) × (limit < held + chunk_len front)

-- the header that a codec would remember: that of the open chunk, or its own
abbrev pub header_at : Option OpenChunk → Option (ℕ × ℕ) → Option (ℕ × ℕ)
header_at None remembered = remembered
header_at (Some begun) remembered = Some (begun.header.seq_id, begun.header.len)

-- what was dropped of the open chunk: its header, and all but this many of its bytes
abbrev pub IsGone : Option OpenChunk → List ℕ → List ℕ → Type 0
IsGone None gone unread = gone ≡ []
IsGone (Some begun) gone unread =
    (4 ≤ length gone) × (0 < non_zero_usize_get begun.left)
    × (length gone + non_zero_usize_get begun.left ≡ 4 + begun.header.len) × IsSpelled unread

-- a codec, at these bytes, as it would stand had the bytes that were dropped been kept
pub record WouldStand (skipped : Skipped) (codec : PacketCodec) (unread : List ℕ)
    (full : CodecState) : Type 0 where
  pub limit : full.limit ≡ codec.max_allowed_packet
  pub id : full.id ≡ expected_id codec
  pub header : full.header ≡ header_at skipped.begun (header_of codec)
  pub gone : List ℕ
  pub gone_is : IsGone skipped.begun gone full.unread
  pub unread_is : full.unread ≡ gone ++ unread
  pub held_is : length full.held ≡ skipped.held
  pub stands : Stands full

-- nothing was dropped, and the codec is after the packet
abbrev pub IsBehind : Skipped → PacketCodec → List ℕ → CodecState → Type 0
IsBehind skipped codec unread after =
    (skipped ≡ nothing_skipped) × (after ≡ codec_state codec unread after.held)

-- where a call that drops a packet leaves the codec
abbrev pub LeavesSkip : Result Bool PacketCodecError → Skipped → PacketCodec → List ℕ → CodecState
    → Type 0
LeavesSkip (Ok true) skipped codec unread after = IsBehind skipped codec unread after
LeavesSkip (Ok false) skipped codec unread after = WouldStand skipped codec unread after
LeavesSkip (Err PacketTooLarge) skipped codec unread after = WouldStand skipped codec unread after
LeavesSkip (Err PacketsOutOfSync) skipped codec unread after = IsBehind skipped codec unread after
LeavesSkip (Err OutOfMemory) skipped codec unread after = ⊥
LeavesSkip (Err (Io error)) skipped codec unread after = ⊥

-- the same for one chunk
abbrev pub LeavesChunk : Result Progress PacketCodecError → Skipped → PacketCodec → List ℕ
    → CodecState → Type 0
LeavesChunk (Ok Whole) skipped codec unread after = IsBehind skipped codec unread after
LeavesChunk (Ok Starved) skipped codec unread after = WouldStand skipped codec unread after
LeavesChunk (Ok More) skipped codec unread after = WouldStand skipped codec unread after
    × (after.header ≡ None)
LeavesChunk (Err error) skipped codec unread after = LeavesSkip (Err error) skipped codec unread
    after

-- a codec at a chunk whose header was judged, and of which this many bytes are to be taken
pub record AtChunk (header : Header) (left held : ℕ) (codec : PacketCodec) (unread : List ℕ)
    (full : CodecState) : Type 0 where
  pub limit : full.limit ≡ codec.max_allowed_packet
  pub id : full.id ≡ expected_id codec
  pub gone : List ℕ
  pub unread_is : full.unread ≡ gone ++ unread
  pub left_is : length gone + left ≡ 4 + header.len
  pub there : 4 ≤ length full.unread
  pub len_is : chunk_len full.unread ≡ header.len
  pub id_is : slice_index full.unread 3 ≡ header.seq_id
  pub fits : (header.len ≡ 0) ⊎ (length full.held + header.len ≤ full.limit)
  pub held_is : length full.held ≡ held
  pub whole : IsWholeChunks full.held
  pub spelled : IsSpelled full.unread

-- one chunk, or what came of it, is dropped
abbrev pub DropsChunk : Result Progress PacketCodecError → CodecState → Skipped → PacketCodec
    → List ℕ → Type 0
DropsChunk answer full skipped codec unread =
    (after : CodecState)
    × TakesChunk (first_id full) (input_of full) full.held full.limit answer
    after.id after.header after.unread after.held
    × LeavesChunk answer skipped codec unread after

-- what a call makes of a packet whose bytes are dropped: what `decode` would make of it, had they
-- been kept
abbrev pub SkipsPacket : CodecState → Result Bool PacketCodecError → Skipped → PacketCodec
    → List ℕ → Type 0
SkipsPacket full answer skipped codec unread =
    (after : CodecState) × DecodesPacket full answer after
    × LeavesSkip answer skipped codec unread after

-- a codec may go on with such a packet: full chunks were dropped, and the open one is within the
-- limit
abbrev pub MaySkip : Skipped → PacketCodec → List ℕ → Type 0
MaySkip skipped codec unread =
    (full : CodecState) × WouldStand skipped codec unread full

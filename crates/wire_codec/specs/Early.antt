-- A chunk of another id, told by its header alone.
use Rattle.std.specs.Prelude.{◌≡◌, ◌≢◌, ℕ, ◌≤◌, ◌⊎◌, List, length, slice_index, Result, Ok, Err, Bool, true}
use Rattle.wire_codec.specs.declared.codec.error.PacketCodecError.{PacketCodecError}
use Rattle.wire_codec.specs.declared.codec.error.PacketCodecError.TheVariants.{OutOfMemory, PacketsOutOfSync}
use Rattle.wire_codec.specs.Codec.{CodecState, ChunkChain, IsChain, HasChunk}
use Rattle.wire_codec.specs.LimitedRuns.{Aligned}

-- the header in front has come, and bears another id than this one
abbrev pub IsOutOfStep : ℕ → List ℕ → Type 0
IsOutOfStep id unread = (4 ≤ length unread) × (slice_index unread 3 ≢ id)

-- a call of `decode` there hands out no packet; where the chunk has come it answers so itself, unless
-- it lacks memory
abbrev pub RefusesInTime : CodecState → Result Bool PacketCodecError → CodecState → Type 0
RefusesInTime before answer after =
    Aligned before → IsOutOfStep before.id before.unread → IsChain before answer after
    → (answer ≢ Ok true)
    × (HasChunk before → (answer ≡ Err PacketsOutOfSync) ⊎ (answer ≡ Err OutOfMemory))

-- where a call of `decode` refuses the chunk in front for its id, its header says so
abbrev pub IsToldInTime : CodecState → CodecState → Type 0
IsToldInTime before after =
    Aligned before → ChunkChain 0 before (Err PacketsOutOfSync) after
    → IsOutOfStep before.id before.unread

abbrev pub EarlyJudgement : Type 0
EarlyJudgement =
    ((before : CodecState) → (answer : Result Bool PacketCodecError) → (after : CodecState)
    → RefusesInTime before answer after)
    × ((before after : CodecState) → IsToldInTime before after)

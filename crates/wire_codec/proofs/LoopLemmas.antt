-- One chunk more in a call.
use Rattle.std.proofs.Common.{◌≡◌, ℕ, [], Result}
use Rattle.wire_codec.proofs.Declared.{PacketCodecError, Progress}
use Rattle.wire_codec.specs.Delivery.{Splits}
use Rattle.wire_codec.specs.Codec.{CodecState, first_id, input_of, StandsAt, Stands, TakesChunk}
use Rattle.wire_codec.specs.Limited.{Limits, SplitsUnder}
use Rattle.wire_codec.specs.GoingOn.{GoesOn, GoesOnAt, TakesOn}
use Rattle.wire_codec.proofs.CodecLemmas.{takes_later}
use Rattle.wire_codec.proofs.GoingOnLemmas.{takes_on_under}

-- where a call stands that has taken full chunks, under its start's limit
abbrev pub HasRead : CodecState → CodecState → Type 0
HasRead start state =
    Splits start.held (input_of start) (first_id start) start.limit [] state.held state.unread
    × StandsAt start.limit state.header state.unread state.held × (first_id state ≡ first_id start)

pub step_takes : (answer : Result Progress PacketCodecError) (start before after : CodecState) → before.limit ≡ start.limit → HasRead start before
    → (Stands before → TakesChunk (first_id before) (input_of before) before.held before.limit answer after.id after.header after.unread after.held)
    → TakesChunk (first_id start) (input_of start) start.held start.limit answer after.id after.header after.unread after.held
step_takes answer start before after same run takes =
    takes_later answer (first_id before) (first_id start) before.limit start.limit start.held (input_of start) before.held before.unread after.id after.header after.unread after.held run.2 same run.0
    (takes (rw same run.1))

-- the same under limits
abbrev pub HasReadUnder : Limits → ℕ → ℕ → CodecState → CodecState → Type 0
HasReadUnder limits mark place start state =
    SplitsUnder limits place start.held (input_of start) (first_id start) [] state.held state.unread
    × GoesOnAt limits mark place start.limit state.header state.unread state.held × (first_id state ≡ first_id start)

pub step_takes_under : (answer : Result Progress PacketCodecError) (limits : Limits) (mark place : ℕ) (start before after : CodecState) → before.limit ≡ start.limit → HasReadUnder limits mark place start before
    → ((limits : Limits) (mark place : ℕ) → GoesOn limits mark place before → TakesOn limits mark place before.limit (first_id before) (input_of before) before.held answer after.id after.header after.unread after.held)
    → TakesOn limits mark place start.limit (first_id start) (input_of start) start.held answer after.id after.header after.unread after.held
step_takes_under answer limits mark place start before after same run takes =
    takes_on_under answer mark start.limit after.id after.header after.unread after.held run.0
    (rw (run.2, same) at (takes limits mark place (rw same run.1)))

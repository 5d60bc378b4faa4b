-- Laws over the definitions alone, which the functions of `laws` carry.
use Rattle.std.specs.Prelude.{◌≡◌, ◌≢◌, ℕ, List, [], ◌++◌, length, ◌/◌, ◌%◌, ◌+◌, ◌*◌, ◌<◌, ◌≤◌, ◌⊎◌, ◌↔◌, All, None, Result, Ok, Err}
use Rattle.std.specs.Borrow.{Bor}
use Rattle.wire_codec.specs.Framing.{framing, front, id_after, max_payload, stream}
use Rattle.wire_codec.specs.Delivery.{Ending, Waiting, Splits, Delivers, IsBounded}
use Rattle.wire_codec.specs.Counted.{Call, Follows, chunk_count}
use Rattle.wire_codec.specs.Limited.{Limits, AreAtMost, place_after, SplitsUnder, DeliversUnder}
use Rattle.wire_codec.specs.LimitedRuns.{Aligned, unread_place, run_limits}
use Rattle.wire_codec.specs.GoingOn.{GoesOn, HasLimits}
use Rattle.wire_codec.specs.Codec.{CodecState, Stands, first_id, input_of}
use Rattle.wire_codec.specs.Runs.{RunsTo, RunsOver}
use Rattle.wire_codec.specs.declared.codec.error.PacketCodecError.{PacketCodecError}
use Rattle.wire_codec.specs.declared.codec.error.PacketCodecError.TheVariants.{OutOfMemory}

-- one framing cannot be read as two payloads, whatever follows it
abbrev pub UniqueFraming : Type 0
UniqueFraming =
    (first_id : ℕ) (payload other rest more : List ℕ)
    → framing first_id payload ++ rest ≡ framing first_id other ++ more
    → (payload ≡ other) × (rest ≡ more)

-- a stream delivers one thing
abbrev pub OneDelivery : Type 0
OneDelivery =
    (held input : List ℕ) (open_id limit : ℕ) (payloads others : List (List ℕ))
    (ending other : Ending) (unfinished another rest more : List ℕ)
    → Delivers held input open_id limit payloads ending unfinished rest
    → Delivers held input open_id limit others other another more
    → (payloads ≡ others) × (ending ≡ other) × (unfinished ≡ another) × (rest ≡ more)

-- the same where each byte has its limit
abbrev pub OneLimitedDelivery : Type 0
OneLimitedDelivery =
    (limits : Limits) (place : ℕ) (held input : List ℕ) (open_id : ℕ)
    (payloads others : List (List ℕ)) (ending other : Ending)
    (unfinished another rest more : List ℕ)
    → DeliversUnder limits place held input open_id payloads ending unfinished rest
    → DeliversUnder limits place held input open_id others other another more
    → (payloads ≡ others) × (ending ≡ other) × (unfinished ≡ another) × (rest ≡ more)

-- two runs from one state over the same bytes, none of which was refused memory, hand out the same,
-- end in the same way and leave the same, whether packets are handed out or visited, and however
-- much of the bytes each has appended
abbrev pub OneRun : Type 0
OneRun =
    (before after other_after : CodecState) (more : List ℕ)
    (answer other : Result (Unit {0}) PacketCodecError) (gained others : List (List ℕ))
    (left other_left : List ℕ)
    → answer ≢ Err OutOfMemory → other ≢ Err OutOfMemory
    → RunsOver before more answer gained after left
    → RunsOver before more other others other_after other_left
    → (gained ≡ others) × (answer ≡ other) × (after.held ≡ other_after.held)
    × (after.unread ++ left ≡ other_after.unread ++ other_left)

-- where the codec stands and all limits are its own, what a stream delivers under them is what it
-- delivers
abbrev pub EqualLimits : Type 0
EqualLimits =
    (before : CodecState) (pieces : List (ℕ × Bor (List ℕ))) (more : List ℕ)
    (payloads : List (List ℕ)) (ending : Ending) (unfinished rest : List ℕ)
    → Stands before → All (λ piece. piece.0 ≡ before.limit) pieces
    → DeliversUnder (run_limits before pieces) 0 before.held (input_of before
    ++ more) (first_id before) payloads ending unfinished rest
    ↔ Delivers before.held (input_of before
    ++ more) (first_id before) before.limit payloads ending unfinished rest

-- a run, and then a run over what it left and what came since, are one run over all
abbrev pub JoinedRuns : Type 0
JoinedRuns =
    (held input : List ℕ) (open_id limit : ℕ) (payloads : List (List ℕ))
    (unfinished rest more : List ℕ)
    (others : List (List ℕ)) (ending : Ending) (another left : List ℕ)
    → Splits held input open_id limit payloads unfinished rest
    → Delivers unfinished (front (id_after open_id payloads) unfinished ++ (rest ++ more))
    (id_after open_id payloads) limit others ending another left
    → Delivers held (input ++ more) open_id limit (payloads ++ others) ending another left

-- the same of runs that need not have ended
abbrev pub JoinedSplits : Type 0
JoinedSplits =
    (held input : List ℕ) (open_id limit : ℕ) (payloads : List (List ℕ))
    (unfinished rest more : List ℕ) (others : List (List ℕ)) (another left : List ℕ)
    → Splits held input open_id limit payloads unfinished rest
    → Splits unfinished (front (id_after open_id payloads) unfinished
    ++ (rest ++ more)) (id_after open_id payloads) limit others another left
    → Splits held (input ++ more) open_id limit (payloads ++ others) another left

-- the same where each byte has its limit: the second run begins at the place after the payloads of
-- the first
abbrev pub JoinedLimitedRuns : Type 0
JoinedLimitedRuns =
    (limits : Limits) (place : ℕ) (held input : List ℕ) (open_id : ℕ) (payloads : List (List ℕ))
    (unfinished rest more : List ℕ)
    (others : List (List ℕ)) (ending : Ending) (another left : List ℕ)
    → SplitsUnder limits place held input open_id payloads unfinished rest
    → DeliversUnder limits (place_after place payloads) unfinished
    (front (id_after open_id payloads) unfinished ++ (rest ++ more))
    (id_after open_id payloads) others ending another left
    → DeliversUnder limits place held (input ++ more) open_id (payloads ++ others) ending another
    left

-- the same of what `deliver` says: a run that waits, or was refused memory, and the run that goes
-- on from it are one run
abbrev pub RunGoesOn : Type 0
RunGoesOn =
    (before between after : CodecState) (more next : List ℕ)
    (stopped answer : Result (Unit {0}) PacketCodecError) (gained others : List (List ℕ))
    → (stopped ≡ Ok tt) ⊎ (stopped ≡ Err OutOfMemory)
    → RunsTo before more stopped gained between → between.limit ≡ before.limit
    → RunsTo between next answer others after
    → RunsTo before (more ++ next) answer (gained ++ others) after

-- how long a framing is
abbrev pub FramedLength : Type 0
FramedLength =
    (first_id : ℕ) (payload : List ℕ)
    → length (framing first_id payload)
    ≡ length payload + 4 * (length payload / max_payload + 1)

-- what a stream delivers, with anything after it, begins with its payloads; the others are
-- delivered of what is after it
abbrev pub EncodedFirst : Type 0
EncodedFirst =
    (first_id limit : ℕ) (payloads delivered : List (List ℕ)) (more : List ℕ)
    (ending : Ending) (unfinished rest : List ℕ)
    → All (λ payload. length payload ≤ limit) payloads
    → Delivers [] (stream first_id payloads ++ more) first_id limit delivered ending unfinished rest
    → (others : List (List ℕ)) × (delivered ≡ payloads ++ others)
    × Delivers [] more (id_after first_id payloads) limit others ending unfinished rest

-- two streams, one after the other, are one
abbrev pub StreamAppend : Type 0
StreamAppend =
    (first_id : ℕ) (payloads others : List (List ℕ))
    → stream first_id (payloads ++ others)
    ≡ stream first_id payloads ++ stream (id_after first_id payloads) others

-- and the id after both is the one after the second
abbrev pub IdAfterAppend : Type 0
IdAfterAppend =
    (first_id : ℕ) (payloads others : List (List ℕ))
    → id_after first_id (payloads ++ others) ≡ id_after (id_after first_id payloads) others

-- a codec with empty buffers, to which nothing has come
abbrev pub empty_state : ℕ → ℕ → CodecState
empty_state id limit =
    record { limit = limit; id = id; header = None; unread = []; held = [] }

-- a state with bytes appended to what is to be read
abbrev pub appended : CodecState → List ℕ → CodecState
appended state more = record {
  limit = state.limit;
  id = state.id;
  header = state.header;
  unread = state.unread ++ more;
  held = state.held;
}

-- bytes appended to what is to be read leave a codec standing, and a run over nothing more is then
-- one over them
abbrev pub AppendedRun : Type 0
AppendedRun =
    (before after : CodecState) (more : List ℕ) (answer : Result (Unit {0}) PacketCodecError)
    (gained : List (List ℕ))
    → (Stands before → Stands (appended before more))
    × (RunsTo (appended before more) [] answer gained after
    → RunsTo before more answer gained after)

-- between two packets, where no header is remembered and nothing is held, a codec stands, the next
-- packet begins with the id that it expects, and the input is what is to be read
abbrev pub BetweenPackets : Type 0
BetweenPackets =
    (state : CodecState) → state.id < 256 → state.header ≡ None → state.held ≡ []
    → Stands state × (first_id state ≡ state.id) × (input_of state ≡ state.unread)

-- nothing read yet is a run that waits
abbrev pub NothingRead : Type 0
NothingRead =
    (id limit : ℕ) → id < 256 → RunsTo (empty_state id limit) [] (Ok tt) [] (empty_state id limit)

-- a codec with empty buffers goes on in a stream under any limits, from any place
abbrev pub EmptyGoesOn : Type 0
EmptyGoesOn =
    (limits : Limits) (place id limit : ℕ) → GoesOn limits place place (empty_state id limit)

-- an aligned codec goes on in a stream under whose limits its bytes came; the bytes that come next
-- stand after those to be read
abbrev pub AlignedGoesOn : Type 0
AlignedGoesOn =
    (limits : Limits) (place : ℕ) (state : CodecState) → Aligned state
    → (place + length (input_of state) ≡ unread_place place state.held + length state.unread)
    × (HasLimits limits place state → (mark : ℕ) × GoesOn limits mark place state)

-- a delivery that waits holds few bytes
abbrev pub BoundedDelivery : Type 0
BoundedDelivery =
    (held input : List ℕ) (open_id limit : ℕ) (payloads : List (List ℕ)) (unfinished rest : List ℕ)
    → Delivers held input open_id limit payloads Waiting unfinished rest
    → IsBounded limit held unfinished rest

-- the same where each byte has its limit, by a number that none of them is above
abbrev pub BoundedLimitedDelivery : Type 0
BoundedLimitedDelivery =
    (limits : Limits) (most place : ℕ) (held input : List ℕ) (open_id : ℕ)
    (payloads : List (List ℕ)) (unfinished rest : List ℕ)
    → AreAtMost most limits
    → DeliversUnder limits place held input open_id payloads Waiting unfinished rest
    → IsBounded most held unfinished rest

-- the id that a codec expects is the number of chunks encoded and accepted since the last reset,
-- modulo 256: after these calls, where it was so before them
abbrev pub ChunksCounted : Type 0
ChunksCounted =
    (calls : List Call) (count id new : ℕ)
    → id ≡ count % 256 → Follows id calls new → new ≡ chunk_count count calls % 256

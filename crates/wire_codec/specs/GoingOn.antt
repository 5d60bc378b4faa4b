-- A codec in the middle of a run under limits: what one call makes of it.
use Rattle.std.specs.Prelude.{◌≡◌, ℕ, ◌+◌, ◌/◌, ◌<◌, ◌≤◌, ◌⊎◌, List, [], ◌∷◌, ◌++◌, length, take, drop, Option, Some, MatchOption, IsSome, Result, Ok, Err, Bool, true, false, ⊤}
use Rattle.std.specs.Borrow.{Bor}
use Rattle.wire_codec.specs.declared.codec.error.PacketCodecError.{PacketCodecError}
use Rattle.wire_codec.specs.declared.codec.error.PacketCodecError.TheVariants.{OutOfMemory}
use Rattle.wire_codec.specs.declared.codec.packet.Progress.{Progress}
use Rattle.wire_codec.specs.declared.codec.packet.Progress.TheVariants.{Whole, Starved, More}
use Rattle.wire_codec.specs.Framing.{max_payload}
use Rattle.wire_codec.specs.Delivery.{chunk_len, id_at}
use Rattle.wire_codec.specs.Codec.{CodecState, first_id, input_of}
use Rattle.wire_codec.specs.Limited.{Limits, Allows, framed_size, limit_at, place_after, SplitsUnder}
use Rattle.wire_codec.specs.LimitedRuns.{AlignedAt, WasAllowed, unread_place, limited_bytes, DecodesUnder, RunsUnder, LeavesUnder}

-- the codec goes on here with the packet that is framed from this place on: the bytes from the mark
-- on came under its own limit; before the mark there is no header that isn't remembered, and no
-- header after the remembered one, which is within the limit of its fourth byte
pub record GoesOnAt (limits : Limits) (mark place limit : ℕ) (header : Option (ℕ
    × ℕ)) (src held : List ℕ) : Type 0 where
  pub aligned : AlignedAt header src held
  pub marked : MatchOption header (mark ≤ unread_place place held + 3)
      (λ h. Allows (limit_at limits place (length held / max_payload)) (length held + h.1)
      × (mark ≤ unread_place place held + (h.1 + 7)))
  pub same : (i : ℕ) → mark ≤ unread_place place held + i → i < length src
      → limits (unread_place place held + i) ≡ Some limit

abbrev pub GoesOn : Limits → ℕ → ℕ → CodecState → Type 0
GoesOn limits mark place state = GoesOnAt limits mark place state.limit state.header state.unread
    state.held

-- the bytes to be read came under the codec's limit; but those of a header that is remembered, which
-- is within the limit of its fourth byte, came under any
abbrev pub HasLimits : Limits → ℕ → CodecState → Type 0
HasLimits limits place state =
    ((i : ℕ) → (IsSome state.header → 4 ≤ i) → i < length state.unread
    → limits (unread_place place state.held + i) ≡ Some state.limit)
    × WasAllowed limits place state.header state.held

-- the mark stays where it is, after what was taken
abbrev pub KeepsMark : ℕ → ℕ → Result Bool PacketCodecError → List ℕ → List ℕ → Type 0
KeepsMark mark place (Ok true) src dst = mark ≤ place + framed_size dst + 3
KeepsMark mark place (Ok false) src dst = ⊤
KeepsMark mark place (Err error) src dst = error ≡ OutOfMemory
    → mark ≤ unread_place place dst + (chunk_len src + 7)

-- what a call of `decode` makes of it
abbrev pub DecodesOn : Limits → ℕ → ℕ → ℕ → List ℕ → List ℕ → Result Bool PacketCodecError → ℕ
    → Option (ℕ × ℕ) → List ℕ → List ℕ → Type 0
DecodesOn limits mark place first input held answer id header src dst =
    DecodesUnder limits place first input held answer id header src dst
    × KeepsMark mark place answer src dst

-- what one chunk makes of it
abbrev pub TakesOn : Limits → ℕ → ℕ → ℕ → ℕ → List ℕ → List ℕ → Result Progress PacketCodecError → ℕ
    → Option (ℕ × ℕ) → List ℕ → List ℕ → Type 0
TakesOn limits mark place limit first input held (Ok Whole) id header src dst = DecodesOn limits
    mark place first input held (Ok true) id header src dst
TakesOn limits mark place limit first input held (Ok Starved) id header src dst = DecodesOn limits
    mark place first input held (Ok false) id header src dst
TakesOn limits mark place limit first input held (Ok More) id header src dst =
    SplitsUnder limits place held input first [] dst src × (id ≡ id_at first dst)
    × GoesOnAt limits mark place limit header src dst
TakesOn limits mark place limit first input held (Err error) id header src dst = DecodesOn limits
    mark place first input held (Err error) id header src dst

-- what one chunk makes of a codec that goes on, under whatever limits, and wherever in a run it stands
abbrev pub PacketSink : CodecState → Result Progress PacketCodecError → CodecState → Type 0
PacketSink before answer after = (limits : Limits) (mark place : ℕ) → GoesOn limits mark place before
    → TakesOn limits mark place before.limit (first_id before) (input_of before) before.held answer
    after.id after.header after.unread after.held

-- the same of a call of `decode`
abbrev pub Decodes : CodecState → Result Bool PacketCodecError → CodecState → Type 0
Decodes before answer after = (limits : Limits) (mark place : ℕ) → GoesOn limits mark place before
    → DecodesOn limits mark place (first_id before) (input_of before) before.held answer after.id
    after.header after.unread after.held

-- a header that came before the mark is remembered
abbrev pub Remembers : ℕ → ℕ → Option (ℕ × ℕ) → List ℕ → List ℕ → Type 0
Remembers mark place header src dst = 4 ≤ length src → unread_place place dst + 3 < mark
    → IsSome header

-- from this place on stand the bytes of these pieces, each under its piece's limit
abbrev pub HavePieceLimits : Limits → ℕ → List (ℕ × Bor (List ℕ)) → Type 0
HavePieceLimits limits place [] = ⊤
HavePieceLimits limits place (piece ∷ pieces) =
    ((i : ℕ) → i < length piece.1.now → limits (place + i) ≡ Some piece.0)
    × HavePieceLimits limits (place + length piece.1.now) pieces

-- a run over all these pieces, of which the first `count` were appended, by a codec whose packet is
-- framed from this place on; where it waits or was refused memory, the next run goes on from it
abbrev pub RunsOn : Limits → ℕ → CodecState → List (ℕ × Bor (List ℕ)) → ℕ
    → Result (Unit {0}) PacketCodecError → List (List ℕ) → CodecState → Type 0
RunsOn limits place before pieces count answer gained after =
    RunsUnder limits place (first_id before) (input_of before
    ++ limited_bytes (take count pieces)) before.held
    answer gained after.id after.header after.unread after.held
    × LeavesUnder limits place (first_id before) (input_of before
    ++ limited_bytes pieces) before.held
    answer gained after.unread (limited_bytes (drop count pieces)) after.held
    × ((answer ≡ Ok tt) ⊎ (answer ≡ Err OutOfMemory)
    → (mark : ℕ) × GoesOn limits mark (place_after place gained) after)

-- the same of every place that the bytes to be read and these pieces may have, and what was made of
-- the payloads
abbrev pub TakesGoingOn : CodecState → List (ℕ × Bor (List ℕ)) → ℕ
    → Result (Unit {0}) PacketCodecError → CodecState → (List (List ℕ) → Type 0) → Type 0
TakesGoingOn before pieces count answer after makes =
    (limits : Limits) (mark place : ℕ) → GoesOn limits mark place before
    → HavePieceLimits limits (place + length (input_of before)) pieces
    → (gained : List (List ℕ)) × makes gained
    × RunsOn limits place before pieces count answer gained after

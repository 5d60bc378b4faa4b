-- Packets that something takes, one after another, in a run under limits.
use Rattle.std.specs.Prelude.{◌≡◌, ◌≢◌, ℕ, ◌+◌, ◌<◌, ◌≤◌, List, [], ◌∷◌, ◌++◌, length, take, map, Result, Ok, Err, OnOk, Bool, true, false}
use Rattle.std.specs.Borrow.{Bor}
use Rattle.std.specs.List.{FoldsTo}
use Rattle.std.proofs.Common.{subst, sym}
use Rattle.wire_codec.specs.declared.codec.error.PacketCodecError.{PacketCodecError}
use Rattle.wire_codec.specs.declared.codec.error.PacketCodecError.TheVariants.{OutOfMemory, PacketsOutOfSync}
use Rattle.wire_codec.specs.declared.codec.packet.PacketCodec.{PacketCodec}
use Rattle.wire_codec.specs.Codec.{CodecState, first_id, input_of}
use Rattle.wire_codec.specs.Limited.{Limits, place_after}
use Rattle.wire_codec.specs.LimitedRuns.{Aligned, RunsUnder, RunsLimited, WaitsLimited, last_limit}
use Rattle.wire_codec.specs.GoingOn.{GoesOn, DecodesOn, HavePieceLimits, RunsOn}

-- one packet is decoded, taken and gone; or none is taken, and a run over what is there waits or
-- stops
abbrev pub TakesNext : {O : Type 0} → (O → List (List ℕ) → O → Type 0) → Limits → ℕ → ℕ → CodecState
    → Result Bool PacketCodecError → O → O → CodecState → Type 0
TakesNext took limits mark place before (Ok true) old new after =
    (packet : List ℕ) × took old (packet ∷ []) new
    × DecodesOn limits mark place (first_id before) (input_of before) before.held (Ok true)
    after.id after.header after.unread packet × (after.held ≡ [])
TakesNext took limits mark place before (Ok false) old new after =
    took old [] new
    × RunsUnder limits place (first_id before) (input_of before) before.held (Ok tt) []
    after.id after.header after.unread after.held
TakesNext took limits mark place before (Err error) old new after =
    took old [] new
    × RunsUnder limits place (first_id before) (input_of before) before.held (Err error) []
    after.id after.header after.unread after.held
    × (error ≡ OutOfMemory → GoesOn limits mark place after)

abbrev pub TakesOne : {O : Type 0} → (O → List (List ℕ) → O → Type 0) → CodecState
    → Result Bool PacketCodecError → O → O → CodecState → Type 0
TakesOne took before answer old new after =
    (limits : Limits) (mark place : ℕ) → GoesOn limits mark place before
    → TakesNext took limits mark place before answer old new after

-- packets are taken until more bytes are needed, or a fault: what it makes of the codec in any place
-- of a stream
abbrev pub Drains : {O : Type 0} → (O → List (List ℕ) → O → Type 0) → CodecState
    → Result (Unit {0}) PacketCodecError → O → O → CodecState → Type 0
Drains took before answer old new after =
    (limits : Limits) (mark place : ℕ) → GoesOn limits mark place before
    → (gained : List (List ℕ)) × took old gained new
    × RunsUnder limits place (first_id before) (input_of before) before.held answer gained
    after.id after.header after.unread after.held
    × (answer ≡ Err OutOfMemory → GoesOn limits mark (place_after place gained) after)

-- each piece with its limit, or else with this one
abbrev pub pieces_under : {P : Type 0} → (ℕ → P → ℕ × Bor (List ℕ)) → ℕ → List P
    → List (ℕ × Bor (List ℕ))
pieces_under limited own pieces = map (λ piece. limited own piece) pieces

-- or else with this codec's
abbrev pub pieces_for : {P : Type 0} → (ℕ → P → ℕ × Bor (List ℕ)) → PacketCodec → List P
    → List (ℕ × Bor (List ℕ))
pieces_for limited codec pieces = pieces_under limited codec.max_allowed_packet pieces

-- a run over pieces, of which this many were appended: what it hands out and leaves, in a stream of
-- its own and in the middle of any; how many pieces it took, and where the codec stands
pub record RunsPieces {O : Type 0} (took : O → List (List ℕ) → O → Type 0) (before : CodecState)
    (pieces : List (ℕ × Bor (List ℕ))) (count : ℕ) (answer : Result (Unit {0}) PacketCodecError)
    (old new : O) (after : CodecState) : Type 0 where
  pub runs : (gained : List (List ℕ)) × took old gained new
      × RunsLimited before pieces count answer gained after
  pub on : (limits : Limits) (mark place : ℕ) → GoesOn limits mark place before
      → HavePieceLimits limits (place + length (input_of before)) pieces
      → (gained : List (List ℕ)) × took old gained new
      × RunsOn limits place before pieces count answer gained after
  pub few : count ≤ length pieces
  pub least : (j : ℕ) → j < count → WaitsLimited before pieces j
  pub all : OnOk answer (count ≡ length pieces)
  pub aligned : answer ≢ Err PacketsOutOfSync → Aligned after
  pub limit : after.limit ≡ last_limit before.limit (take count pieces)

-- steps, and more steps
pub FoldsTo-append : {P A : Type 0} (R : P → A → P → Type 0) (p q r : P) (xs ys : List A)
    → FoldsTo R p xs q → FoldsTo R q ys r → FoldsTo R p (xs ++ ys) r
FoldsTo-append R p q r [] ys e more = subst (λ z. FoldsTo R z ys r) (sym e) more
FoldsTo-append R p q r (x ∷ xs) ys (j, step, rest) more =
    (j, step, FoldsTo-append R j q r xs ys rest more)

-- Packets that are taken, one after another.
use Rattle.std.proofs.Common.{◌≡◌, ℕ, ◌<◌, ◌≤◌, List, [], ◌∷◌, ◌++◌, length, refl, ap, ◌∙◌, arith, Result, Ok, Err, true}
use Rattle.wire_codec.proofs.Declared.{PacketCodecError, PacketTooLarge, OutOfMemory, PacketsOutOfSync, Io}
use Rattle.wire_codec.specs.Framing.{id_after}
use Rattle.wire_codec.specs.Codec.{CodecState, open_id, first_id, input_of}
use Rattle.wire_codec.specs.Limited.{Limits, SplitsUnder, place_after}
use Rattle.wire_codec.specs.LimitedRuns.{RunsUnder}
use Rattle.wire_codec.specs.GoingOn.{GoesOn, DecodesOn}
use Rattle.wire_codec.specs.Taking.{TakesNext}
use Rattle.wire_codec.proofs.CodecLemmas.{open_at_id, open_small}
use Rattle.wire_codec.proofs.RunLemmas.{next_open}
use Rattle.wire_codec.proofs.LimitedLemmas.{place_after-append}
use Rattle.wire_codec.proofs.GoingOnLemmas.{splits_here_under}
use Rattle.wire_codec.proofs.LimitedRunLemmas.{splits_push, goes_on_pushed, was_allowed, stays, runs_still}

-- a decode that stops, as a run that takes nothing
stopped : (error : PacketCodecError) (limits : Limits) (mark place : ℕ) (before after : CodecState)
    → DecodesOn limits mark place (first_id before) (input_of before) before.held (Err error) after.id after.header after.unread after.held
    → RunsUnder limits place (first_id before) (input_of before) before.held (Err error) [] after.id after.header after.unread after.held
stopped PacketTooLarge limits mark place before after t = t.0
stopped PacketsOutOfSync limits mark place before after t = t.0
stopped OutOfMemory limits mark place before after t =
    (t.0.0, ap (λ (n : ℕ). open_id n after.held) t.0.1 ∙ open_at_id (first_id before) after.held (open_small before.id before.held), t.0.2, t.0.3)
stopped (Io e) limits mark place before after t = absurd t.0

pub stopped_next : (error : PacketCodecError) (limits : Limits) (mark place : ℕ) (before after : CodecState) → after.limit ≡ before.limit → GoesOn limits mark place before
    → DecodesOn limits mark place (first_id before) (input_of before) before.held (Err error) after.id after.header after.unread after.held
    → RunsUnder limits place (first_id before) (input_of before) before.held (Err error) [] after.id after.header after.unread after.held
    × (error ≡ OutOfMemory → GoesOn limits mark place after)
stopped_next error limits mark place before after same on t = (
  stopped error limits mark place before after t,
  λ e. rw same (stays (first_id before) after.id after.header after.unread after.held on (rw e at t)),
)

-- no room for a packet, before anything is decoded
pub refused_next : (limits : Limits) (mark place : ℕ) (before : CodecState) → GoesOn limits mark place before
    → RunsUnder limits place (first_id before) (input_of before) before.held (Err OutOfMemory) [] before.id before.header before.unread before.held
refused_next limits mark place before on =
    (splits_here_under limits place (first_id before) before.held before.unread on.aligned.0, refl, on.aligned, was_allowed on)

-- a run that takes packets and goes on
abbrev pub HasTaken : {O : Type 0} → (O → List (List ℕ) → O → Type 0) → Limits → ℕ → ℕ → ℕ → List ℕ → List ℕ → O → O → CodecState → Type 0
HasTaken took limits mark place first d S old now state =
    (gained : List (List ℕ)) × took old gained now × SplitsUnder limits place d S first gained state.held state.unread
    × GoesOn limits mark (place_after place gained) state × (first_id state ≡ id_after first gained)

pub has_taken_more : {O : Type 0} (took : O → List (List ℕ) → O → Type 0) (joins : (a b c : O) (ps qs : List (List ℕ)) → took a ps b → took b qs c → took a (ps ++ qs) c)
    (limits : Limits) (mark place first : ℕ) (d S : List ℕ) (old mid new : O) (before after : CodecState)
    → HasTaken took limits mark place first d S old mid before → ((at : ℕ) → GoesOn limits mark at before → TakesNext took limits mark at before (Ok true) mid new after)
    → length after.unread ≤ length before.unread → after.limit ≡ before.limit → HasTaken took limits mark place first d S old new after
has_taken_more took joins limits mark place first d S old mid new before after run takes less same =
    let gained = run.0 in
    let next = takes (place_after place gained) run.3 in
    let packet = next.0 in
    let known = rw run.4 at next.2 in
    let small : after.id < 256 = let e = known.0.2 in omega arith in (
      gained ++ packet ∷ [],
      joins old mid new gained (packet ∷ []) run.1 next.1,
      rw next.3 (splits_push after.unread run.2 known.0.0 known.0.1),
      rw (next.3, same, place_after-append place gained (packet ∷ [])) (goes_on_pushed (id_after first gained) after.header packet after.unread run.3 known.0.0 known.0.3 known.1 less),
      ap (λ (z : List ℕ). open_id after.id z) next.3 ∙ next_open first gained after.id packet known.0.2 small,
    )

-- and stops
pub has_taken_all : {O : Type 0} (took : O → List (List ℕ) → O → Type 0) (limits : Limits) (mark place first : ℕ) (d S : List ℕ) (old mid : O) (before after : CodecState) (answer : Result (Unit {0}) PacketCodecError)
    (run : HasTaken took limits mark place first d S old mid before)
    → RunsUnder limits (place_after place run.0) (first_id before) (input_of before) before.held answer [] after.id after.header after.unread after.held
    → RunsUnder limits place first S d answer run.0 after.id after.header after.unread after.held
has_taken_all took limits mark place first d S old mid before after answer run stops =
    runs_still answer after.id after.header after.unread after.held run.2 (rw run.4 at stops)

-- What each call of a session does, by its answer. Each answer but these is none that it gives.
use Rattle.std.specs.Prelude.{◌≡◌, ◌⊎◌, ◌↔◌, ◌==◌, ◌&&◌, ◌||◌, nat_lt, ℕ, ℤ, pos, Bool, true, false, List, length, Option, None, IfSome, MatchOption, if◌then◌else◌}
use Rattle.mysql_wire_session.specs.declared.packet.Packet.{Packet}
use Rattle.mysql_wire_session.specs.declared.packet.Packet.TheVariants as packet
use Rattle.mysql_wire_session.specs.declared.packet.Received.{Received}
use Rattle.mysql_wire_session.specs.declared.packet.Row.{Row}
use Rattle.mysql_wire_session.specs.declared.packet.Row.TheVariants as row
use Rattle.mysql_wire_session.specs.declared.packet_kind.PacketKind.{PacketKind}
use Rattle.mysql_wire_session.specs.declared.session.front.FrontError.TheVariants.{NeedsWhole}
use Rattle.mysql_wire_session.specs.declared.side.Side.{Side}
use Rattle.mysql_wire_session.specs.Fronts.{FailsFront, TakesFront}
use Rattle.mysql_wire_session.specs.Kinds.{kind_by_front}
use Rattle.mysql_wire_session.specs.Readings.{Receives, advanced, passed}
use Rattle.mysql_wire_session.specs.Senders.{is_idle, next_sender}
use Rattle.mysql_wire_session.specs.State.{SessionState, expectation_of, initial_state, statement_of}
use Rattle.mysql_wire_c_calls.specs.declared.codes.TheConstants.{NEEDS_WHOLE, NO_MEMORY, NO_STATEMENT, NOT_A_FRONT, NOT_A_SIDE, OK, REFUSED}
use Rattle.mysql_wire_c.specs.Numbers.{kind_number, phase_number, sender_number, side_of}

-- this holds of two sessions, where both are there
abbrev pub BothSessions : Option SessionState → Option SessionState
    → (SessionState → SessionState → Type 0) → Type 0
BothSessions old new holds = IfSome old (λ before. IfSome new (λ after. holds before after))

-- a session that begins
abbrev pub new_session : SessionState
new_session = initial_state

abbrev pub is_refused_row : Row → Bool
is_refused_row (row.Refused refusal) = true
is_refused_row other = false

-- the type of its place refuses the payload
abbrev pub is_refused : Packet → Bool
is_refused (packet.Refused refusal) = true
is_refused (packet.Row values) = is_refused_row values
is_refused other = false

-- this many bytes may be the front of a payload of this length
abbrev pub is_front : ℕ → ℕ → Bool
is_front len count = (count == len) || (nat_lt count len && nat_lt 2 count)

-- a whole payload came, was read as something, and the session went on after it; this is the number
-- of its kind, and whether its type refuses it
abbrev pub Took : Side → ℕ → List ℕ → ℕ → Bool → SessionState → SessionState → Type 0
Took side id payload kind refused before after =
    (received : Received) × Receives side id payload before received
    × (after ≡ advanced received before) × (kind ≡ kind_number received.kind)
    × (refused ≡ is_refused received.packet)

pub record FollowsPacket (number id : ℕ) (payload : List ℕ) (kind : ℕ) (answer : ℤ)
    (before after : SessionState) : Type 0 where
  pub takes : answer ≡ OK
      → IfSome (side_of number) (λ side. Took side id payload kind false before after)
  pub refuses : answer ≡ REFUSED
      → IfSome (side_of number) (λ side. Took side id payload kind true before after)
  pub side : (answer ≡ NOT_A_SIDE) ↔ (side_of number ≡ None)
  pub stays : (answer ≡ OK) ⊎ (answer ≡ REFUSED) ⊎ ((after ≡ before) × (kind ≡ 0))
  pub answers : (answer ≡ OK) ⊎ (answer ≡ REFUSED) ⊎ (answer ≡ NOT_A_SIDE) ⊎ (answer ≡ NO_MEMORY)

-- the front of a payload of this length was enough, and the session went on after it; this is the
-- number of its kind
abbrev pub TookFront : Side → ℕ → ℕ → List ℕ → ℕ → SessionState → SessionState → Type 0
TookFront side id len front kind before after =
    (called : PacketKind) × TakesFront side id len front before after called
    × (kind ≡ kind_number called)

-- all of the payload is wanted
abbrev pub WantsWhole : Side → ℕ → ℕ → List ℕ → ℕ → SessionState → Type 0
WantsWhole side id len front kind state =
    (called : PacketKind) × FailsFront side id len front state (NeedsWhole called)
    × (kind ≡ kind_number called)

pub record FollowsFront (number id len : ℕ) (front : List ℕ) (kind : ℕ) (answer : ℤ)
    (before after : SessionState) : Type 0 where
  pub takes : answer ≡ OK
      → IfSome (side_of number) (λ side. TookFront side id len front kind before after)
  pub needs : answer ≡ NEEDS_WHOLE
      → IfSome (side_of number) (λ side. WantsWhole side id len front kind before)
  pub memory : answer ≡ NO_MEMORY → length front ≡ len
  pub front_is : answer ≡ NOT_A_FRONT → is_front len (length front) ≡ false
  pub has_front : (answer ≡ NOT_A_FRONT) ⊎ (answer ≡ NOT_A_SIDE)
      ⊎ (is_front len (length front) ≡ true)
  pub side : (answer ≡ NOT_A_SIDE) ↔ (side_of number ≡ None)
  pub stays : (answer ≡ OK) ⊎ (after ≡ before)
  pub none : (answer ≡ OK) ⊎ (answer ≡ NEEDS_WHOLE) ⊎ (kind ≡ 0)
  pub answers : (answer ≡ OK) ⊎ (answer ≡ NEEDS_WHOLE) ⊎ (answer ≡ NOT_A_SIDE)
      ⊎ (answer ≡ NOT_A_FRONT) ⊎ (answer ≡ NO_MEMORY)

pub record Classifies (number id len : ℕ) (front : List ℕ) (kind : ℕ) (answer : ℤ)
    (state : SessionState) : Type 0 where
  pub kind_is : answer ≡ OK → IfSome (side_of number) (λ side.
      kind ≡ kind_number (kind_by_front (expectation_of state) side id len front))
  pub front_is : answer ≡ NOT_A_FRONT → is_front len (length front) ≡ false
  pub has_front : answer ≡ OK → is_front len (length front) ≡ true
  pub side : (answer ≡ NOT_A_SIDE) ↔ (side_of number ≡ None)
  pub none : (answer ≡ OK) ⊎ (kind ≡ 0)
  pub answers : (answer ≡ OK) ⊎ (answer ≡ NOT_A_SIDE) ⊎ (answer ≡ NOT_A_FRONT)

-- the payload, of this length, was passed over
pub record Passes (number id len : ℕ) (answer : ℤ) (before after : SessionState) : Type 0 where
  pub passes : answer ≡ OK
      → IfSome (side_of number) (λ side. after ≡ passed side id len before)
  pub side : (answer ≡ NOT_A_SIDE) ↔ (side_of number ≡ None)
  pub stays : (answer ≡ OK) ⊎ (after ≡ before)
  pub answers : (answer ≡ OK) ⊎ (answer ≡ NOT_A_SIDE)

abbrev pub phase_of : SessionState → ℤ
phase_of state = pos (phase_number state.phase)

abbrev pub sender_of : SessionState → ℤ
sender_of state = pos (sender_number (next_sender state.phase))

abbrev pub status_of : SessionState → ℤ
status_of state = pos state.status.0

abbrev pub next_id_of : SessionState → ℤ
next_id_of state = pos state.next_id

abbrev pub idle_number : SessionState → ℤ
idle_number state = if is_idle state.phase then pos 1 else pos 0

-- the parameters and columns of the newest statement of this number
abbrev pub TellsStatement : ℕ → ℕ → ℕ → ℤ → SessionState → Type 0
TellsStatement number parameters columns answer state =
    MatchOption (statement_of number state.statements)
    ((answer ≡ NO_STATEMENT) × (parameters ≡ 0) × (columns ≡ 0))
    (λ statement. (answer ≡ OK) × (parameters ≡ statement.num_params)
    × (columns ≡ statement.num_columns))

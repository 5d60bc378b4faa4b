-- What the front of a payload tells.
use Rattle.std.specs.Prelude.{◌≡◌, ◌≢◌, ◌⊎◌, ◌<◌, ◌≤◌, ℕ, Bool, true, false, List, length, take}
use Rattle.mysql_wire_session.specs.Readings.{Fails, ReadsAs, Receives, after_packet, kind_of, opened_at}
use Rattle.mysql_wire_session.specs.Advance.{IsRefusedMemory, opened}
use Rattle.mysql_wire_session.specs.Kinds.{kind_by_front}
use Rattle.mysql_wire_session.specs.State.{SessionState, expectation_of}
use Rattle.mysql_wire_session.specs.declared.session.front.FrontError.{FrontError}
use Rattle.mysql_wire_session.specs.declared.session.front.FrontError.TheVariants as failed
use Rattle.mysql_wire_session.specs.declared.packet.Packet.{Packet}
use Rattle.mysql_wire_session.specs.declared.packet.Received.{Received}
use Rattle.mysql_wire_session.specs.declared.packet_kind.PacketKind.{PacketKind}
use Rattle.mysql_wire_session.specs.declared.packet_kind.PacketKind.TheVariants as kind
use Rattle.mysql_wire_session.specs.declared.phase.Phase.{Phase}
use Rattle.mysql_wire_session.specs.declared.phase.Phase.TheVariants as phase
use Rattle.mysql_wire_session.specs.declared.refusal.SessionError.{SessionError}
use Rattle.mysql_wire_session.specs.declared.side.Side.{Side}

-- these are the first bytes of a payload, three of them or more, or all
pub record IsFront (front payload : List ℕ) : Type 0 where
  pub are : front ≡ take (length front) payload
  pub enough : (3 ≤ length front) ⊎ (length front ≡ length payload)

abbrev pub are_columns : Phase → Bool
are_columns (phase.Columns left following) = true
are_columns at = false

-- what is known after a packet of this kind hangs on more than its kind and its length, where it is
-- read in this phase: what both sides can do, a status, an error that a server begins with, a count,
-- a column's type, a statement, whether a cursor is asked for
abbrev pub says_more : PacketKind → Phase → Bool
says_more kind.TlsRequest at = true
says_more kind.Login at = true
says_more kind.Ok at = true
says_more kind.Error at = true
says_more kind.Eof at = true
says_more kind.ColumnCount at = true
says_more kind.Column at = are_columns at
says_more kind.LocalInfile at = true
says_more kind.Prepared at = true
says_more kind.Execute at = true
says_more kind.Fetch at = true
says_more other at = false

-- this is known after a packet, as it was read; or whatever it may be read as
abbrev pub KnownAfter : Side → ℕ → List ℕ → SessionState → SessionState → Type 0
KnownAfter side id payload state next =
    ((read : Packet)
    × ReadsAs (opened_at side id payload state) (kind_of side id payload state) payload read
    × (next ≡ after_packet side id (kind_of side id payload state) payload read state))
    ⊎ ((read : Packet)
    → ReadsAs (opened_at side id payload state) (kind_of side id payload state) payload read
    → next ≡ after_packet side id (kind_of side id payload state) payload read state)

-- a packet of this length was taken for this, of which this front has come, and this is known after it
abbrev pub TakesFront : Side → ℕ → ℕ → List ℕ → SessionState → SessionState → PacketKind → Type 0
TakesFront side id len front state next called =
    (payload : List ℕ) → length payload ≡ len → IsFront front payload
    → (called ≡ kind_of side id payload state) × KnownAfter side id payload state next

-- why nothing is known after a packet that came whole: its type came to no answer, or memory for what
-- it says was refused
abbrev pub FailsWhole : Side → ℕ → List ℕ → SessionState → SessionError → Type 0
FailsWhole side id payload state why = Fails side id payload state why
    ⊎ ((received : Received) × Receives side id payload state received
    × IsRefusedMemory received.packet state why)

-- why nothing is known after it: more than this front is wanted, of an execution its first six bytes;
-- or it has come whole, and was not read or gone on after
abbrev pub FailsFront : Side → ℕ → ℕ → List ℕ → SessionState → FrontError → Type 0
FailsFront side id len front state (failed.NeedsWhole called) =
    (called ≡ kind_by_front (expectation_of state) side id len front) × (length front ≢ len)
    × (says_more called (opened called len state).phase ≡ true)
    × (called ≡ kind.Execute → length front < 6)
FailsFront side id len front state (failed.Session why) =
    (length front ≡ len) × FailsWhole side id front state why

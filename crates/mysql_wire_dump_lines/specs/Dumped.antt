-- What the dump writes, from the bytes that it reads.
use Rattle.std.specs.Io.KnownBytes.{Appends, Consumes}
use Rattle.std.specs.List.{flat_map}
use Rattle.std.specs.Prelude.{◌≡◌, ℕ, ◌<◌, ◌≤◌, ◌⊎◌, List, [], ◌∷◌, ◌++◌, length, nat_lt, ⊤, Bool, true, false, if◌then◌else◌, max, Option, Some, None, ◌≢◌, ◌↔◌, All}
use Rattle.mysql_wire_dump_lines.specs.declared.options.Options.{Options}
use Rattle.mysql_wire_dump_lines.specs.declared.options.Sides.{Sides}
use Rattle.mysql_wire_dump_lines.specs.declared.options.Sides.TheVariants as sides
use Rattle.mysql_wire_session.specs.declared.packet_kind.PacketKind.{PacketKind}
use Rattle.mysql_wire_session.specs.declared.packet_kind.PacketKind.TheVariants.{TooLarge}
use Rattle.wire_text.specs.declared.fields.FieldForm.{FieldForm}
use Rattle.wire_text.specs.declared.fields.FieldForm.TheVariants.{Hidden, Text, Json}
use Rattle.mysql_wire_dump_lines.specs.declared.lines.LineForm.{LineForm}
use Rattle.mysql_wire_dump_lines.specs.declared.lines.LineForm.TheVariants as line
use Rattle.mysql_wire_dump_lines.specs.declared.lines.Seen.{Seen}
use Rattle.mysql_wire_session.specs.declared.phase.Phase.{Phase}
use Rattle.mysql_wire_session.specs.declared.phase.Phase.TheVariants as phase
use Rattle.mysql_wire_session.specs.declared.side.Side.{Side}
use Rattle.mysql_wire_session.specs.declared.side.Side.TheVariants.{Client, Server}
use Rattle.mysql_wire_dump_lines.specs.declared.packet_stream.End.{End}
use Rattle.mysql_wire_dump_lines.specs.declared.packet_stream.End.TheVariants.{Encrypted}
use Rattle.mysql_wire_dump_lines.specs.Packets.{HasFields}
use Rattle.mysql_wire_session.specs.State.{SessionState, initial_state}
use Rattle.mysql_wire_session.specs.Advance.{id_after}
use Rattle.mysql_wire_session.specs.Readings.{ReadsAs, after_packet, kind_of, opened_at, passed}
use Rattle.mysql_wire_session.specs.declared.packet.Packet.{Packet}
use Rattle.mysql_wire_session.specs.declared.packet.Packet.TheVariants as packet
use Rattle.wire_text.specs.Fields.{Member, fields_text}
use Rattle.mysql_wire_dump_lines.specs.Lines.{packet_line, ending_line}
use Rattle.mysql_wire_dump_lines.specs.PacketStreams.{EndsAs, ReadWhole, framed}
use Rattle.mysql_wire_dump_lines.specs.Status.{end_status}
use Rattle.mysql_wire_dump_lines.specs.NextSenders.{next_sender}

-- a packet that is shown: who sent it, its id, its length and what it is; its payload, and what that
-- is read as; the fields after it; and what the session knew where it came
pub record Shown : Type 0 where
  pub seen : Seen
  pub payload : List ℕ
  pub packet : Packet
  pub fields : List ℕ
  pub at : SessionState

-- how the fields after a line are shown
abbrev pub form_if : Bool → LineForm → FieldForm
form_if false form = Hidden
form_if true line.Text = Text
form_if true line.Json = Json

abbrev pub field_form : Options → FieldForm
field_form options = form_if options.has_fields options.form

-- a packet of this kind and payload, which is read as this, is shown as this; its fields as text, which
-- is empty where none are asked for
pub record AreFields (form : FieldForm) (types : List ℕ) (wanted : PacketKind) (payload : List ℕ)
    (packet : Packet) (named : PacketKind) (text : List ℕ) : Type 0 where
  pub members : List Member
  pub has : HasFields types wanted payload packet named members
  pub is : text ≡ fields_text form members

-- what a packet is named by, and what was known where it was read
abbrev pub wanted_of : Shown → PacketKind
wanted_of shown = kind_of shown.seen.side shown.seen.id shown.payload shown.at

abbrev pub known_at : Shown → SessionState
known_at shown = opened_at shown.seen.side shown.seen.id shown.payload shown.at

-- its length is the payload's; it is named and read by its phase, its first byte, its length and what
-- is known, or passed over where it is above the limit; and its fields are those of what it is read as
pub record IsShown (options : Options) (shown : Shown) : Type 0 where
  pub len : shown.seen.len ≡ length shown.payload
  pub large : options.limit < length shown.payload
      → (shown.packet ≡ packet.TooLarge)
      × AreFields (field_form options) shown.at.types TooLarge [] shown.packet shown.seen.kind
      shown.fields
  pub reads : length shown.payload ≤ options.limit
      → ReadsAs (known_at shown) (wanted_of shown) shown.payload shown.packet
      × AreFields (field_form options) shown.at.types (wanted_of shown) shown.payload shown.packet
      shown.seen.kind shown.fields

-- what is known after it
abbrev pub known_behind : Options → Shown → SessionState
known_behind options shown =
    if nat_lt options.limit (length shown.payload)
    then passed shown.seen.side shown.seen.id (length shown.payload) shown.at
    else after_packet shown.seen.side shown.seen.id (wanted_of shown) shown.payload shown.packet
    shown.at

abbrev pub known_after : Options → SessionState → List Shown → SessionState
known_after options known [] = known
known_after options known (shown ∷ others) =
    known_after options (known_behind options shown) others

-- they are shown, where this was known at the first, and at each other what was known after the
-- packet before it
abbrev pub AreShown : Options → SessionState → List Shown → Type 0
AreShown options known [] = ⊤
AreShown options known (shown ∷ others) = (shown.at ≡ known) × IsShown options shown
    × AreShown options (known_behind options shown) others

-- after TLS no packet is shown
abbrev pub AreVisible : List Shown → Type 0
AreVisible shown = All (λ one. one.at.phase ≢ phase.Encrypted) shown

-- a side's packets are hidden exactly where the session has gone on to TLS
abbrev pub HidesAt : Phase → End → Type 0
HidesAt at end = (end ≡ Encrypted) ↔ (at ≡ phase.Encrypted)

abbrev pub is_of : Side → Side → Bool
is_of Client Client = true
is_of Client Server = false
is_of Server Client = false
is_of Server Server = true

-- the packets of one side, in order
abbrev pub packets_of : Side → List Shown → List (ℕ × List ℕ)
packets_of side [] = []
packets_of side (shown ∷ others) =
    if is_of side shown.seen.side then (shown.seen.id, shown.payload) ∷ packets_of side others
    else packets_of side others

-- the id of a side's first packet among these, or else of the one after them
abbrev pub first_of : Side → List Shown → Option ℕ → Option ℕ
first_of side [] behind = behind
first_of side (shown ∷ others) behind =
    if is_of side shown.seen.side then Some shown.seen.id else first_of side others behind

-- each packet is of the side whose turn it is, where this id follows the last packet; after all of
-- them stand packets of these ids, or none
abbrev pub InOrder : ℕ → List Shown → Option ℕ → Option ℕ → Type 0
InOrder next [] client server = ⊤
InOrder next (shown ∷ others) client server =
    (next_sender shown.at.phase next (first_of Client (shown ∷ others) client)
    (first_of Server (shown ∷ others) server) ≡ Some shown.seen.side)
    × InOrder (id_after shown.seen.id (length shown.payload)) others client server

-- their lines
abbrev pub lines_of : LineForm → List Shown → List ℕ
lines_of form shown =
    flat_map (λ one. packet_line form one.seen one.payload one.fields) shown

-- these bytes of one side are these packets, and end so
pub record SideEnds (bytes : List ℕ) (packets : List (ℕ × List ℕ)) (end : End) : Type 0 where
  pub rest : List ℕ
  pub is : bytes ≡ framed packets ++ rest
  pub ends : EndsAs end rest

-- how each side that is shown ends
abbrev pub ending_lines : LineForm → Sides → End → ℕ → End → ℕ → List ℕ
ending_lines form sides.Client client client_at server server_at =
    ending_line form Client client client_at
ending_lines form sides.Server client client_at server server_at =
    ending_line form Server server server_at
ending_lines form sides.Both client client_at server server_at =
    ending_line form Client client client_at ++ ending_line form Server server server_at

abbrev pub status_of : Sides → End → End → ℕ
status_of sides.Client client server = end_status client
status_of sides.Server client server = end_status server
status_of sides.Both client server = max (end_status client) (end_status server)

-- what the dump writes of the bytes of both sides, and its status: a line for each packet, in the
-- order of the session, and how the sides end
pub record Dumped (options : Options) (sides : Sides) (client server : List ℕ) (status : ℕ)
    (text : List ℕ) (client_end server_end : End) : Type 0 where
  pub shown : List Shown
  pub are_shown : AreShown options initial_state shown
  pub clients : SideEnds client (packets_of Client shown) client_end
  pub servers : SideEnds server (packets_of Server shown) server_end
  pub client_next : Option ℕ
  pub server_next : Option ℕ
  pub ordered : InOrder 0 shown client_next server_next
  pub none_left : (client_end ≡ Encrypted) ⊎ ((client_next ≡ None) × (server_next ≡ None))
  pub visible : AreVisible shown
  pub client_hides : HidesAt (known_after options initial_state shown).phase client_end
  pub server_hides : HidesAt (known_after options initial_state shown).phase server_end
  pub is : text ≡ lines_of options.form shown ++ ending_lines options.form sides client_end
      (length (framed (packets_of Client shown))) server_end
      (length (framed (packets_of Server shown)))
  pub ends : status ≡ status_of sides client_end server_end

-- a session was dumped of what was read of both sides, and ended with this status
pub record Dumps (options : Options) (sides : Sides)
    (client client_left server server_left written now : Option (List ℕ)) (status : ℕ) : Type 0 where
  pub of_client : List ℕ
  pub of_server : List ℕ
  pub text : List ℕ
  pub client_end : End
  pub server_end : End
  pub client_consumed : Consumes client client_left of_client
  pub server_consumed : Consumes server server_left of_server
  pub appended : Appends written now text
  pub dumped : Dumped options sides of_client of_server status text client_end server_end
  pub client_whole : ReadWhole client_end client_left
  pub server_whole : ReadWhole server_end server_left

-- the same over two readers and a writer
abbrev pub DumpsOver : {R S W : Type 0} → Options → Sides → (R → Option (List ℕ))
    → (S → Option (List ℕ)) → (W → Option (List ℕ)) → R → S → W → R → S → W → ℕ → Type 0
DumpsOver options sides remaining others contents client server output client_left server_left now
    status =
    Dumps options sides (remaining client) (remaining client_left) (others server)
    (others server_left) (contents output) (contents now) status

-- the dump gave up, or ended with this status
abbrev pub DumpEnds : Options → Sides
    → (client client_left server server_left written now : Option (List ℕ)) → ℕ → Type 0
DumpEnds options sides client client_left server server_left written now status =
    (status ≡ 2) ⊎ (status ≡ 6)
    ⊎ Dumps options sides client client_left server server_left written now status

-- How the dump goes from packet to packet.
use Rattle.std.specs.Prelude.{◌≡◌, ◌≢◌, ◌⊎◌, ◌<◌, ◌≤◌, ℕ, List, [], ◌∷◌, ◌++◌, length, ⊤, string_bytes, Option, Some, None, Bool, true, false, ◌↔◌}
use Rattle.std.specs.Io.KnownBytes.{Appends, Consumes}
use Rattle.mysql_wire_dump_lines.specs.declared.dump.Dump.{Dump}
use Rattle.mysql_wire_dump_lines.specs.declared.dump.SessionLines.{SessionLines}
use Rattle.mysql_wire_dump_lines.specs.Lines.{packet_line}
use Rattle.mysql_wire_dump_lines.specs.declared.packet_stream.PacketStream.{PacketStream}
use Rattle.wire_text.specs.declared.fields.FieldForm.{FieldForm}
use Rattle.mysql_wire_session.specs.declared.packet_kind.PacketKind.{PacketKind}
use Rattle.mysql_wire_session.specs.declared.packet_kind.PacketKind.TheVariants.{TooLarge}
use Rattle.mysql_wire_session.specs.declared.packet_kind.PacketKind.TheVariants as kind
use Rattle.mysql_wire_dump_lines.specs.declared.options.Options.{Options}
use Rattle.mysql_wire_session.specs.declared.phase.Phase.TheVariants as phase
use Rattle.mysql_wire_session.specs.declared.side.Side.{Side}
use Rattle.mysql_wire_session.specs.declared.side.Side.TheVariants.{Client, Server}
use Rattle.mysql_wire_dump_lines.specs.declared.packet_stream.End.TheVariants.{Encrypted}
use Rattle.mysql_wire_dump_lines.specs.declared.packet_stream.Next.{Next}
use Rattle.mysql_wire_dump_lines.specs.declared.packet_stream.Next.TheVariants.{Unread, Ended}
use Rattle.mysql_wire_dump_lines.specs.declared.packet_stream.Next.TheVariants as next
use Rattle.mysql_wire_dump_lines.specs.Dumped.{AreFields, AreShown, AreVisible, InOrder, Shown, field_form, known_after, lines_of, packets_of}
use Rattle.mysql_wire_session.specs.Advance.{id_after}
use Rattle.mysql_wire_session.specs.State.{SessionState, state_of, initial_state}
use Rattle.mysql_wire_session.specs.Readings.{ReadsAs, RowReads, after_kind, after_packet, kind_of, opened_at, passed}
use Rattle.mysql_wire_session.specs.declared.packet.Row.{Row}
use Rattle.mysql_wire_dump_lines.specs.Packets.{PutsPacket, PutsRowFields}
use Rattle.wire_text.specs.Fields.{Written, nothing_after}
use Rattle.wire_text.specs.Parts.{IsEnd}
use Rattle.mysql_wire_session.specs.declared.packet.Packet.{Packet}
use Rattle.mysql_wire_session.specs.declared.packet.Packet.TheVariants as packet
use Rattle.mysql_wire_dump_lines.specs.PacketStreams.{AtEnd, Stands, id_of, payload_of}
use Rattle.mysql_wire_dump_lines.specs.NextSenders.{next_sender}

-- what may stand next of a side: where it was not looked at, anything
abbrev pub Pends : Next → Option ℕ → Type 0
Pends Unread found = ⊤
Pends (next.Packet id) found = found ≡ Some id
Pends (Ended end) found = found ≡ None

-- the id after these packets
abbrev pub id_behind : ℕ → List Shown → ℕ
id_behind next [] = next
id_behind next (shown ∷ others) =
    id_behind (id_after shown.seen.id (length shown.payload)) others

-- so far these packets were shown, of these bytes of both sides, and so much text was written
pub record Dumping {A : Type 0} (shown : List Shown) (client server written : List ℕ) (dump : Dump A) : Type 0
  where
    pub are_shown : AreShown dump.lines.options initial_state shown
    pub known : state_of dump.lines.session ≡ known_after dump.lines.options initial_state shown
    pub clients : Stands (packets_of Client shown) client dump.client
    pub servers : Stands (packets_of Server shown) server dump.server
    pub client_limit : dump.client.limit ≡ dump.lines.options.limit
    pub server_limit : dump.server.limit ≡ dump.lines.options.limit
    pub behind : dump.lines.session.next_id ≡ id_behind 0 shown
    pub ordered : (client_next server_next : Option ℕ) → Pends dump.client.next client_next
        → Pends dump.server.next server_next → InOrder 0 shown client_next server_next
    pub lines : written ++ string_bytes dump.lines.text ≡ lines_of dump.lines.options.form shown

-- a dump that begins
pub record StartsDump {A : Type 0} (options : Options) (dump : Dump A) : Type 0 where
  pub dumps : Dumping [] [] [] [] dump
  pub options_are : dump.lines.options ≡ options
  pub client_next : dump.client.next ≡ Unread
  pub server_next : dump.server.next ≡ Unread

-- a packet above the limit was passed over
abbrev pub PassesOver : FieldForm → Side → ℕ → ℕ → SessionState → SessionState → List ℕ
    → PacketKind → Type 0
PassesOver form side id len known next fields named =
    (next ≡ passed side id len known)
    × AreFields form known.types TooLarge [] packet.TooLarge named fields

-- a packet came, was read and shown as this, and its fields were put
pub record Tells (side : Side) (id : ℕ) (payload : List ℕ) (known next : SessionState)
    (old new : Written) (named : PacketKind) : Type 0 where
  pub packet : Packet
  pub reads : ReadsAs (opened_at side id payload known) (kind_of side id payload known) payload
      packet
  pub puts : PutsPacket known.types (kind_of side id payload known) payload packet old new named
  pub goes_on : next ≡ after_packet side id (kind_of side id payload known) payload packet known

-- a row of this kind was read and shown as this, and its fields were put
pub record PutsRow (called : PacketKind) (payload : List ℕ) (known : SessionState)
    (old new : Written) (named : PacketKind) : Type 0 where
  pub row : Row
  pub reads : RowReads known called payload row
  pub puts : PutsRowFields known.types called row old new named

-- and the session goes on after it
pub record TellsRow (side : Side) (id : ℕ) (called : PacketKind) (payload : List ℕ)
    (known next : SessionState) (old new : Written) (named : PacketKind) : Type 0 where
  pub put : PutsRow called payload known old new named
  pub goes_on : next ≡ after_kind side id called (length payload) known

-- it was, and all but an end of what was put may have been written
pub record WritesRow (side : Side) (id : ℕ) (called : PacketKind) (payload : List ℕ)
    (known next : SessionState) (old new : Written) (before now : Option (List ℕ))
    (named : PacketKind) : Type 0 where
  pub whole : Written
  pub written : List ℕ
  pub tells : TellsRow side id called payload known next old whole named
  pub appended : Appends before now written
  pub ends : IsEnd written whole new

-- a packet is called this where it came
abbrev pub IsCalled : Side × ℕ × PacketKind → List ℕ → SessionState → Type 0
IsCalled came payload known = came.2 ≡ kind_of came.0 came.1 payload known

-- whether a packet is shown as one that the type of its place refuses
abbrev pub is_refused : PacketKind → Bool
is_refused (kind.Refused refusal) = true
is_refused other = false

-- a packet was named and read, and these are its fields as text
pub record NamesOne (form : FieldForm) (side : Side) (id : ℕ) (payload : List ℕ)
    (known next : SessionState) (fields : List ℕ) (named : PacketKind) : Type 0 where
  pub packet : Packet
  pub reads : ReadsAs (opened_at side id payload known) (kind_of side id payload known) payload
      packet
  pub goes_on : next ≡ after_packet side id (kind_of side id payload known) payload packet known
  pub fields_are : AreFields form known.types (kind_of side id payload known) payload packet named
      fields

-- so was it, and its fields stand after a text, which is as it was
pub record ShowsFields (side : Side) (id : ℕ) (payload : List ℕ) (known next : SessionState)
    (old new : Written) (named : PacketKind) : Type 0 where
  pub names : (form : FieldForm) (before : List ℕ) → old ≡ nothing_after form before
      → NamesOne form side id payload known next new.text named
  pub before : new.before ≡ old.before

-- so was it, and all but an end of the text may have been written
pub record WritesFields (side : Side) (id : ℕ) (payload : List ℕ) (known next : SessionState)
    (old new : Written) (before now : Option (List ℕ)) (named : PacketKind) : Type 0 where
  pub whole : Written
  pub written : List ℕ
  pub shows : ShowsFields side id payload known next old whole named
  pub appended : Appends before now written
  pub ends : written ++ (new.before ++ new.text) ≡ whole.before ++ whole.text

-- so was it, and its fields are appended
pub record PushesFields {A : Type 0} (side : Side) (id : ℕ) (payload : List ℕ)
    (old new : SessionLines A) (named : PacketKind) : Type 0 where
  pub fields : List ℕ
  pub names : NamesOne (field_form old.options) side id payload (state_of old.session)
      (state_of new.session) fields named
  pub text : string_bytes new.text ≡ string_bytes old.text ++ fields

-- so was it, and all but an end of the text may have been written
pub record WritesTheFields {A : Type 0} (side : Side) (id : ℕ) (payload : List ℕ)
    (old new : SessionLines A) (before now : Option (List ℕ)) (named : PacketKind) : Type 0 where
  pub fields : List ℕ
  pub names : NamesOne (field_form old.options) side id payload (state_of old.session)
      (state_of new.session) fields named
  pub written : List ℕ
  pub appended : Appends before now written
  pub text : written ++ string_bytes new.text ≡ string_bytes old.text ++ fields

-- so was it, and its line is appended
pub record PushesRead {A : Type 0} (side : Side) (id len : ℕ) (payload : List ℕ)
    (old new : SessionLines A) : Type 0 where
  pub kind : PacketKind
  pub fields : List ℕ
  pub names : NamesOne (field_form old.options) side id payload (state_of old.session)
      (state_of new.session) fields kind
  pub line : string_bytes new.text ≡ string_bytes old.text ++ packet_line old.options.form
      (record { side = side; id = id; len = len; kind = kind }) payload fields
  pub options_are : new.options ≡ old.options

-- so was it, and all but an end of the text may have been written
pub record WritesRead {A : Type 0} (side : Side) (id len : ℕ) (payload : List ℕ)
    (old new : SessionLines A) (before now : Option (List ℕ)) : Type 0 where
  pub kind : PacketKind
  pub fields : List ℕ
  pub names : NamesOne (field_form old.options) side id payload (state_of old.session)
      (state_of new.session) fields kind
  pub written : List ℕ
  pub appended : Appends before now written
  pub line : written ++ string_bytes new.text ≡ string_bytes old.text
      ++ packet_line old.options.form
      (record { side = side; id = id; len = len; kind = kind }) payload fields
  pub options_are : new.options ≡ old.options

-- the line of a stream's next packet is appended, and the session goes on after it; all but an end of
-- the text may have been written
pub record ShowsNext {A : Type 0} (side : Side) (source : PacketStream A)
    (old new : SessionLines A) (before now : Option (List ℕ)) : Type 0 where
  pub id : ℕ
  pub kind : PacketKind
  pub bytes : List ℕ
  pub fields : List ℕ
  pub is_next : source.next ≡ next.Packet id
  pub large : source.limit < source.len → PassesOver (field_form old.options) side id source.len
      (state_of old.session) (state_of new.session) fields kind
  pub named : source.len ≤ source.limit → NamesOne (field_form old.options) side id
      (payload_of source) (state_of old.session) (state_of new.session) fields kind
  pub held : source.len ≤ source.limit → bytes ≡ payload_of source
  pub written : List ℕ
  pub appended : Appends before now written
  pub line : written ++ string_bytes new.text ≡ string_bytes old.text
      ++ packet_line old.options.form
      (record { side = side; id = id; len = source.len; kind = kind }) bytes fields
  pub options_are : new.options ≡ old.options

-- it is this side's turn
abbrev pub IsTurn : {A : Type 0} → Side → Dump A → Type 0
IsTurn side dump =
    next_sender dump.lines.session.phase dump.lines.session.next_id (id_of dump.client.next) (id_of dump.server.next)
    ≡ Some side

-- both sides were looked at
abbrev pub IsLooked : {A : Type 0} → Dump A → Type 0
IsLooked dump = (dump.client.next ≢ Unread) × (dump.server.next ≢ Unread)

-- one packet more is shown, of the side whose turn it is, and this part of the text was written
pub record ShowsPacket {A : Type 0} (side : Side) (old new : Dump A)
    (before now : Option (List ℕ)) : Type 0 where
  pub part : List ℕ
  pub appended : Appends before now part
  pub more : (shown : List Shown) (client server written : List ℕ)
      → Dumping shown client server written old → IsTurn side old → IsLooked old
      → (one : Shown) × Dumping (shown ++ one ∷ []) client server (written ++ part) new
  pub options_are : new.lines.options ≡ old.lines.options
  pub client_seen : old.client.next ≢ Ended Encrypted → new.client.next ≢ Ended Encrypted
  pub server_seen : old.server.next ≢ Ended Encrypted → new.server.next ≢ Ended Encrypted
  pub client_end : (left : Option (List ℕ)) → AtEnd old.client.next left
      → AtEnd new.client.next left
  pub server_end : (left : Option (List ℕ)) → AtEnd old.server.next left
      → AtEnd new.server.next left

-- what was read of both sides, shown and written so far
pub record SoFar {A : Type 0} (dump : Dump A)
    (client client_left server server_left written now : Option (List ℕ)) : Type 0 where
  pub shown : List Shown
  pub of_client : List ℕ
  pub of_server : List ℕ
  pub text : List ℕ
  pub client_consumed : Consumes client client_left of_client
  pub server_consumed : Consumes server server_left of_server
  pub appended : Appends written now text
  pub dumping : Dumping shown of_client of_server text dump
  pub visible : AreVisible shown
  pub client_seen : dump.client.next ≢ Ended Encrypted
  pub server_seen : dump.server.next ≢ Ended Encrypted
  pub client_end : AtEnd dump.client.next client_left
  pub server_end : AtEnd dump.server.next server_left

-- and it goes on from there: the session has not gone on to TLS
pub record Going {A : Type 0} (dump : Dump A)
    (client client_left server server_left written now : Option (List ℕ)) : Type 0 where
  pub so_far : SoFar dump client client_left server server_left written now
  pub is_open : dump.lines.session.phase ≢ phase.Encrypted

-- what a dump that began showed of the bytes of both sides, and wrote
pub record ShowsAll {A : Type 0} (dump : Dump A)
    (client client_left server server_left written now : Option (List ℕ)) : Type 0 where
  pub shown : List Shown
  pub of_client : List ℕ
  pub of_server : List ℕ
  pub text : List ℕ
  pub client_consumed : Consumes client client_left of_client
  pub server_consumed : Consumes server server_left of_server
  pub appended : Appends written now text
  pub are_shown : AreShown dump.lines.options initial_state shown
  pub visible : AreVisible shown
  pub known : state_of dump.lines.session ≡ known_after dump.lines.options initial_state shown
  pub client_hides : (dump.client.next ≡ Ended Encrypted) ↔ (dump.lines.session.phase ≡ phase.Encrypted)
  pub server_hides : (dump.server.next ≡ Ended Encrypted) ↔ (dump.lines.session.phase ≡ phase.Encrypted)
  pub clients : Stands (packets_of Client shown) of_client dump.client
  pub servers : Stands (packets_of Server shown) of_server dump.server
  pub client_next : Option ℕ
  pub server_next : Option ℕ
  pub ordered : InOrder 0 shown client_next server_next
  pub none_left : (dump.client.next ≡ Ended Encrypted)
      ⊎ ((client_next ≡ None) × (server_next ≡ None))
  pub lines : text ++ string_bytes dump.lines.text ≡ lines_of dump.lines.options.form shown
  pub client_end : AtEnd dump.client.next client_left
  pub server_end : AtEnd dump.server.next server_left

-- from what was shown so far a dump came here, and there may be more, or all is shown
abbrev pub GoesTo : {A : Type 0} → Bool → Dump A → (client client_left server server_left written now : Option (List ℕ))
    → Type 0
GoesTo true = Going
GoesTo false = ShowsAll

abbrev pub Goes : {A : Type 0} → (old new : Dump A)
    (client client_left server server_left written now : Option (List ℕ)) → Bool → Type 0
Goes old new client client_left server server_left written now more =
    (all_client all_server before : Option (List ℕ))
    → Going old all_client client all_server server before written
    → GoesTo more new all_client client_left all_server server_left before now

-- the same over two readers and a writer
abbrev pub GoesOver : {A R S W : Type 0} → (R → Option (List ℕ)) → (S → Option (List ℕ))
    → (W → Option (List ℕ)) → Dump A → R → S → W → Dump A → R → S → W → Bool → Type 0
GoesOver remaining others contents old client server output new client_left server_left now more =
    Goes old new (remaining client) (remaining client_left) (others server) (others server_left)
    (contents output) (contents now) more

-- text was written, where there was much of it
abbrev pub WritesMuch : {A W : Type 0} → (W → Option (List ℕ)) → Dump A → W → Dump A → W → Type 0
WritesMuch contents old output new now =
    (written : List ℕ) × Appends (contents output) (contents now) written
    × (string_bytes old.lines.text ≡ written ++ string_bytes new.lines.text)
    × (new ≡ record old { lines = record old.lines { text = new.lines.text } })

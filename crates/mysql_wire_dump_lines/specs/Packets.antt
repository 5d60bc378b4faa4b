-- The fields of each packet.
use Rattle.std.specs.Cow.{cow_slice_items}
use Rattle.std.specs.Prelude.{◌≡◌, ℕ, Bool, true, false, List, [], ◌∷◌, codes, Option, Some, None}
use Rattle.mysql_wire_dump_lines.specs.AnswerFields.{column_count_fields, column_fields, eof_fields, error_fields, local_infile_fields, ok_fields, prepared_fields, progress_fields}
use Rattle.mysql_wire_dump_lines.specs.CommandFields.{execute_fields, fetch_fields, long_data_fields, number_fields, plain_fields, prepare_fields}
use Rattle.mysql_wire_dump_lines.specs.ConnectionFields.{auth_answer_fields, auth_more_data_fields, auth_switch_fields, greeting_fields, login_fields, tls_request_fields}
use Rattle.mysql_wire_dump_lines.specs.ValueFields.{AreTexts, AreRowFields, EndsRow}
use Rattle.mysql_wire_session.specs.declared.packet.Packet.{Packet}
use Rattle.mysql_wire_session.specs.declared.packet.Packet.TheVariants as packet
use Rattle.mysql_wire_session.specs.declared.packet.Row.{Row}
use Rattle.mysql_wire_session.specs.declared.packet.Row.TheVariants as row
use Rattle.mysql_wire_session.specs.declared.packet_kind.PacketKind.{PacketKind}
use Rattle.mysql_wire_session.specs.declared.packet_kind.PacketKind.TheVariants as kind
use Rattle.mysql_wire_session.specs.declared.refusal.Refusal.{Refusal}
use Rattle.std.specs.Io.KnownBytes.{Appends}
use Rattle.wire_text.specs.Parts.{IsEnd}
use Rattle.wire_text.specs.Fields.{Member, Octets, Puts, Words, Written}

-- bytes that are not read further
abbrev pub as_bytes : List ℕ → List ℕ → List Member
as_bytes name bytes = (name, Octets bytes) ∷ []

abbrev pub as_text : List ℕ → List ℕ → List Member
as_text name text = (name, Words text) ∷ []

-- the fields of a packet that is no row, whose values are known
abbrev pub packet_fields : Packet → List Member
packet_fields (packet.Greeting greeting) = greeting_fields greeting
packet_fields (packet.TlsRequest request) = tls_request_fields request
packet_fields (packet.Login login) = login_fields login
packet_fields (packet.AuthAnswer answer) = auth_answer_fields answer
packet_fields (packet.AuthSwitch request) = auth_switch_fields request
packet_fields (packet.AuthMoreData more) = auth_more_data_fields more
packet_fields (packet.Ok ok) = ok_fields ok
packet_fields (packet.RowsEnd ok) = ok_fields ok
packet_fields (packet.Error error) = error_fields error
packet_fields (packet.Progress report) = progress_fields report
packet_fields (packet.Eof eof) = eof_fields eof
packet_fields (packet.LocalInfile request) = local_infile_fields request
packet_fields (packet.ColumnCount count) = column_count_fields count
packet_fields (packet.Column column) = column_fields column
packet_fields (packet.Prepared statement) = prepared_fields statement
packet_fields (packet.Command command) = plain_fields command
packet_fields (packet.Prepare command) = prepare_fields command
packet_fields (packet.Execute command) = execute_fields command
packet_fields (packet.ExecuteUnknown number) = number_fields number
packet_fields (packet.LongData command) = long_data_fields command
packet_fields (packet.CloseStatement command) = number_fields command.statement_id
packet_fields (packet.ResetStatement command) = number_fields command.statement_id
packet_fields (packet.Fetch command) = fetch_fields command
packet_fields (packet.Statistics statistics) =
    as_text (codes "statistics") (cow_slice_items statistics.text.0)
packet_fields (packet.OtherCommand command) = as_bytes (codes "payload") command.now
packet_fields (packet.TableColumn column) = as_bytes (codes "column") column.now
packet_fields (packet.BinaryLogEvent event) = as_bytes (codes "event") event.now
packet_fields other = []

-- a row is one, or a value of it is refused for this
abbrev pub row_kind : PacketKind → Option Refusal → PacketKind
row_kind wanted None = wanted
row_kind wanted (Some refusal) = kind.Refused refusal

-- what a packet of this kind is shown as: what its type refuses is told by why
abbrev pub shown_kind : PacketKind → Packet → PacketKind
shown_kind wanted (packet.Refused refusal) = kind.Refused refusal
shown_kind wanted other = wanted

-- a row of this kind is shown as this, with these fields: its values, under the types of the columns,
-- as far as none is refused
abbrev pub HasRowFields : List ℕ → PacketKind → Row → PacketKind → List Member → Type 0
HasRowFields types wanted (row.Text columns values) named members =
    (refusal : Option Refusal) × (named ≡ row_kind wanted refusal)
    × ((rest : List ℕ) × AreTexts 0 values.now members rest
    × EndsRow columns refusal members rest)
HasRowFields types wanted (row.Binary columns read) named members =
    (refusal : Option Refusal) × (named ≡ row_kind wanted refusal)
    × AreRowFields columns types read refusal members
HasRowFields types wanted (row.Unread payload) named members =
    (named ≡ wanted) × (members ≡ as_bytes (codes "values") payload.now)
HasRowFields types wanted (row.Refused refusal) named members =
    (named ≡ kind.Refused refusal) × (members ≡ [])

-- a packet of this kind is shown as this, with the fields of what it is read as
abbrev pub HasOwnFields : List ℕ → PacketKind → Packet → PacketKind → List Member → Type 0
HasOwnFields types wanted (packet.Row read) named members =
    HasRowFields types wanted read named members
HasOwnFields types wanted other named members =
    (named ≡ shown_kind wanted other) × (members ≡ packet_fields other)

-- packets of this kind are shown as they came, whatever they are read as
abbrev pub is_shown_whole : PacketKind → Bool
is_shown_whole kind.FieldList = true
is_shown_whole kind.SetOption = true
is_shown_whole kind.StatisticsRequest = true
is_shown_whole kind.ResetConnection = true
is_shown_whole kind.BinaryLogRequest = true
is_shown_whole kind.OtherCommand = true
is_shown_whole other = false

abbrev pub HasFieldsIf : Bool → List ℕ → PacketKind → List ℕ → Packet → PacketKind → List Member
    → Type 0
HasFieldsIf true types wanted payload read named members =
    (named ≡ wanted) × (members ≡ as_bytes (codes "payload") payload)
HasFieldsIf false types wanted payload read named members =
    HasOwnFields types wanted read named members

-- a packet of this kind and payload, which is read as this, is shown as this, with these fields
abbrev pub HasFields : List ℕ → PacketKind → List ℕ → Packet → PacketKind → List Member → Type 0
HasFields types wanted payload read named members =
    HasFieldsIf (is_shown_whole wanted) types wanted payload read named members

-- a row's fields were put
pub record PutsRowFields (types : List ℕ) (wanted : PacketKind) (read : Row) (old new : Written)
    (named : PacketKind) : Type 0 where
  pub members : List Member
  pub has : HasRowFields types wanted read named members
  pub puts : Puts members old new

-- they were put, and all but an end of them may have been written
pub record WritesRowFields (types : List ℕ) (wanted : PacketKind) (read : Row) (old new : Written)
    (before now : Option (List ℕ)) (named : PacketKind) : Type 0 where
  pub whole : Written
  pub written : List ℕ
  pub puts : PutsRowFields types wanted read old whole named
  pub appended : Appends before now written
  pub ends : IsEnd written whole new

-- the fields of what a packet is read as were put
pub record PutsOwn (types : List ℕ) (wanted : PacketKind) (read : Packet) (old new : Written)
    (named : PacketKind) : Type 0 where
  pub members : List Member
  pub has : HasOwnFields types wanted read named members
  pub puts : Puts members old new

-- a packet's fields were put
pub record PutsPacket (types : List ℕ) (wanted : PacketKind) (payload : List ℕ) (read : Packet)
    (old new : Written) (named : PacketKind) : Type 0 where
  pub members : List Member
  pub has : HasFields types wanted payload read named members
  pub puts : Puts members old new

-- What a packet is, by its phase, its first byte and its length.
use Rattle.std.specs.List.{starts_with}
use Rattle.std.specs.Prelude.{ℕ, ◌==◌, eqb, ◌&&◌, not, nat_lt, Bool, true, false, if◌then◌else◌, List, [], ◌∷◌, length, Option, Some, None}
use Rattle.mysql_wire_parts.specs.Optional.{has}
use Rattle.mysql_wire_parts.specs.Places.{is_short}
use Rattle.mysql_wire_session.specs.declared.packet_kind.PacketKind.{PacketKind}
use Rattle.mysql_wire_session.specs.declared.packet_kind.PacketKind.TheVariants as kind
use Rattle.mysql_wire_session.specs.declared.classify.Expectation.{Expectation}
use Rattle.mysql_wire_session.specs.declared.phase.AfterColumns.{AfterColumns}
use Rattle.mysql_wire_session.specs.declared.phase.AfterColumns.TheVariants as after
use Rattle.mysql_wire_session.specs.declared.phase.Phase.{Phase}
use Rattle.mysql_wire_session.specs.declared.phase.Phase.TheVariants as phase
use Rattle.mysql_wire_session.specs.declared.phase.RowForm.{RowForm}
use Rattle.mysql_wire_session.specs.declared.phase.RowForm.TheVariants as form
use Rattle.mysql_wire_session.specs.declared.refusal.Refusal.TheVariants.{UnexpectedEnd, OtherHeader}
use Rattle.mysql_wire_session.specs.declared.side.Side.{Side}
use Rattle.mysql_wire_session.specs.declared.side.Side.TheVariants.{Client, Server}

abbrev pub first_byte : List ℕ → Option ℕ
first_byte [] = None
first_byte (byte ∷ bytes) = Some byte

-- COM_STMT_EXECUTE asks for a cursor: CURSOR_TYPE_READ_ONLY, the one type that servers have, is among
-- its flags, which follow the command's number and the statement's
abbrev pub asks_for_cursor : List ℕ → Bool
asks_for_cursor (a ∷ b ∷ c ∷ d ∷ e ∷ flags ∷ bytes) = has flags 0x1
asks_for_cursor bytes = false

-- the error 65535: how far a command has come
abbrev pub is_report : List ℕ → Bool
is_report payload = starts_with eqb payload (0xff ∷ 0xff ∷ 0xff ∷ [])

-- the command of this number
abbrev pub command_kind : ℕ → PacketKind
command_kind number =
    if number == 0x01 then kind.Quit
    else if number == 0x02 then kind.InitDatabase
    else if number == 0x03 then kind.Query
    else if number == 0x04 then kind.FieldList
    else if number == 0x09 then kind.StatisticsRequest
    else if number == 0x0e then kind.Ping
    else if number == 0x11 then kind.ChangeUser
    else if number == 0x12 then kind.BinaryLogRequest
    else if number == 0x16 then kind.Prepare
    else if number == 0x17 then kind.Execute
    else if number == 0x18 then kind.LongData
    else if number == 0x19 then kind.CloseStatement
    else if number == 0x1a then kind.ResetStatement
    else if number == 0x1b then kind.SetOption
    else if number == 0x1c then kind.Fetch
    else if number == 0x1e then kind.BinaryLogRequest
    else if number == 0x1f then kind.ResetConnection
    else kind.OtherCommand

abbrev pub first_command : Option ℕ → PacketKind
first_command None = kind.Refused UnexpectedEnd
first_command (Some number) = command_kind number

abbrev pub login_kind : ℕ → PacketKind
login_kind len = if len == 32 then kind.TlsRequest else kind.Login

-- a client's packet that is numbered otherwise than 0
abbrev pub later_kind : Phase → ℕ → PacketKind
later_kind phase.Greeting len = login_kind len
later_kind phase.Login len = login_kind len
later_kind phase.Authentication len = kind.AuthAnswer
later_kind phase.Command len = kind.File
later_kind phase.Answer len = kind.File
later_kind phase.PrepareAnswer len = kind.File
later_kind phase.OptionAnswer len = kind.File
later_kind phase.Statistics len = kind.File
later_kind phase.FieldList len = kind.File
later_kind phase.BinaryLog len = kind.File
later_kind (phase.Columns left following) len = kind.File
later_kind (phase.ColumnsEnd following) len = kind.File
later_kind phase.Rows len = kind.File
later_kind phase.File len = kind.File
later_kind phase.Closed len = kind.File
later_kind phase.Encrypted len = kind.File

-- a client's packet of this id begins a command, where this id follows the last packet's: it is
-- numbered 0, and is none of the pieces of a file, whose ids go on after 255
abbrev pub is_command : Phase → ℕ → ℕ → Bool
is_command phase.File next_id id = (id == 0) && not (next_id == 0)
is_command at next_id id = id == 0

-- a client's packet
abbrev pub client_kind : Expectation → ℕ → Option ℕ → ℕ → PacketKind
client_kind expected id first len =
    if is_command expected.phase expected.next_id id then first_command first
    else later_kind expected.phase len

-- what a server says first
abbrev pub greeting_kind : ℕ → PacketKind
greeting_kind first =
    if first == 0x0a then kind.Greeting
    else if first == 0xff then kind.Error
    else kind.Refused OtherHeader

-- what it says while the client authenticates itself
abbrev pub outcome_kind : ℕ → PacketKind
outcome_kind first =
    if first == 0x00 then kind.Ok
    else if first == 0x01 then kind.AuthMoreData
    else if first == 0xfe then kind.AuthSwitch
    else if first == 0xff then kind.Error
    else kind.Refused OtherHeader

abbrev pub done_kind : RowForm → ℕ → PacketKind
done_kind form.Unknown len = if len == 12 then kind.Prepared else kind.Ok
done_kind form.Text len = kind.Ok
done_kind form.Binary len = kind.Ok

-- the first packet of an answer; where the command was not seen, 12 bytes answer a COM_STMT_PREPARE
abbrev pub answer_kind : RowForm → ℕ → ℕ → PacketKind
answer_kind rows first len =
    if first == 0x00 then done_kind rows len
    else if first == 0xfb then kind.LocalInfile
    else if first == 0xff then kind.Error
    else kind.ColumnCount

abbrev pub prepare_kind : ℕ → PacketKind
prepare_kind first =
    if first == 0x00 then kind.Prepared
    else if first == 0xff then kind.Error
    else kind.Refused OtherHeader

abbrev pub option_kind : ℕ → ℕ → PacketKind
option_kind first len = if first == 0xfe then kind.Eof else answer_kind form.Text first len

abbrev pub statistics_kind : ℕ → PacketKind
statistics_kind first = if first == 0xff then kind.Error else kind.Statistics

-- the columns of a table
abbrev pub field_kind : Bool → ℕ → ℕ → PacketKind
field_kind is_eof_deprecated first len =
    if first == 0xff then kind.Error
    else if (first == 0xfe) && is_short is_eof_deprecated len then kind.Eof
    else kind.Column

-- the events of a binary log
abbrev pub event_kind : ℕ → PacketKind
event_kind first =
    if first == 0x00 then kind.BinaryLogEvent
    else if first == 0xfe then kind.Eof
    else if first == 0xff then kind.Error
    else kind.Refused OtherHeader

abbrev pub column_kind : ℕ → PacketKind
column_kind first = if first == 0xff then kind.Error else kind.Column

abbrev pub values_kind : RowForm → PacketKind
values_kind form.Binary = kind.BinaryRow
values_kind form.Text = kind.Row
values_kind form.Unknown = kind.Row

abbrev pub row_kind : RowForm → Bool → ℕ → ℕ → PacketKind
row_kind rows is_eof_deprecated first len =
    if first == 0xff then kind.Error
    else if (first == 0xfe) && is_short is_eof_deprecated len then kind.Eof
    else values_kind rows

abbrev pub no_end_kind : AfterColumns → RowForm → ℕ → ℕ → PacketKind
no_end_kind after.Rows rows first len = row_kind rows true first len
no_end_kind (after.StatementColumns count) rows first len = column_kind first
no_end_kind after.Command rows first len = answer_kind form.Unknown first len

-- the EOF after definitions of columns; where it is none, the client wants none
abbrev pub columns_end_kind : AfterColumns → RowForm → ℕ → ℕ → PacketKind
columns_end_kind following rows first len =
    if (first == 0xfe) && (len == 5) then kind.Eof else no_end_kind following rows first len

-- an empty packet of a server
abbrev pub empty_kind : Phase → RowForm → PacketKind
empty_kind phase.Rows rows = values_kind rows
empty_kind phase.Statistics rows = kind.Statistics
empty_kind phase.Greeting rows = kind.Refused UnexpectedEnd
empty_kind phase.Login rows = kind.Refused UnexpectedEnd
empty_kind phase.Authentication rows = kind.Refused UnexpectedEnd
empty_kind phase.Command rows = kind.Refused UnexpectedEnd
empty_kind phase.Answer rows = kind.Refused UnexpectedEnd
empty_kind phase.PrepareAnswer rows = kind.Refused UnexpectedEnd
empty_kind phase.OptionAnswer rows = kind.Refused UnexpectedEnd
empty_kind phase.FieldList rows = kind.Refused UnexpectedEnd
empty_kind phase.BinaryLog rows = kind.Refused UnexpectedEnd
empty_kind (phase.Columns left following) rows = kind.Refused UnexpectedEnd
empty_kind (phase.ColumnsEnd following) rows = kind.Refused UnexpectedEnd
empty_kind phase.File rows = kind.Refused UnexpectedEnd
empty_kind phase.Closed rows = kind.Refused UnexpectedEnd
empty_kind phase.Encrypted rows = kind.Refused UnexpectedEnd

-- a server's packet in a phase
abbrev pub placed_kind : Phase → Bool → RowForm → ℕ → ℕ → ℕ → PacketKind
placed_kind phase.Greeting is_eof_deprecated rows id first len =
    if id == 0 then greeting_kind first else answer_kind form.Unknown first len
placed_kind phase.Login is_eof_deprecated rows id first len = outcome_kind first
placed_kind phase.Authentication is_eof_deprecated rows id first len = outcome_kind first
placed_kind phase.Answer is_eof_deprecated rows id first len = answer_kind rows first len
placed_kind phase.File is_eof_deprecated rows id first len = answer_kind rows first len
placed_kind phase.PrepareAnswer is_eof_deprecated rows id first len = prepare_kind first
placed_kind phase.OptionAnswer is_eof_deprecated rows id first len = option_kind first len
placed_kind phase.Statistics is_eof_deprecated rows id first len = statistics_kind first
placed_kind phase.FieldList is_eof_deprecated rows id first len =
    field_kind is_eof_deprecated first len
placed_kind phase.BinaryLog is_eof_deprecated rows id first len = event_kind first
placed_kind (phase.Columns left following) is_eof_deprecated rows id first len = column_kind first
placed_kind (phase.ColumnsEnd following) is_eof_deprecated rows id first len =
    columns_end_kind following rows first len
placed_kind phase.Rows is_eof_deprecated rows id first len =
    row_kind rows is_eof_deprecated first len
placed_kind phase.Command is_eof_deprecated rows id first len = answer_kind form.Unknown first len
placed_kind phase.Closed is_eof_deprecated rows id first len = answer_kind form.Unknown first len
placed_kind phase.Encrypted is_eof_deprecated rows id first len =
    answer_kind form.Unknown first len

abbrev pub server_kind : Expectation → ℕ → ℕ → ℕ → PacketKind
server_kind expected id first len =
    placed_kind expected.phase expected.is_eof_deprecated expected.row_form id first len

abbrev pub any_server_kind : Expectation → ℕ → Option ℕ → ℕ → PacketKind
any_server_kind expected id None len = empty_kind expected.phase expected.row_form
any_server_kind expected id (Some first) len = server_kind expected id first len

-- what a packet of this length is, whose first chunk bears this id, by the front of its payload: the
-- first three bytes, or all where there are fewer
abbrev pub kind_by_front : Expectation → Side → ℕ → ℕ → List ℕ → PacketKind
kind_by_front expected Client id len front = client_kind expected id (first_byte front) len
kind_by_front expected Server id len front =
    if is_report front then kind.Progress
    else any_server_kind expected id (first_byte front) len

-- what a packet is, where the type of its kind reads it
abbrev pub kind_at : Expectation → Side → ℕ → List ℕ → PacketKind
kind_at expected side id payload = kind_by_front expected side id (length payload) payload

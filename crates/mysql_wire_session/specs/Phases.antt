-- What is waited for after a packet.
use Rattle.std.specs.Prelude.{ℕ, ◌-◌, ◌&&◌, not, nat_lt, Bool, true, false, if◌then◌else◌}
use Rattle.mysql_wire_parts.specs.Optional.{has}
use Rattle.mysql_wire_session.specs.declared.packet_kind.PacketKind.{PacketKind}
use Rattle.mysql_wire_session.specs.declared.packet_kind.PacketKind.TheVariants as kind
use Rattle.mysql_wire_session.specs.declared.phase.AfterColumns.{AfterColumns}
use Rattle.mysql_wire_session.specs.declared.phase.AfterColumns.TheVariants as after
use Rattle.mysql_wire_session.specs.declared.phase.Phase.{Phase}
use Rattle.mysql_wire_session.specs.declared.phase.Phase.TheVariants as phase
use Rattle.mysql_wire_session.specs.declared.phase.RowForm.{RowForm}
use Rattle.mysql_wire_session.specs.declared.phase.RowForm.TheVariants as form

-- this many definitions of a statement's columns, where it has some, and then the next command
abbrev pub statement_columns : ℕ → Phase
statement_columns count =
    if nat_lt 0 count then phase.Columns count after.Command else phase.Command

-- after the end of the definitions
abbrev pub after_definitions : AfterColumns → Phase
after_definitions after.Rows = phase.Rows
after_definitions (after.StatementColumns count) = statement_columns count
after_definitions after.Command = phase.Command

-- after the last definition: the EOF that ends them, where the client wants it
abbrev pub after_columns : Bool → AfterColumns → Phase
after_columns true following = after_definitions following
after_columns false following = phase.ColumnsEnd following

-- after one of this many definitions
abbrev pub after_column : Bool → ℕ → AfterColumns → Phase
after_column is_eof_deprecated left following =
    if nat_lt 1 left then phase.Columns (left - 1) following
    else after_columns is_eof_deprecated following

abbrev pub past_column : Bool → Phase → Phase
past_column is_eof_deprecated (phase.Columns left following) =
    after_column is_eof_deprecated left following
past_column is_eof_deprecated at = at

-- what is waited for after a command
abbrev pub command_phase : PacketKind → Phase
command_phase kind.Quit = phase.Closed
command_phase kind.ChangeUser = phase.Authentication
command_phase kind.Prepare = phase.PrepareAnswer
command_phase kind.LongData = phase.Command
command_phase kind.CloseStatement = phase.Command
command_phase kind.Fetch = phase.Rows
command_phase kind.FieldList = phase.FieldList
command_phase kind.StatisticsRequest = phase.Statistics
command_phase kind.BinaryLogRequest = phase.BinaryLog
command_phase kind.SetOption = phase.OptionAnswer
command_phase kind.OtherCommand = phase.OptionAnswer
command_phase named = phase.Answer

-- how the values of its rows are written
abbrev pub command_rows : PacketKind → RowForm
command_rows kind.Execute = form.Binary
command_rows kind.Fetch = form.Unknown
command_rows named = form.Text

-- after an error; a server may begin with one, and lets a client that it refuses, or that hasn't
-- logged in, say no more
abbrev pub error_phase : Phase → Phase
error_phase phase.Greeting = phase.Login
error_phase phase.Login = phase.Closed
error_phase phase.Authentication = phase.Closed
error_phase at = phase.Command

-- after an EOF, or the OK in its place
abbrev pub eof_phase : Phase → Phase
eof_phase (phase.ColumnsEnd following) = phase.ColumnsEnd following
eof_phase at = phase.Command

-- after an OK: where the client authenticates itself, it is in
abbrev pub ok_phase : Phase → Phase
ok_phase phase.Login = phase.Authentication
ok_phase phase.Authentication = phase.Authentication
ok_phase at = phase.Command

-- after a server's packet of this kind, whether or not its type reads it
abbrev pub server_phase : PacketKind → Bool → Phase → Phase
server_phase kind.Greeting is_eof_deprecated at = phase.Login
server_phase kind.AuthSwitch is_eof_deprecated at = phase.Authentication
server_phase kind.AuthMoreData is_eof_deprecated at = phase.Authentication
server_phase kind.Error is_eof_deprecated at = error_phase at
server_phase kind.Eof is_eof_deprecated at = eof_phase at
server_phase kind.Ok is_eof_deprecated at = ok_phase at
server_phase kind.LocalInfile is_eof_deprecated at = phase.Command
server_phase kind.ColumnCount is_eof_deprecated at = phase.Command
server_phase kind.Prepared is_eof_deprecated at = phase.Command
server_phase kind.Statistics is_eof_deprecated at = phase.Command
server_phase kind.Column is_eof_deprecated at = past_column is_eof_deprecated at
server_phase named is_eof_deprecated at = at

-- where an answer has ended: SERVER_MORE_RESULTS_EXISTS says whether another follows
abbrev pub after_answer : ℕ → Phase
after_answer status = if has status 0x8 then phase.Answer else phase.Command

abbrev pub done_phase : Phase → ℕ → Phase
done_phase phase.Authentication status = phase.Command
done_phase at status = after_answer status

-- SERVER_STATUS_CURSOR_EXISTS says that a cursor has the rows; with SERVER_MORE_RESULTS_EXISTS it is
-- one that a stored procedure has open, and the rows of this result follow
abbrev pub opens_cursor : ℕ → Bool
opens_cursor status = has status 0x40 && not (has status 0x8)

-- no rows follow the end of definitions where the command wants a cursor, and the status says that
-- one was opened
abbrev pub ended_phase : Bool → Phase → ℕ → Phase
ended_phase wants_cursor (phase.ColumnsEnd after.Rows) status =
    if wants_cursor && opens_cursor status then phase.Command else phase.Rows
ended_phase wants_cursor (phase.ColumnsEnd following) status = after_definitions following
ended_phase wants_cursor at status = after_answer status

-- a server that begins with an error says no more
abbrev pub failed_phase : Phase → Phase
failed_phase phase.Login = phase.Closed
failed_phase at = at

-- What a payload of each kind is read as. `ghosts.reads_whole` of a type is what its `impl Payload`
-- says.
use Rattle.std.specs.Prelude.{◌≡◌, ◌⊎◌, ◌&&◌, ◌==◌, not, if◌then◌else◌, nat_lt, ℕ, ⊤, Bool, true, false, List, take, drop, length, Option, Some, None, Result, Ok, Err}
use denote.Param.{number}
use Rattle.wire_buf.specs.Numbers.{le_number}
use Rattle.mysql_wire_session.specs.declared.client_command.ClientCommand.TheVariants as command
use Rattle.mysql_wire_session.specs.declared.packet_kind.PacketKind.{PacketKind}
use Rattle.mysql_wire_session.specs.declared.packet_kind.PacketKind.TheVariants as kind
use Rattle.mysql_wire_session.specs.declared.phase.Phase.{Phase}
use Rattle.mysql_wire_session.specs.declared.phase.Phase.TheVariants as phase
use Rattle.mysql_wire_session.specs.declared.phase.RowForm.{RowForm}
use Rattle.mysql_wire_session.specs.declared.phase.RowForm.TheVariants as form
use Rattle.mysql_wire_session.specs.declared.refusal.Refusal.{Refusal}
use Rattle.mysql_wire_session.specs.declared.refusal.Refusal.TheVariants.{OtherHeader}
use Rattle.mysql_wire_session.specs.declared.refusal.SessionError.{SessionError}
use Rattle.mysql_wire_session.specs.declared.side.Side.{Side}
use Rattle.mysql_wire_packets.specs.Oks.{ok_form}
use Rattle.mysql_wire_parts.specs.Optional.{has_query_attributes}
use Rattle.mysql_wire_parts.specs.declared.places.PayloadError.{PayloadError}
use Rattle.mysql_wire_statements.specs.declared.binary_row.BinaryRow.{BinaryRow}
use Rattle.mysql_wire_statements.specs.declared.com_stmt_prepare_ok.ComStmtPrepareOk.{ComStmtPrepareOk}
use Rattle.wire_const.specs.declared.flag_sets.capability.CapabilityFlags.{CapabilityFlags}
use Rattle.wire_const.specs.declared.flag_sets.mariadb.MariadbCapabilities.{MariadbCapabilities}
use Rattle.mysql_wire_connection.specs.contracts.payload.AuthMoreDataPayload.TheImpl as more_data
use Rattle.mysql_wire_connection.specs.contracts.payload.AuthSwitchRequestPayload.TheImpl as auth_switch
use Rattle.mysql_wire_connection.specs.contracts.payload.AuthSwitchResponsePayload.TheImpl as auth_answer
use Rattle.mysql_wire_statements.specs.contracts.payload.BinaryRowPayload.TheImpl as binary_row
use Rattle.mysql_wire_queries.specs.contracts.payload.ColumnCountPayload.TheImpl as columns
use Rattle.mysql_wire_queries.specs.contracts.payload.ColumnDefinition41Payload.TheImpl as column
use Rattle.mysql_wire_utility.specs.contracts.payload.ComBinlogDumpGtidPayload.TheImpl as dump_gtid
use Rattle.mysql_wire_utility.specs.contracts.payload.ComBinlogDumpPayload.TheImpl as dump
use Rattle.mysql_wire_utility.specs.contracts.payload.ComChangeUserPayload.TheImpl as change_user
use Rattle.mysql_wire_utility.specs.contracts.payload.ComDebugPayload.TheImpl as debug
use Rattle.mysql_wire_utility.specs.contracts.payload.ComFieldListPayload.TheImpl as field_list
use Rattle.mysql_wire_utility.specs.contracts.payload.ComInitDbPayload.TheImpl as init_db
use Rattle.mysql_wire_utility.specs.contracts.payload.ComPingPayload.TheImpl as ping
use Rattle.mysql_wire_utility.specs.contracts.payload.ComProcessKillPayload.TheImpl as process_kill
use Rattle.mysql_wire_queries.specs.contracts.payload.ComQueryPayload.TheImpl as query
use Rattle.mysql_wire_queries.specs.contracts.payload.ComQueryWithAttributesPayload.TheImpl as attributed_query
use Rattle.mysql_wire_utility.specs.contracts.payload.ComQuitPayload.TheImpl as quit
use Rattle.mysql_wire_utility.specs.contracts.payload.ComRegisterSlavePayload.TheImpl as register_slave
use Rattle.mysql_wire_utility.specs.contracts.payload.ComResetConnectionPayload.TheImpl as reset_connection
use Rattle.mysql_wire_utility.specs.contracts.payload.ComSetOptionPayload.TheImpl as set_option
use Rattle.mysql_wire_utility.specs.contracts.payload.ComStatisticsPayload.TheImpl as statistics_request
use Rattle.mysql_wire_statements.specs.contracts.payload.StatementCommandPayload.TheImpl as statement_command
use Rattle.mysql_wire_statements.specs.contracts.payload.ComStmtExecutePayload.TheImpl as execute
use Rattle.mysql_wire_statements.specs.contracts.payload.ComStmtFetchPayload.TheImpl as fetch
use Rattle.mysql_wire_statements.specs.contracts.payload.ComStmtPrepareOkPayload.TheImpl as prepared
use Rattle.mysql_wire_statements.specs.contracts.payload.ComStmtPreparePayload.TheImpl as prepare
use Rattle.mysql_wire_statements.specs.contracts.payload.ComStmtSendLongDataPayload.TheImpl as long_data
use Rattle.mysql_wire_packets.specs.contracts.payload.EofPacketPayload.TheImpl as eof
use Rattle.mysql_wire_packets.specs.contracts.payload.ErrPacketPayload.TheImpl as error
use Rattle.mysql_wire_connection.specs.contracts.payload.HandshakeResponse41Payload.TheImpl as login
use Rattle.mysql_wire_connection.specs.contracts.payload.HandshakeV10Payload.TheImpl as greeting
use Rattle.mysql_wire_queries.specs.contracts.payload.LocalInfileRequestPayload.TheImpl as local_infile
use Rattle.mysql_wire_packets.specs.contracts.payload.OkFormPayload.TheImpl as ok
use Rattle.mysql_wire_packets.specs.contracts.payload.ProgressReportPayload.TheImpl as progress
use Rattle.mysql_wire_connection.specs.contracts.payload.SslRequestPayload.TheImpl as tls_request
use Rattle.mysql_wire_utility.specs.contracts.payload.StatisticsTextPayload.TheImpl as statistics
use Rattle.mysql_wire_session.specs.Refusals.{refusal_of}
use Rattle.mysql_wire_session.specs.declared.packet.Packet.{Packet}
use Rattle.mysql_wire_session.specs.declared.packet.Packet.TheVariants as packet
use Rattle.mysql_wire_session.specs.declared.packet.Received.{Received}
use Rattle.mysql_wire_session.specs.declared.packet.Row.{Row}
use Rattle.mysql_wire_session.specs.declared.packet.Row.TheVariants as row
use Rattle.mysql_wire_session.specs.Kinds.{first_byte, kind_at}
use Rattle.mysql_wire_session.specs.Advance.{applied, asked, id_after, opened, remembered, state_after, state_passed}
use Rattle.mysql_wire_session.specs.State.{SessionState, expectation_of, statement_of}

-- the payload as it is, as this variant
abbrev pub IsItself : {R P : Type 0} → (R → P) → (R → List ℕ) → List ℕ → P → Type 0
IsItself {R = R} variant bytes payload is =
    (read : R) × (bytes read ≡ payload) × (is ≡ variant read)

-- its type refuses the payload: nothing of it is known but why
abbrev pub IsRefused : {X P : Type 0} → (Refusal → P) → (Result X PayloadError → Type 0) → P
    → Type 0
IsRefused refused reads is = (error : PayloadError) × (refusal : Refusal) × reads (Err error)
    × (refusal_of error ≡ Ok refusal) × (is ≡ refused refusal)

-- its type reads the payload whole, of which this is made, or refuses it
abbrev pub IsMade : {X : Type 0} → (X → Packet → Type 0) → (List ℕ → Result X PayloadError → Type 0)
    → List ℕ → Packet → Type 0
IsMade {X = X} makes reads payload is =
    ((read : X) × reads payload (Ok read) × makes read is) ⊎ IsRefused packet.Refused (reads payload) is

-- the same as this variant
abbrev pub IsRead : {X : Type 0} → (X → Packet) → (List ℕ → Result X PayloadError → Type 0)
    → List ℕ → Packet → Type 0
IsRead variant = IsMade (λ read is. is ≡ variant read)

-- its type refuses the payload, or comes to no answer
abbrev pub RefusedFor : PayloadError → Result Packet SessionError → Type 0
RefusedFor error (Ok is) =
    (refusal : Refusal) × (refusal_of error ≡ Ok refusal) × (is ≡ packet.Refused refusal)
RefusedFor error (Err why) = refusal_of error ≡ Err why

-- its type comes to no answer, for this: memory was refused, or a reader failed
abbrev pub IsFault : {X : Type 0} → (Result X PayloadError → Type 0) → SessionError → Type 0
IsFault reads why = (error : PayloadError) × reads (Err error) × (refusal_of error ≡ Err why)

-- what is made of what its type reads, or that it refuses it; or it comes to no answer
abbrev pub Makes : {X : Type 0} → (X → Packet → Type 0) → (List ℕ → Result X PayloadError → Type 0)
    → List ℕ → Result Packet SessionError → Type 0
Makes makes reads payload (Ok is) = IsMade makes reads payload is
Makes makes reads payload (Err why) = IsFault (reads payload) why

-- the same as this variant
abbrev pub Reads : {X : Type 0} → (X → Packet) → (List ℕ → Result X PayloadError → Type 0)
    → List ℕ → Result Packet SessionError → Type 0
Reads variant = Makes (λ read is. is ≡ variant read)

-- no type is asked: there always is an answer
abbrev pub Always : {P : Type 0} → (P → Type 0) → Result P SessionError → Type 0
Always holds (Ok is) = holds is
Always holds (Err why) = ⊥

abbrev pub Itself : {R P : Type 0} → (R → P) → (R → List ℕ) → List ℕ → Result P SessionError
    → Type 0
Itself variant bytes payload = Always (IsItself variant bytes payload)

-- a row of texts, where a query's answer was begun; else its form is not known
abbrev pub IsTextRow : RowForm → ℕ → List ℕ → Row → Type 0
IsTextRow form.Text columns = IsItself (row.Text columns) (λ values. values.now)
IsTextRow form.Binary columns = IsItself row.Unread (λ values. values.now)
IsTextRow form.Unknown columns = IsItself row.Unread (λ values. values.now)

-- a row in the binary protocol, of this many columns
abbrev pub IsBinaryRow : ℕ → List ℕ → Row → Type 0
IsBinaryRow columns payload is =
    ((read : BinaryRow) × binary_row.ghosts.reads_whole columns payload (Ok read)
    × (is ≡ row.Binary columns read))
    ⊎ IsRefused row.Refused (binary_row.ghosts.reads_whole columns payload) is

abbrev pub BinaryRowGives : ℕ → List ℕ → Result Row SessionError → Type 0
BinaryRowGives columns payload (Ok is) = IsBinaryRow columns payload is
BinaryRowGives columns payload (Err why) =
    IsFault (binary_row.ghosts.reads_whole columns payload) why

-- a payload of this kind gives this row; one that is no row's is not looked at
abbrev pub RowGives : SessionState → PacketKind → List ℕ → Result Row SessionError → Type 0
RowGives state kind.Row payload = Always (IsTextRow state.row_form state.columns payload)
RowGives state kind.BinaryRow payload = BinaryRowGives state.columns payload
RowGives state other payload = Itself row.Unread (λ values. values.now) payload

abbrev pub RowReads : SessionState → PacketKind → List ℕ → Row → Type 0
RowReads state called payload is = RowGives state called payload (Ok is)

-- the same as a packet
abbrev pub RowPacket : SessionState → PacketKind → List ℕ → Result Packet SessionError → Type 0
RowPacket state called payload (Ok is) =
    (read : Row) × RowReads state called payload read × (is ≡ packet.Row read)
RowPacket state called payload (Err why) = RowGives state called payload (Err why)

-- where a server begins with an error, no capabilities are in force
abbrev pub error_capabilities : Phase → CapabilityFlags → CapabilityFlags
error_capabilities phase.Greeting capabilities = record { 0 = 0 }
error_capabilities at capabilities = capabilities

-- an OK ends the rows, and no EOF
abbrev pub is_ended_by_ok : Bool → ℕ → Bool
is_ended_by_ok is_eof_deprecated len = is_eof_deprecated && not (len == 5)

abbrev pub EndGives : Bool → CapabilityFlags → List ℕ → Result Packet SessionError → Type 0
EndGives true capabilities = Reads packet.RowsEnd
    ((ok.ghosts (number 0xfe)).reads_whole (ok_form capabilities))
EndGives false capabilities = Reads packet.Eof (eof.ghosts.reads_whole tt)

abbrev pub IsEnd : Bool → CapabilityFlags → List ℕ → Packet → Type 0
IsEnd by_ok capabilities payload is = EndGives by_ok capabilities payload (Ok is)

-- a definition of a column that is waited for; or one of the columns of a table, with its default
abbrev pub ColumnGives : Phase → MariadbCapabilities → List ℕ → Result Packet SessionError → Type 0
ColumnGives (phase.Columns left following) mariadb =
    Reads packet.Column (column.ghosts.reads_whole mariadb)
ColumnGives at mariadb = Itself packet.TableColumn (λ column. column.now)

abbrev pub IsColumn : Phase → MariadbCapabilities → List ℕ → Packet → Type 0
IsColumn at mariadb payload is = ColumnGives at mariadb payload (Ok is)

abbrev pub QueryGives : Bool → List ℕ → Result Packet SessionError → Type 0
QueryGives true = Reads (λ read. packet.Command (command.AttributedQuery read))
    (attributed_query.ghosts.reads_whole tt)
QueryGives false = Reads (λ read. packet.Command (command.Query read)) (query.ghosts.reads_whole tt)

abbrev pub IsQuery : Bool → List ℕ → Packet → Type 0
IsQuery has_attributes payload is = QueryGives has_attributes payload (Ok is)

-- the number of the statement that a payload names after its first byte, where it has come
abbrev pub statement_named : List ℕ → Option ℕ
statement_named payload =
    if nat_lt 4 (length payload) then Some (le_number (take 4 (drop 1 payload))) else None

-- an execution of this statement; of one that is not known, its number
abbrev pub ExecutionOfGives : Option ComStmtPrepareOk → ℕ → List ℕ → Result Packet SessionError
    → Type 0
ExecutionOfGives (Some statement) number =
    Reads packet.Execute (execute.ghosts.reads_whole statement.num_params)
ExecutionOfGives None number = λ payload. Always (λ is. is ≡ packet.ExecuteUnknown number)

abbrev pub IsExecutionOf : Option ComStmtPrepareOk → ℕ → List ℕ → Packet → Type 0
IsExecutionOf statement number payload is = ExecutionOfGives statement number payload (Ok is)

abbrev pub ExecutionGives : Option ℕ → List ComStmtPrepareOk → List ℕ → Result Packet SessionError
    → Type 0
ExecutionGives (Some number) statements = ExecutionOfGives (statement_of number statements) number
ExecutionGives None statements = λ payload. Always (λ is. is ≡ packet.Refused OtherHeader)

abbrev pub IsExecution : Option ℕ → List ComStmtPrepareOk → List ℕ → Packet → Type 0
IsExecution number statements payload is = ExecutionGives number statements payload (Ok is)

-- the command's number, where it has come
abbrev pub is_first : ℕ → Option ℕ → Bool
is_first number None = false
is_first number (Some first) = first == number

abbrev pub is_numbered : ℕ → List ℕ → Bool
is_numbered number payload = is_first number (first_byte payload)

-- a request for a binary log, by transactions or from a position on
abbrev pub LogRequestGives : Bool → List ℕ → Result Packet SessionError → Type 0
LogRequestGives true = Reads packet.BinlogDumpGtid (dump_gtid.ghosts.reads_whole tt)
LogRequestGives false = Reads packet.BinlogDump (dump.ghosts.reads_whole tt)

-- a command whose kind is none of its own: it ends a connection, asks for a report, tells of a
-- replica, or no type is for it
abbrev pub OtherCommandGives : Bool → Bool → Bool → List ℕ → Result Packet SessionError → Type 0
OtherCommandGives true is_debug is_replica =
    Reads packet.ProcessKill (process_kill.ghosts.reads_whole tt)
OtherCommandGives false true is_replica = Reads packet.Debug (debug.ghosts.reads_whole tt)
OtherCommandGives false false true =
    Reads packet.RegisterSlave (register_slave.ghosts.reads_whole tt)
OtherCommandGives false false false = Itself packet.OtherCommand (λ command. command.now)

-- a payload of this kind is read as this packet: whole by the kind's type, under what is known, or it
-- is refused by it; what has no type, and rows of texts, are the payload as it is. There is no packet
-- only where this type comes to no answer.
abbrev pub Gives : SessionState → PacketKind → List ℕ → Result Packet SessionError → Type 0
Gives state kind.Greeting = Reads packet.Greeting (greeting.ghosts.reads_whole tt)
Gives state kind.TlsRequest = Reads packet.TlsRequest (tls_request.ghosts.reads_whole tt)
Gives state kind.Login = Reads packet.Login (login.ghosts.reads_whole tt)
Gives state kind.AuthSwitch = Reads packet.AuthSwitch (auth_switch.ghosts.reads_whole tt)
Gives state kind.AuthMoreData = Reads packet.AuthMoreData (more_data.ghosts.reads_whole tt)
Gives state kind.AuthAnswer = Reads packet.AuthAnswer (auth_answer.ghosts.reads_whole tt)
Gives state kind.Ok =
    Reads packet.Ok ((ok.ghosts (number 0x00)).reads_whole (ok_form state.capabilities))
Gives state kind.Error = Reads packet.Error
    (error.ghosts.reads_whole (error_capabilities state.phase state.capabilities))
Gives state kind.Progress = Reads packet.Progress (progress.ghosts.reads_whole tt)
Gives state kind.Eof = λ payload.
    EndGives (is_ended_by_ok state.is_eof_deprecated (length payload)) state.capabilities payload
Gives state kind.ColumnCount =
    Reads packet.ColumnCount (columns.ghosts.reads_whole (state.capabilities, state.mariadb))
Gives state kind.Column = ColumnGives state.phase state.mariadb
Gives state kind.Row = RowPacket state kind.Row
Gives state kind.BinaryRow = RowPacket state kind.BinaryRow
Gives state kind.LocalInfile = Reads packet.LocalInfile (local_infile.ghosts.reads_whole tt)
Gives state kind.File = Itself packet.File (λ bytes. bytes.now)
Gives state kind.Prepared = Reads packet.Prepared (prepared.ghosts.reads_whole tt)
Gives state kind.Statistics = Reads packet.Statistics (statistics.ghosts.reads_whole tt)
Gives state kind.BinaryLogEvent = Itself packet.BinaryLogEvent (λ event. event.now)
Gives state kind.Query = QueryGives (has_query_attributes state.capabilities)
Gives state kind.InitDatabase =
    Reads (λ read. packet.Command (command.InitDb read)) (init_db.ghosts.reads_whole tt)
Gives state kind.Ping =
    Reads (λ read. packet.Command (command.Ping read)) (ping.ghosts.reads_whole tt)
Gives state kind.Quit =
    Reads (λ read. packet.Command (command.Quit read)) (quit.ghosts.reads_whole tt)
Gives state kind.ChangeUser = Reads (λ read. packet.Command (command.ChangeUser read))
    (change_user.ghosts.reads_whole state.capabilities)
Gives state kind.Prepare = Reads packet.Prepare (prepare.ghosts.reads_whole tt)
Gives state kind.Execute = λ payload.
    ExecutionGives (statement_named payload) state.statements payload
Gives state kind.LongData = Reads packet.LongData (long_data.ghosts.reads_whole tt)
Gives state kind.CloseStatement = Reads packet.CloseStatement ((statement_command.ghosts (number 0x19)).reads_whole tt)
Gives state kind.ResetStatement = Reads packet.ResetStatement ((statement_command.ghosts (number 0x1a)).reads_whole tt)
Gives state kind.Fetch = Reads packet.Fetch (fetch.ghosts.reads_whole tt)
Gives state kind.FieldList = Reads packet.FieldList (field_list.ghosts.reads_whole tt)
Gives state kind.SetOption = Reads packet.SetOption (set_option.ghosts.reads_whole tt)
Gives state kind.StatisticsRequest =
    Reads packet.StatisticsRequest (statistics_request.ghosts.reads_whole tt)
Gives state kind.ResetConnection =
    Reads packet.ResetConnection (reset_connection.ghosts.reads_whole tt)
Gives state kind.BinaryLogRequest = λ payload. LogRequestGives (is_numbered 0x1e payload) payload
Gives state kind.OtherCommand = λ payload. OtherCommandGives (is_numbered 0x0c payload)
    (is_numbered 0x0d payload) (is_numbered 0x15 payload) payload
Gives state kind.TooLarge = λ payload. Always (λ is. is ≡ packet.TooLarge)
Gives state (kind.Refused refusal) = λ payload. Always (λ is. is ≡ packet.Refused refusal)

abbrev pub ReadsAs : SessionState → PacketKind → List ℕ → Packet → Type 0
ReadsAs state called payload is = Gives state called payload (Ok is)

-- what a packet is, whose first chunk bears this id, where this is known
abbrev pub kind_of : Side → ℕ → List ℕ → SessionState → PacketKind
kind_of side id payload state = kind_at (expectation_of state) side id payload

-- what is known where it is read
abbrev pub opened_at : Side → ℕ → List ℕ → SessionState → SessionState
opened_at side id payload state =
    opened (kind_of side id payload state) (length payload) state

-- it came, and was read
pub record Receives (side : Side) (id : ℕ) (payload : List ℕ) (state : SessionState)
    (received : Received) : Type 0 where
  pub side_is : received.side ≡ side
  pub id_is : received.id ≡ id
  pub payload_is : received.payload.now ≡ payload
  pub kind_is : received.kind ≡ kind_of side id payload state
  pub reads : ReadsAs (opened_at side id payload state) (kind_of side id payload state) payload
      received.packet

-- what is known after a packet of this kind that was read as this
abbrev pub after_packet : Side → ℕ → PacketKind → List ℕ → Packet → SessionState → SessionState
after_packet side id called payload read state =
    record (applied read (asked called payload (state_after side called (length payload)
    (opened called (length payload) (remembered read state))))) { next_id = id_after id (length payload) }

-- what is known after a packet of this kind and length that says no more of the session
abbrev pub after_kind : Side → ℕ → PacketKind → ℕ → SessionState → SessionState
after_kind side id called len state =
    record (state_after side called len (opened called len state)) { next_id = id_after id len }

-- it came, and its type came to no answer
abbrev pub Fails : Side → ℕ → List ℕ → SessionState → SessionError → Type 0
Fails side id payload state why =
    Gives (opened_at side id payload state) (kind_of side id payload state) payload (Err why)

-- what is known after one that came
abbrev pub advanced : Received → SessionState → SessionState
advanced received =
    after_packet received.side received.id received.kind received.payload.now received.packet

-- what is known after it, where its payload, of this length, was passed over
abbrev pub passed : Side → ℕ → ℕ → SessionState → SessionState
passed side id len state = record (state_passed side id state) { next_id = id_after id len }

-- no type is for packets of this kind
abbrev pub IsPlain : PacketKind → Type 0
IsPlain kind.File = ⊤
IsPlain kind.BinaryLogEvent = ⊤
IsPlain kind.TooLarge = ⊤
IsPlain (kind.Refused refusal) = ⊤
IsPlain other = ⊥

-- packets of this kind are about a connection or the server, or no type is for them
abbrev pub IsUtility : PacketKind → Type 0
IsUtility kind.FieldList = ⊤
IsUtility kind.SetOption = ⊤
IsUtility kind.StatisticsRequest = ⊤
IsUtility kind.Statistics = ⊤
IsUtility kind.ResetConnection = ⊤
IsUtility kind.BinaryLogRequest = ⊤
IsUtility kind.OtherCommand = ⊤
IsUtility other = IsPlain other

-- packets of this kind are commands, or no type is for them
abbrev pub IsCommand : PacketKind → Type 0
IsCommand kind.Quit = ⊤
IsCommand kind.InitDatabase = ⊤
IsCommand kind.Query = ⊤
IsCommand kind.Ping = ⊤
IsCommand kind.ChangeUser = ⊤
IsCommand kind.Prepare = ⊤
IsCommand kind.Execute = ⊤
IsCommand kind.LongData = ⊤
IsCommand kind.CloseStatement = ⊤
IsCommand kind.ResetStatement = ⊤
IsCommand kind.Fetch = ⊤
IsCommand other = IsUtility other

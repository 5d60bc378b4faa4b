-- What a session knows after a packet.
use Rattle.std.specs.Prelude.{ℕ, ◌≡◌, ◌<◌, ◌==◌, ◌+◌, ◌/◌, ◌%◌, nat_lt, Bool, true, false, if◌then◌else◌, List, [], ◌∷◌, ◌++◌, length, take, Option, Some, None}
use Rattle.wire_const.specs.declared.flag_sets.mariadb.MariadbCapabilities.{MariadbCapabilities}
use Rattle.wire_const.specs.declared.flag_sets.status.StatusFlags.{StatusFlags}
use Rattle.mysql_wire_connection.specs.declared.handshake_response.HandshakeResponse41.{HandshakeResponse41}
use Rattle.mysql_wire_session.specs.declared.packet_kind.PacketKind.{PacketKind}
use Rattle.mysql_wire_session.specs.declared.packet_kind.PacketKind.TheVariants as kind
use Rattle.mysql_wire_session.specs.declared.phase.AfterColumns.TheVariants as after
use Rattle.mysql_wire_session.specs.declared.phase.Phase.{Phase}
use Rattle.mysql_wire_session.specs.declared.phase.Phase.TheVariants as phase
use Rattle.mysql_wire_session.specs.declared.phase.RowForm.TheVariants as form
use Rattle.mysql_wire_session.specs.declared.refusal.SessionError.{SessionError}
use Rattle.mysql_wire_session.specs.declared.refusal.SessionError.TheVariants.{OutOfMemory}
use Rattle.mysql_wire_session.specs.declared.side.Side.{Side}
use Rattle.mysql_wire_session.specs.declared.side.Side.TheVariants.{Client, Server}
use Rattle.mysql_wire_session.specs.Kinds.{asks_for_cursor, is_command}
use Rattle.mysql_wire_session.specs.Phases.{after_columns, after_definitions, command_phase, command_rows, done_phase, ended_phase, failed_phase, past_column, server_phase, statement_columns}
use Rattle.mysql_wire_session.specs.declared.packet.Packet.{Packet}
use Rattle.mysql_wire_session.specs.declared.packet.Packet.TheVariants as packet
use Rattle.mysql_wire_parts.specs.Optional.{has}
use Rattle.mysql_wire_queries.specs.declared.column_count.ColumnCount.{ColumnCount}
use Rattle.mysql_wire_statements.specs.declared.com_stmt_prepare_ok.ComStmtPrepareOk.{ComStmtPrepareOk}
use Rattle.mysql_wire_session.specs.State.{SessionState, statement_of}

-- where no EOF follows the definitions, the client wants none
abbrev pub without_eof : Phase → SessionState → SessionState
without_eof (phase.ColumnsEnd following) state =
    record state { phase = after_definitions following; is_eof_deprecated = true }
without_eof at state = state

-- a packet of this kind may stand where that EOF would
abbrev pub opened : PacketKind → ℕ → SessionState → SessionState
opened kind.Column len state = without_eof state.phase state
opened kind.Row len state = without_eof state.phase state
opened kind.BinaryRow len state = without_eof state.phase state
opened kind.Eof len state =
    if len == 5 then state else without_eof state.phase state
opened named len state = state

-- after a client's packet of this kind, whether or not its type reads it: an empty one ends a file
abbrev pub client_state_after : PacketKind → ℕ → SessionState → SessionState
client_state_after kind.TlsRequest len state = record state { phase = phase.Authentication }
client_state_after kind.Login len state = record state { phase = phase.Authentication }
client_state_after kind.AuthAnswer len state = state
client_state_after kind.File len state =
    if len == 0 then record state { phase = phase.Answer } else state
client_state_after named len state =
    record state {
      phase = command_phase named;
      row_form = command_rows named;
      wants_cursor = false;
    }

-- an execution says whether it asks for a cursor
abbrev pub asked : PacketKind → List ℕ → SessionState → SessionState
asked kind.Execute payload state = record state { wants_cursor = asks_for_cursor payload }
asked named payload state = state

-- after a packet of this kind, whether or not its type reads it
abbrev pub state_after : Side → PacketKind → ℕ → SessionState → SessionState
state_after Client named len state = client_state_after named len state
state_after Server named len state =
    record state { phase = server_phase named state.is_eof_deprecated state.phase }

-- after a packet whose payload was passed over
abbrev pub state_passed : Side → ℕ → SessionState → SessionState
state_passed Client id state =
    if is_command state.phase state.next_id id
    then record state { phase = phase.Answer; row_form = form.Unknown; wants_cursor = false } else state
state_passed Server id state =
    record state { phase = past_column state.is_eof_deprecated state.phase }

-- a client says what it can do of MariaDB where it doesn't set CLIENT_LONG_PASSWORD
abbrev pub mariadb_of : ℕ → ℕ → MariadbCapabilities → MariadbCapabilities
mariadb_of capabilities mariadb before = if has capabilities 0x1 then before else record { 0 = mariadb }

-- what the client can do, and wants, from its answer on
abbrev pub after_login : HandshakeResponse41 → SessionState → SessionState
after_login login state =
    record state {
      capabilities = record { 0 = login.client_flag.0 };
      is_eof_deprecated = has login.client_flag.0 0x1000000;
      mariadb = mariadb_of login.client_flag.0 login.mariadb_capabilities.0 state.mariadb;
    }

abbrev pub is_zero : Option ℕ → Bool
is_zero (Some number) = number == 0
is_zero None = false

-- the definitions of columns follow, where the count says so; MariaDB leaves out those that it told
-- after a statement's number, and not what ends them
abbrev pub counted_phase : Bool → ColumnCount → Phase
counted_phase is_eof_deprecated count =
    if is_zero count.metadata_follows then phase.Rows
    else if count.column_count == 0 then after_columns is_eof_deprecated after.Rows
    else if is_zero count.mariadb_metadata_follows then after_columns is_eof_deprecated after.Rows
    else phase.Columns count.column_count after.Rows

-- the definitions of a statement's parameters and columns follow, where it has some
abbrev pub prepared_phase : ComStmtPrepareOk → Phase
prepared_phase statement =
    if nat_lt 0 statement.num_params
    then phase.Columns statement.num_params (after.StatementColumns statement.num_columns)
    else statement_columns statement.num_columns

-- this many types are kept, as many as columns a table may have
abbrev pub noted : ℕ → List ℕ → List ℕ
noted type types = if nat_lt (length types) 4096 then types ++ type ∷ [] else types

-- the rows of a statement that is known
abbrev pub fetched : Option ComStmtPrepareOk → SessionState → SessionState
fetched (Some statement) state =
    record state { row_form = form.Binary; columns = statement.num_columns }
fetched None state = state

-- the flags of a status
abbrev pub status_of : ℕ → StatusFlags
status_of status = record { 0 = status }

-- an OK, or the one in the place of an EOF, told this status
abbrev pub answered : ℕ → SessionState → SessionState
answered status state =
    record state { phase = done_phase state.phase status; status = status_of status }

-- what is kept of a packet that was read: the types of columns, and statements
abbrev pub remembered : Packet → SessionState → SessionState
remembered (packet.Column column) state =
    record state { types = noted column.column_type.0 state.types }
remembered (packet.ColumnCount count) state = record state { types = [] }
remembered (packet.Prepared statement) state =
    record state { types = []; statements = take 64 (statement ∷ state.statements) }
remembered other state = state

-- this takes memory, which was refused: the type of a column, where fewer than the most are kept, and
-- a statement
abbrev pub IsRefusedMemory : Packet → SessionState → SessionError → Type 0
IsRefusedMemory (packet.Column column) state why =
    (length state.types < 4096) × (why ≡ OutOfMemory)
IsRefusedMemory (packet.Prepared statement) state why = why ≡ OutOfMemory
IsRefusedMemory other state why = ⊥

-- what else is known after it
abbrev pub applied : Packet → SessionState → SessionState
applied (packet.TlsRequest request) state = record state { phase = phase.Encrypted }
applied (packet.Login login) state = after_login login state
applied (packet.Ok ok) state = answered ok.status_flags.0 state
applied (packet.RowsEnd ok) state = answered ok.status_flags.0 state
applied (packet.Eof eof) state =
    record state {
      phase = ended_phase state.wants_cursor state.phase eof.status_flags.0;
      status = status_of eof.status_flags.0;
    }
applied (packet.Error error) state = record state { phase = failed_phase state.phase }
applied (packet.LocalInfile request) state = record state { phase = phase.File }
applied (packet.ColumnCount count) state =
    record state {
      phase = counted_phase state.is_eof_deprecated count;
      columns = count.column_count;
    }
applied (packet.Prepared statement) state = record state { phase = prepared_phase statement }
applied (packet.Fetch fetch) state =
    fetched (statement_of fetch.statement_id state.statements) state
applied other state = state

-- the id that follows a packet of this length, whose first chunk bears this id
abbrev pub id_after : ℕ → ℕ → ℕ
id_after id len = (id + len / 16777215 + 1) % 256

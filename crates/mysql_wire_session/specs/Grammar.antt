-- The exchanges of a session as MySQL's pages have them, and what it is to follow them.
-- https://dev.mysql.com/doc/dev/mysql-server/latest/page_protocol_command_phase.html
use Rattle.std.specs.List.{All, flat_map}
use Rattle.std.specs.Prelude.{◌≡◌, ◌≢◌, ◌⊎◌, ◌<◌, ◌≤◌, ◌&&◌, ⊤, ℕ, Bool, true, false, List, [], ◌∷◌, ◌++◌, length, Some, Result, Ok, Err}
use Rattle.mysql_wire_session.specs.declared.packet.Packet.{Packet}
use Rattle.mysql_wire_session.specs.Kinds.{asks_for_cursor, first_byte, is_report}
use Rattle.mysql_wire_session.specs.Phases.{opens_cursor}
use Rattle.mysql_wire_session.specs.declared.packet_kind.PacketKind.{PacketKind}
use Rattle.mysql_wire_session.specs.declared.packet_kind.PacketKind.TheVariants as kind
use Rattle.mysql_wire_session.specs.declared.phase.Phase.TheVariants as phase
use Rattle.mysql_wire_session.specs.declared.phase.RowForm.{RowForm}
use Rattle.mysql_wire_session.specs.declared.phase.RowForm.TheVariants as form
use Rattle.mysql_wire_session.specs.declared.refusal.Refusal.{Refusal}
use Rattle.mysql_wire_session.specs.declared.side.Side.{Side}
use Rattle.mysql_wire_session.specs.declared.side.Side.TheVariants.{Client, Server}
use Rattle.mysql_wire_parts.specs.Optional.{has}
use Rattle.mysql_wire_packets.specs.Oks.{ok_form}
use Rattle.mysql_wire_parts.specs.declared.places.PayloadError.{PayloadError}
use Rattle.mysql_wire_queries.specs.declared.column_count.ColumnCount.{ColumnCount}
use Rattle.wire_const.specs.declared.flag_sets.capability.CapabilityFlags.{CapabilityFlags}
use Rattle.wire_const.specs.declared.flag_sets.mariadb.MariadbCapabilities.{MariadbCapabilities}
use Rattle.mysql_wire_session.specs.Refusals.{refusal_of}
use Rattle.mysql_wire_queries.specs.contracts.payload.ColumnCountPayload.TheImpl as count_type
use Rattle.mysql_wire_statements.specs.contracts.payload.ComStmtPrepareOkPayload.TheImpl as prepared_type
use Rattle.mysql_wire_packets.specs.contracts.payload.EofPacketPayload.TheImpl as eof_type
use Rattle.mysql_wire_packets.specs.contracts.payload.ErrPacketPayload.TheImpl as error_type
use Rattle.mysql_wire_queries.specs.contracts.payload.LocalInfileRequestPayload.TheImpl as file_type
use Rattle.mysql_wire_packets.specs.contracts.payload.OkFormPayload.TheImpl as ok_type
use Rattle.mysql_wire_connection.specs.contracts.payload.SslRequestPayload.TheImpl as tls_type
use denote.Param.{number}
use Rattle.mysql_wire_session.specs.Advance.{id_after, is_zero, mariadb_of}
use Rattle.mysql_wire_session.specs.State.{SessionState, initial_state, statement_of}
use Rattle.mysql_wire_connection.specs.declared.handshake_response.HandshakeResponse41.{HandshakeResponse41}
use Rattle.mysql_wire_statements.specs.declared.com_stmt_prepare_ok.ComStmtPrepareOk.{ComStmtPrepareOk}
use Rattle.mysql_wire_statements.specs.contracts.payload.ComStmtFetchPayload.TheImpl as fetch_type
use Rattle.mysql_wire_connection.specs.contracts.payload.HandshakeResponse41Payload.TheImpl as login_type
use Rattle.mysql_wire_session.specs.Readings.{ReadsAs, after_packet, kind_of, opened_at}
use Rattle.mysql_wire_session.specs.Senders.{is_idle, next_sender}
use Rattle.mysql_wire_session.specs.declared.side.Sender.{Sender}
use Rattle.mysql_wire_session.specs.declared.side.Sender.TheVariants as sender

-- ---- the grammar

-- a packet: who sends it, its id, its payload, and what MySQL's pages call it
pub record Said : Type 0 where
  pub side : Side
  pub id : ℕ
  pub payload : List ℕ
  pub kind : PacketKind

-- a server's packet, and a client's
abbrev pub from_server : ℕ → PacketKind → List ℕ → Said
from_server id called payload =
    record { side = Server; id = id; payload = payload; kind = called }

abbrev pub from_client : ℕ → PacketKind → List ℕ → Said
from_client id called payload =
    record { side = Client; id = id; payload = payload; kind = called }

-- what a type makes of a payload is a value of which this holds, unless memory ran out
abbrev pub IfRead : {X : Type 0} → (X → Type 0) → Result X PayloadError → Type 0
IfRead holds (Ok read) = holds read
IfRead holds (Err error) = (refusal : Refusal) → refusal_of error ≡ Ok refusal → ⊥

abbrev pub IsReadAs : {X : Type 0} → (Result X PayloadError → Type 0) → (X → Type 0) → Type 0
IsReadAs {X = X} reads holds = (answer : Result X PayloadError) → reads answer → IfRead holds answer

-- a server's packet of this kind, with this first byte
pub record IsServers (first : ℕ) (called : PacketKind) (said : Said) : Type 0 where
  pub side : said.side ≡ Server
  pub first_is : first_byte said.payload ≡ Some first
  pub kind_is : said.kind ≡ called

-- what both sides can do: whether EOFs are left out, the capabilities, and MariaDB's; and whether
-- rows are binary, as an execution's are, and a cursor is wanted, as an execution may
pub record Agreed : Type 0 where
  pub is_binary : Bool
  pub wants_cursor : Bool
  pub is_eof_deprecated : Bool
  pub capabilities : CapabilityFlags
  pub mariadb : MariadbCapabilities

-- an OK, which says whether another result follows
pub record IsOk (agreed : Agreed) (is_more : Bool) (said : Said) : Type 0 where
  pub is : IsServers 0x00 kind.Ok said
  pub reads : IsReadAs ((ok_type.ghosts (number 0x00)).reads_whole (ok_form agreed.capabilities) said.payload)
      (λ read. has read.status_flags.0 0x8 ≡ is_more)

-- an error, other than the number 65535
pub record IsError (said : Said) : Type 0 where
  pub is : IsServers 0xff kind.Error said
  pub is_no_report : is_report said.payload ≡ false

-- how many columns there are; and whether MariaDB told their definitions before, and leaves them out
pub record Counts (are_told : Bool) (columns : ℕ) (count : ColumnCount) : Type 0 where
  pub columns_are : count.column_count ≡ columns
  pub has_definitions : is_zero count.metadata_follows ≡ false
  pub are_left_out : is_zero count.mariadb_metadata_follows ≡ are_told

pub record IsColumnCount (agreed : Agreed) (are_told : Bool) (columns : ℕ) (said : Said)
    : Type 0 where
  pub first : ℕ
  pub is : IsServers first kind.ColumnCount said
  pub is_no_ok : first ≢ 0x00
  pub is_no_file : first ≢ 0xfb
  pub is_no_error : first ≢ 0xff
  pub reads : IsReadAs (count_type.ghosts.reads_whole (agreed.capabilities, agreed.mariadb) said.payload)
      (Counts are_told columns)

pub record IsDefinition (said : Said) : Type 0 where
  pub first : ℕ
  pub is : IsServers first kind.Column said
  pub is_no_error : first ≢ 0xff

-- the definitions of these columns, where they were not told before
abbrev pub AreDescribed : Bool → ℕ → List Said → Type 0
AreDescribed true columns definitions = definitions ≡ []
AreDescribed false columns definitions =
    All IsDefinition definitions × (length definitions ≡ columns)

-- an EOF whose flags are so
pub record IsEof (flags : ℕ → Type 0) (said : Said) : Type 0 where
  pub is : IsServers 0xfe kind.Eof said
  pub is_short : length said.payload ≡ 5
  pub reads : IsReadAs (eof_type.ghosts.reads_whole tt said.payload) (λ read. flags read.status_flags.0)

-- the EOF after the definitions; rows follow, but where a cursor that is wanted was opened. Inside a
-- stored procedure's own cursor they follow too: then another result does, so that none is opened
abbrev pub AreDefined : Bool → Bool → List Said → Type 0
AreDefined wants_cursor true said = said ≡ []
AreDefined wants_cursor false said =
    (one : Said) × IsEof (λ flags. (wants_cursor && opens_cursor flags) ≡ false) one
    × (said ≡ one ∷ [])

-- the EOF after a statement's definitions
abbrev pub AreEnded : Bool → List Said → Type 0
AreEnded true said = said ≡ []
AreEnded false said = (one : Said) × IsEof (λ flags. Unit {0}) one × (said ≡ one ∷ [])

-- how rows are written
abbrev pub form_of : Bool → RowForm
form_of true = form.Binary
form_of false = form.Text

abbrev pub kind_of_row : Bool → PacketKind
kind_of_row true = kind.BinaryRow
kind_of_row false = kind.Row

-- a row; one that begins with fe has a text of 2^24 bytes or more in front, and is itself no shorter
-- than the longest chunk
pub record IsRow (is_binary : Bool) (said : Said) : Type 0 where
  pub first : ℕ
  pub is : IsServers first (kind_of_row is_binary) said
  pub is_no_error : first ≢ 0xff
  pub is_no_end : first ≡ 0xfe → 0xffffff ≤ length said.payload

-- an OK in the place of an EOF
pub record IsOkAtEnd (agreed : Agreed) (is_more : Bool) (said : Said) : Type 0 where
  pub is : IsServers 0xfe kind.Eof said
  pub is_long : 7 ≤ length said.payload
  pub is_short : length said.payload < 0xffffff
  pub reads : IsReadAs ((ok_type.ghosts (number 0xfe)).reads_whole (ok_form agreed.capabilities) said.payload)
      (λ read. has read.status_flags.0 0x8 ≡ is_more)

-- what ends rows: an OK or EOF, which says whether another result follows, or an error
abbrev pub EndsWell : Bool → Agreed → Bool → Said → Type 0
EndsWell true agreed is_more said = IsOkAtEnd agreed is_more said
EndsWell false agreed is_more said = IsEof (λ flags. has flags 0x8 ≡ is_more) said

abbrev pub EndsRows : Agreed → Bool → Said → Type 0
EndsRows agreed is_more said =
    EndsWell agreed.is_eof_deprecated agreed is_more said ⊎ (IsError said × (is_more ≡ false))

-- a result with rows
pub record IsResultset (agreed : Agreed) (is_more : Bool) (said : List Said) : Type 0 where
  pub are_told : Bool
  pub columns : ℕ
  pub count : Said
  pub definitions : List Said
  pub defined : List Said
  pub rows : List Said
  pub end : Said
  pub has_columns : 0 < columns
  pub counts : IsColumnCount agreed are_told columns count
  pub described : AreDescribed are_told columns definitions
  pub are_defined : AreDefined agreed.wants_cursor agreed.is_eof_deprecated defined
  pub are_rows : All (IsRow agreed.is_binary) rows
  pub ends : EndsRows agreed is_more end
  pub whole : said ≡ count ∷ (definitions ++ (defined ++ (rows ++ end ∷ [])))

-- a result whose rows are to be fetched, since a cursor is wanted, and was opened
pub record IsCursor (agreed : Agreed) (said : List Said) : Type 0 where
  pub are_told : Bool
  pub columns : ℕ
  pub count : Said
  pub definitions : List Said
  pub end : Said
  pub has_columns : 0 < columns
  pub counts : IsColumnCount agreed are_told columns count
  pub described : AreDescribed are_told columns definitions
  pub is_wanted : agreed.wants_cursor ≡ true
  pub has_eof : agreed.is_eof_deprecated ≡ false
  pub ends : IsEof (λ flags. opens_cursor flags ≡ true) end
  pub whole : said ≡ count ∷ (definitions ++ end ∷ [])

-- the server asks for a file
pub record IsFileRequest (said : Said) : Type 0 where
  pub is : IsServers 0xfb kind.LocalInfile said
  pub reads : IsReadAs (file_type.ghosts.reads_whole tt said.payload) (λ request. Unit {0})

-- a piece of the file
pub record IsPiece (said : Said) : Type 0 where
  pub side : said.side ≡ Client
  pub some : said.payload ≢ []
  pub kind_is : said.kind ≡ kind.File

-- the end of the file
pub record IsFileEnd (said : Said) : Type 0 where
  pub side : said.side ≡ Client
  pub none : said.payload ≡ []
  pub kind_is : said.kind ≡ kind.File

-- an OK, or an error, after which no result follows
abbrev pub IsOutcome : Agreed → Bool → Said → Type 0
IsOutcome agreed is_more said = IsOk agreed is_more said ⊎ (IsError said × (is_more ≡ false))

-- packets are numbered on, from this id
abbrev pub Numbered : ℕ → List Said → Type 0
Numbered id [] = ⊤
Numbered id (said ∷ more) =
    (said.id ≡ id) × Numbered (id_after said.id (length said.payload)) more

-- a file of the client's
pub record IsLoad (agreed : Agreed) (is_more : Bool) (said : List Said) : Type 0 where
  pub request : Said
  pub pieces : List Said
  pub end : Said
  pub outcome : Said
  pub asks : IsFileRequest request
  pub are_pieces : All IsPiece pieces
  pub ends : IsFileEnd end
  pub is_outcome : IsOutcome agreed is_more outcome
  pub are_numbered : Numbered (id_after request.id (length request.payload)) (pieces ++ end ∷ [])
  pub whole : said ≡ request ∷ (pieces ++ end ∷ outcome ∷ [])

-- a result, after which another follows or not
abbrev pub IsResult : Agreed → Bool → List Said → Type 0
IsResult agreed is_more said =
    ((one : Said) × IsOutcome agreed is_more one × (said ≡ one ∷ []))
    ⊎ IsResultset agreed is_more said
    ⊎ (IsCursor agreed said × (is_more ≡ false))
    ⊎ IsLoad agreed is_more said

-- the answer to COM_QUERY: results, each but the last with SERVER_MORE_RESULTS_EXISTS
abbrev pub AreResults : Agreed → List (List Said) → Type 0
AreResults agreed [] = ⊥
AreResults agreed (result ∷ []) = IsResult agreed false result
AreResults agreed (result ∷ next ∷ results) =
    IsResult agreed true result × AreResults agreed (next ∷ results)

-- a command of this number
pub record IsCommand (number : ℕ) (called : PacketKind) (said : Said) : Type 0 where
  pub side : said.side ≡ Client
  pub begins : said.id ≡ 0
  pub first_is : first_byte said.payload ≡ Some number
  pub kind_is : said.kind ≡ called

-- results, each but the last with SERVER_MORE_RESULTS_EXISTS
abbrev pub IsAnswer : Agreed → List Said → Type 0
IsAnswer agreed answer = (results : List (List Said)) × AreResults agreed results
    × (answer ≡ flat_map (λ result. result) results)

-- this many definitions and what ends them
pub record AreColumns (is_eof_deprecated : Bool) (columns : ℕ) (said : List Said) : Type 0 where
  pub definitions : List Said
  pub end : List Said
  pub are_definitions : All IsDefinition definitions
  pub are_all : length definitions ≡ columns
  pub ends : AreEnded is_eof_deprecated end
  pub whole : said ≡ definitions ++ end

abbrev pub MayBeColumns : Bool → ℕ → List Said → Type 0
MayBeColumns is_eof_deprecated columns said =
    ((columns ≡ 0) × (said ≡ [])) ⊎ ((0 < columns) × AreColumns is_eof_deprecated columns said)

-- a statement of this many parameters and columns was prepared
pub record IsPrepared (parameters columns : ℕ) (said : Said) : Type 0 where
  pub is : IsServers 0x00 kind.Prepared said
  pub reads : IsReadAs (prepared_type.ghosts.reads_whole tt said.payload)
      (λ read. (read.num_params ≡ parameters) × (read.num_columns ≡ columns))

-- the answer to COM_STMT_PREPARE
pub record IsStatement (is_eof_deprecated : Bool) (said : List Said) : Type 0 where
  pub parameters : ℕ
  pub columns : ℕ
  pub prepared : Said
  pub of_parameters : List Said
  pub of_columns : List Said
  pub is_prepared : IsPrepared parameters columns prepared
  pub are_parameters : MayBeColumns is_eof_deprecated parameters of_parameters
  pub are_columns : MayBeColumns is_eof_deprecated columns of_columns
  pub whole : said ≡ prepared ∷ (of_parameters ++ of_columns)

abbrev pub IsPrepareAnswer : Bool → List Said → Type 0
IsPrepareAnswer is_eof_deprecated said =
    ((one : Said) × IsError one × (said ≡ one ∷ [])) ⊎ IsStatement is_eof_deprecated said

-- commands that an OK or an error answers
abbrev pub IsPlainCommand : Said → Type 0
IsPlainCommand said =
    IsCommand 0x02 kind.InitDatabase said ⊎ IsCommand 0x0e kind.Ping said
    ⊎ IsCommand 0x1a kind.ResetStatement said ⊎ IsCommand 0x1f kind.ResetConnection said

-- commands that nothing answers
abbrev pub IsUnanswered : Said → Type 0
IsUnanswered said = IsCommand 0x18 kind.LongData said ⊎ IsCommand 0x19 kind.CloseStatement said

-- a text
pub record IsStatistics (said : Said) : Type 0 where
  pub side : said.side ≡ Server
  pub kind_is : said.kind ≡ kind.Statistics
  pub first : ℕ
  pub first_is : first_byte said.payload ≡ Some first
  pub is_no_error : first ≢ 0xff

-- the definition of a column of a table
pub record IsTableColumn (said : Said) : Type 0 where
  pub first : ℕ
  pub is : IsServers first kind.Column said
  pub is_no_end : first ≢ 0xfe
  pub is_no_error : first ≢ 0xff

-- the columns of a table, and what ends them
pub record AreTableColumns (agreed : Agreed) (said : List Said) : Type 0 where
  pub columns : List Said
  pub end : Said
  pub are : All IsTableColumn columns
  pub ends : EndsRows agreed false end
  pub whole : said ≡ columns ++ end ∷ []

-- commands that an OK, an EOF or an error answers: COM_SET_OPTION, COM_PROCESS_KILL, COM_DEBUG and
-- COM_REGISTER_SLAVE
abbrev pub IsOptionCommand : Said → Type 0
IsOptionCommand said =
    IsCommand 0x1b kind.SetOption said ⊎ IsCommand 0x0c kind.OtherCommand said
    ⊎ IsCommand 0x0d kind.OtherCommand said ⊎ IsCommand 0x15 kind.OtherCommand said

abbrev pub IsOptionOutcome : Agreed → Said → Type 0
IsOptionOutcome agreed said =
    IsOutcome agreed false said ⊎ EndsWell agreed.is_eof_deprecated agreed false said

-- rows are fetched of a statement that is known
pub record IsFetch (statements : List ComStmtPrepareOk) (said : Said) : Type 0 where
  pub is : IsCommand 0x1c kind.Fetch said
  pub reads : IsReadAs (fetch_type.ghosts.reads_whole tt said.payload)
      (λ fetch. (statement : ComStmtPrepareOk)
      × (statement_of fetch.statement_id statements ≡ Some statement))

-- rows, and what ends them
pub record AreRows (agreed : Agreed) (said : List Said) : Type 0 where
  pub rows : List Said
  pub end : Said
  pub are_rows : All (IsRow agreed.is_binary) rows
  pub ends : EndsRows agreed false end
  pub whole : said ≡ rows ++ end ∷ []

-- the events of a binary log, which an EOF or an error ends
pub record AreEvents (agreed : Agreed) (said : List Said) : Type 0 where
  pub events : List Said
  pub end : Said
  pub are_events : All (IsServers 0x00 kind.BinaryLogEvent) events
  pub ends : EndsRows agreed false end
  pub whole : said ≡ events ++ end ∷ []

-- while the client authenticates itself: the server asks for another method, or sends data, and the
-- client answers
abbrev pub IsAuthentication : Said → Type 0
IsAuthentication said =
    IsServers 0xfe kind.AuthSwitch said ⊎ IsServers 0x01 kind.AuthMoreData said
    ⊎ ((said.side ≡ Client) × (said.id ≢ 0) × (said.kind ≡ kind.AuthAnswer))

-- the client is in
pub record IsEntry (agreed : Agreed) (said : Said) : Type 0 where
  pub is : IsServers 0x00 kind.Ok said
  pub reads : IsReadAs ((ok_type.ghosts (number 0x00)).reads_whole (ok_form agreed.capabilities) said.payload)
      (λ read. Unit {0})

-- the client authenticates itself, and is in
pub record IsLetIn (agreed : Agreed) (said : List Said) : Type 0 where
  pub steps : List Said
  pub entry : Said
  pub are_steps : All IsAuthentication steps
  pub enters : IsEntry agreed entry
  pub whole : said ≡ steps ++ entry ∷ []

-- a packet alone
abbrev pub IsAlone : (Said → Type 0) → List Said → Type 0
IsAlone is said = (one : Said) × is one × (said ≡ one ∷ [])

-- what holds of the answer to an execution
abbrev pub executed : Agreed → List ℕ → Agreed
executed agreed payload =
    record agreed { is_binary = true; wants_cursor = asks_for_cursor payload }

-- the answer to a command, where these statements were prepared
abbrev pub IsAnswered : Agreed → List ComStmtPrepareOk → Said → List Said → Type 0
IsAnswered agreed statements command answer =
    (IsCommand 0x03 kind.Query command
    × IsAnswer (record agreed { is_binary = false; wants_cursor = false }) answer)
    ⊎ (IsCommand 0x17 kind.Execute command × IsAnswer (executed agreed command.payload) answer)
    ⊎ (IsCommand 0x16 kind.Prepare command × IsPrepareAnswer agreed.is_eof_deprecated answer)
    ⊎ (IsPlainCommand command × IsAlone (IsOutcome agreed false) answer)
    ⊎ (IsUnanswered command × (answer ≡ []))
    ⊎ (IsCommand 0x09 kind.StatisticsRequest command
    × (IsAlone IsStatistics answer ⊎ IsAlone IsError answer))
    ⊎ (IsCommand 0x04 kind.FieldList command × AreTableColumns agreed answer)
    ⊎ (IsOptionCommand command × IsAlone (IsOptionOutcome agreed) answer)
    ⊎ (IsFetch statements command × AreRows (record agreed { is_binary = true }) answer)
    ⊎ ((IsCommand 0x12 kind.BinaryLogRequest command ⊎ IsCommand 0x1e kind.BinaryLogRequest command)
    × AreEvents agreed answer)
    ⊎ (IsCommand 0x11 kind.ChangeUser command × IsLetIn agreed answer)

-- how far a command has come: MariaDB's error 65535. https://mariadb.com/kb/en/progress-reporting/
pub record IsReport (said : Said) : Type 0 where
  pub side : said.side ≡ Server
  pub reports : is_report said.payload ≡ true
  pub kind_is : said.kind ≡ kind.Progress

-- these reports may stand before a packet: before a client's none, and before a server's any, where
-- the client takes them
abbrev pub MayReport : Agreed → Said → List Said → Type 0
MayReport agreed said reports = (reports ≡ [])
    ⊎ (All IsReport reports × (said.side ≡ Server) × (has agreed.mariadb.0 0x1 ≡ true))

-- the same packets, with reports before them
abbrev pub WithReports : Agreed → List Said → List Said → Type 0
WithReports agreed [] sent = sent ≡ []
WithReports agreed (said ∷ more) sent = (reports : List Said) × (rest : List Said)
    × MayReport agreed said reports × WithReports agreed more rest × (sent ≡ reports ++ said ∷ rest)

-- a command, and its answer, in which reports may stand
abbrev pub IsExchange : Agreed → List ComStmtPrepareOk → List Said → Type 0
IsExchange agreed statements [] = ⊥
IsExchange agreed statements (command ∷ sent) = (answer : List Said)
    × IsAnswered agreed statements command answer × WithReports agreed answer sent

-- ---- the connection phase
-- https://dev.mysql.com/doc/dev/mysql-server/latest/page_protocol_connection_phase.html

-- a login agrees on this
pub record Agrees (agreed : Agreed) (login : HandshakeResponse41) : Type 0 where
  pub flags : agreed.capabilities ≡ record { 0 = login.client_flag.0 }
  pub eof : agreed.is_eof_deprecated ≡ has login.client_flag.0 0x1000000
  pub maria : agreed.mariadb
      ≡ mariadb_of login.client_flag.0 login.mariadb_capabilities.0 (record { 0 = 0 })

-- the client logs in; 32 bytes would be a request for TLS
pub record IsAnyLogin (said : Said) : Type 0 where
  pub side : said.side ≡ Client
  pub later : said.id ≢ 0
  pub no_tls : length said.payload ≢ 32
  pub kind_is : said.kind ≡ kind.Login

-- the same, which says what was agreed on
pub record IsLogin (agreed : Agreed) (said : Said) : Type 0 where
  pub is : IsAnyLogin said
  pub reads : IsReadAs (login_type.ghosts.reads_whole tt said.payload) (Agrees agreed)

-- the server greets, the client logs in, and is in
pub record IsConnection (agreed : Agreed) (said : List Said) : Type 0 where
  pub no_rows : agreed.is_binary ≡ false
  pub no_cursor : agreed.wants_cursor ≡ false
  pub greeting : Said
  pub login : Said
  pub rest : List Said
  pub greets : IsServers 0x0a kind.Greeting greeting
  pub begins : greeting.id ≡ 0
  pub logs_in : IsLogin agreed login
  pub is_let_in : IsLetIn agreed rest
  pub whole : said ≡ greeting ∷ login ∷ rest

-- the client asks for TLS in place of its login
pub record IsTlsRequest (said : Said) : Type 0 where
  pub side : said.side ≡ Client
  pub later : said.id ≢ 0
  pub is_tls : length said.payload ≡ 32
  pub kind_is : said.kind ≡ kind.TlsRequest
  pub reads : IsReadAs (tls_type.ghosts.reads_whole tt said.payload)
      (λ request. has request.client_flag.0 0x800 ≡ true)

-- the server greets, and the client asks for TLS; what follows is encrypted
pub record IsTlsConnection (said : List Said) : Type 0 where
  pub greeting : Said
  pub request : Said
  pub greets : IsServers 0x0a kind.Greeting greeting
  pub begins : greeting.id ≡ 0
  pub asks : IsTlsRequest request
  pub whole : said ≡ greeting ∷ request ∷ []

-- ---- the end of a session

-- while the client authenticates itself, the server denies it
pub record IsDenied (said : List Said) : Type 0 where
  pub steps : List Said
  pub denial : Said
  pub are_steps : All IsAuthentication steps
  pub denies : IsError denial
  pub whole : said ≡ steps ++ denial ∷ []

-- an error in place of a greeting, as of a host that is blocked; no capabilities are in force
pub record IsNoGreeting (said : Said) : Type 0 where
  pub is : IsError said
  pub begins : said.id ≡ 0
  pub reads : IsReadAs (error_type.ghosts.reads_whole (record { 0 = 0 }) said.payload)
      (λ error. Unit {0})

-- the server greets, and the client's login is denied
pub record IsDeniedConnection (said : List Said) : Type 0 where
  pub greeting : Said
  pub login : Said
  pub rest : List Said
  pub greets : IsServers 0x0a kind.Greeting greeting
  pub begins : greeting.id ≡ 0
  pub logs_in : IsAnyLogin login
  pub is_denied : IsDenied rest
  pub whole : said ≡ greeting ∷ login ∷ rest

-- a connection phase after which the server closes the connection
abbrev pub IsRefusedConnection : List Said → Type 0
IsRefusedConnection said = IsAlone IsNoGreeting said ⊎ IsDeniedConnection said

-- what ends a session: COM_QUIT, which nothing answers, or a change of the user that is denied
abbrev pub IsLastExchange : List Said → Type 0
IsLastExchange [] = ⊥
IsLastExchange (command ∷ answer) =
    (IsCommand 0x01 kind.Quit command × (answer ≡ []))
    ⊎ (IsCommand 0x11 kind.ChangeUser command × IsDenied answer)

-- ---- a session that follows

-- this side's packet may be next
abbrev pub MaySend : Sender → Side → Type 0
MaySend sender.Client side = side ≡ Client
MaySend sender.Server side = side ≡ Server
MaySend sender.Either side = ⊤

-- what a session takes a packet for
abbrev pub called_at : SessionState → Said → PacketKind
called_at state said = kind_of said.side said.id said.payload state

-- what it may know after it, by what the type of its kind makes of it
pub record Advances (state : SessionState) (said : Said) (next : SessionState) : Type 0 where
  pub read : Packet
  pub reads : ReadsAs (opened_at said.side said.id said.payload state) (called_at state said)
      said.payload read
  pub goes_on : next ≡ after_packet said.side said.id (called_at state said) said.payload read state

-- what was agreed on
abbrev pub agreed_of : SessionState → Agreed
agreed_of state =
    record {
      is_binary = false;
      wants_cursor = false;
      is_eof_deprecated = state.is_eof_deprecated;
      capabilities = state.capabilities;
      mariadb = state.mariadb;
    }

-- before each packet the session isn't idle, and its side may send; it is taken for what the grammar
-- calls it; and after the last this holds
abbrev pub FollowsUntil : (SessionState → Type 0) → SessionState → List Said → Type 0
FollowsUntil ends state [] = ends state
FollowsUntil ends state (said ∷ more) =
    (is_idle state.phase ≡ false) × MaySend (next_sender state.phase) said.side
    × (called_at state said ≡ said.kind)
    × ((next : SessionState) → Advances state said next → FollowsUntil ends next more)

-- the same from a command on, for which the session was idle
abbrev pub FollowsCommandUntil : (SessionState → Type 0) → SessionState → List Said → Type 0
FollowsCommandUntil ends state [] = ⊥
FollowsCommandUntil ends state (said ∷ more) =
    MaySend (next_sender state.phase) said.side × (called_at state said ≡ said.kind)
    × ((next : SessionState) → Advances state said next → FollowsUntil ends next more)

-- the session is idle, under this agreement
abbrev pub IsIdle : Agreed → SessionState → Type 0
IsIdle agreed state = (is_idle state.phase ≡ true) × (agreed_of state ≡ agreed)

-- the session is closed, and not idle
abbrev pub IsClosed : SessionState → Type 0
IsClosed state = (state.phase ≡ phase.Closed) × (is_idle state.phase ≡ false)

-- what both sides send is encrypted
abbrev pub IsEncrypted : SessionState → Type 0
IsEncrypted state = state.phase ≡ phase.Encrypted

abbrev pub Follows : Agreed → SessionState → List Said → Type 0
Follows agreed state said = FollowsUntil (IsIdle agreed) state said

abbrev pub FollowsExchange : SessionState → List Said → Type 0
FollowsExchange state said = FollowsCommandUntil (IsIdle (agreed_of state)) state said

-- an idle session follows each exchange, packet by packet
abbrev pub EachIsFollowed : Type 0
EachIsFollowed =
    (state : SessionState) (said : List Said) → is_idle state.phase ≡ true
    → IsExchange (agreed_of state) state.statements said → FollowsExchange state said

-- a session that begins follows the connection phase
abbrev pub ConnectionIsFollowed : Type 0
ConnectionIsFollowed =
    (agreed : Agreed) (said : List Said) → IsConnection agreed said
    → Follows agreed initial_state said

-- an idle session follows what ends it, and is closed
abbrev pub LastIsFollowed : Type 0
LastIsFollowed =
    (state : SessionState) (said : List Said) → is_idle state.phase ≡ true → IsLastExchange said
    → FollowsCommandUntil IsClosed state said

-- a session that begins follows a connection phase that the server refuses, and is closed
abbrev pub RefusalIsFollowed : Type 0
RefusalIsFollowed =
    (said : List Said) → IsRefusedConnection said → FollowsUntil IsClosed initial_state said

-- a session that begins follows a greeting and a request for TLS, after which all is encrypted
abbrev pub TlsIsFollowed : Type 0
TlsIsFollowed = (said : List Said) → IsTlsConnection said → FollowsUntil IsEncrypted initial_state said

-- after these packets this may be known
abbrev pub Reaches : SessionState → List Said → SessionState → Type 0
Reaches state [] next = next ≡ state
Reaches state (said ∷ more) next =
    (between : SessionState) × Advances state said between × Reaches between more next

-- after the whole of an exchange the session is idle under the same agreement, and after no shorter
-- front of it but none at all
abbrev pub IdleAtItsEnd : Type 0
IdleAtItsEnd =
    (state next : SessionState) (front back : List Said) → is_idle state.phase ≡ true
    → IsExchange (agreed_of state) state.statements (front ++ back) → Reaches state front next
    → front ≢ []
    → (back ≡ [] → (is_idle next.phase ≡ true) × (agreed_of next ≡ agreed_of state))
    × (back ≢ [] → is_idle next.phase ≡ false)

-- exchanges, one after another, are those of the grammar, whatever is known after each
abbrev pub AreExchanges : SessionState → List (List Said) → Type 0
AreExchanges state [] = ⊤
AreExchanges state (exchange ∷ more) =
    IsExchange (agreed_of state) state.statements exchange
    × ((next : SessionState) → Reaches state exchange next → AreExchanges next more)

-- each is followed, and after each the session is idle
abbrev pub FollowsEach : SessionState → List (List Said) → Type 0
FollowsEach state [] = is_idle state.phase ≡ true
FollowsEach state (exchange ∷ more) =
    (is_idle state.phase ≡ true) × FollowsExchange state exchange
    × ((next : SessionState) → Reaches state exchange next → FollowsEach next more)

-- a whole session is followed: the connection phase, and then exchanges
abbrev pub SessionIsFollowed : Type 0
SessionIsFollowed =
    (agreed : Agreed) (connection : List Said) (exchanges : List (List Said))
    → IsConnection agreed connection
    → ((state : SessionState) → Reaches initial_state connection state → AreExchanges state exchanges)
    → Follows agreed initial_state connection
    × ((state : SessionState) → Reaches initial_state connection state → FollowsEach state exchanges)

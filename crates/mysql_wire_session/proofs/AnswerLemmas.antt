-- That a session follows what the grammar has.
use Rattle.std.proofs.Common.{◌≡◌, ◌≢◌, ◌⊎◌, ◌∙◌, ◌<◌, ◌≤◌, ◌==◌, ◌&&◌, ℕ, inl, inr, Bool, true, false, List, [], ◌∷◌, ◌++◌, length, refl, ap, sym, subst, Option, Some, None, cond, Result, Ok, Err, arith, ◌-◌, append-nil, take}
use Rattle.std.specs.List.{AllByRecursion, flat_map}
use Rattle.std.proofs.lemmas.Bool.{cases_eq, le-ltb, lt-ltb, ne_eqb}
use Rattle.std.proofs.lemmas.List.{append_assoc}
use Rattle.std.proofs.lemmas.List.Elements.{recursion_from_All}
use Rattle.mysql_wire_session.specs.declared.packet.Packet.{Packet}
use Rattle.mysql_wire_session.specs.declared.packet.Packet.TheVariants as packet
use Rattle.mysql_wire_session.specs.Kinds.{answer_kind, client_kind, done_kind, field_kind, first_byte, is_report, kind_at, row_kind, server_kind, statistics_kind, values_kind}
use Rattle.mysql_wire_parts.specs.Places.{is_short}
use Rattle.mysql_wire_session.specs.declared.packet_kind.PacketKind.{PacketKind}
use Rattle.mysql_wire_session.specs.declared.packet_kind.PacketKind.TheVariants as kind
use Rattle.mysql_wire_session.specs.declared.classify.Expectation.{Expectation}
use Rattle.mysql_wire_session.specs.declared.phase.AfterColumns.{AfterColumns}
use Rattle.mysql_wire_session.specs.declared.phase.AfterColumns.TheVariants as after
use Rattle.mysql_wire_session.specs.declared.phase.Phase.{Phase}
use Rattle.mysql_wire_session.specs.declared.phase.Phase.TheVariants as phase
use Rattle.mysql_wire_session.specs.declared.phase.RowForm.{RowForm}
use Rattle.mysql_wire_session.specs.declared.phase.RowForm.TheVariants as form
use Rattle.mysql_wire_session.specs.declared.refusal.Refusal.{Refusal}
use Rattle.mysql_wire_session.specs.declared.side.Side.{Side}
use Rattle.mysql_wire_session.specs.declared.side.Side.TheVariants.{Client, Server}
use Rattle.mysql_wire_session.specs.Grammar.{Advances, Agreed, Agrees, AreColumns, AreDescribed, AreExchanges, ConnectionIsFollowed, FollowsEach, IsLogin, SessionIsFollowed, AreDefined, AreEnded, AreResults, Counts, EachIsFollowed, EndsRows, EndsWell, Follows, FollowsCommandUntil, FollowsExchange, FollowsUntil, IdleAtItsEnd, IsAnyLogin, IsClosed, IsAnswered, IsDenied, IsEncrypted, IsIdle, IsLastExchange, IsNoGreeting, LastIsFollowed, IsTlsRequest, RefusalIsFollowed, TlsIsFollowed, IsColumnCount, IsCommand, IsAuthentication, IsDefinition, IsEntry, IsEof, IsError, IsExchange, IsFetch, IsLetIn, IsOptionCommand, IsOptionOutcome, IsFileEnd, IsFileRequest, IsOk, IsOutcome, IsPiece, IsPlainCommand, IsPrepareAnswer, IsPrepared, IsReadAs, IsResult, IsRow, IsServers, IsStatistics, IsTableColumn, IsUnanswered, MayBeColumns, MaySend, Numbered, Reaches, Said, agreed_of, called_at, executed, form_of}
use Rattle.mysql_wire_session.specs.Advance.{applied, client_state_after, counted_phase, id_after, noted, opened, prepared_phase, remembered, state_after, status_of, without_eof}
use Rattle.mysql_wire_session.specs.Phases.{after_column, after_columns, after_definitions, ended_phase, opens_cursor, statement_columns}
use Rattle.mysql_wire_session.specs.State.{SessionState, expectation_of, initial_state, statement_of}
use Rattle.mysql_wire_session.specs.Readings.{IsEnd, IsExecution, IsExecutionOf, IsQuery as ReadsQuery, IsRead, ReadsAs, after_kind, after_packet, is_ended_by_ok, statement_named}
use Rattle.mysql_wire_session.specs.Senders.{is_idle, next_sender}
use Rattle.mysql_wire_packets.specs.Oks.{ok_form}
use Rattle.mysql_wire_parts.specs.Optional.{has_query_attributes, has}
use Rattle.mysql_wire_queries.specs.contracts.payload.ColumnCountPayload.TheImpl as count_type
use Rattle.mysql_wire_queries.specs.contracts.payload.ColumnDefinition41Payload.TheImpl as column_type
use Rattle.mysql_wire_connection.specs.contracts.payload.AuthMoreDataPayload.TheImpl as more_type
use Rattle.mysql_wire_connection.specs.contracts.payload.AuthSwitchRequestPayload.TheImpl as switch_type
use Rattle.mysql_wire_connection.specs.contracts.payload.AuthSwitchResponsePayload.TheImpl as answer_type
use Rattle.mysql_wire_utility.specs.contracts.payload.ComChangeUserPayload.TheImpl as change_type
use Rattle.mysql_wire_utility.specs.contracts.payload.ComInitDbPayload.TheImpl as init_type
use Rattle.mysql_wire_statements.specs.contracts.payload.ComStmtFetchPayload.TheImpl as fetch_type
use Rattle.mysql_wire_statements.specs.declared.com_stmt_fetch.ComStmtFetch.{ComStmtFetch}
use Rattle.mysql_wire_queries.specs.contracts.payload.ComQueryPayload.TheImpl as query_type
use Rattle.mysql_wire_queries.specs.contracts.payload.ComQueryWithAttributesPayload.TheImpl as query_type_with
use Rattle.mysql_wire_statements.specs.contracts.payload.ComStmtExecutePayload.TheImpl as execute_type
use Rattle.mysql_wire_utility.specs.contracts.payload.ComPingPayload.TheImpl as ping_type
use Rattle.mysql_wire_utility.specs.contracts.payload.ComQuitPayload.TheImpl as quit_type
use Rattle.mysql_wire_statements.specs.contracts.payload.StatementCommandPayload.TheImpl as statement_command
use Rattle.mysql_wire_statements.specs.contracts.payload.ComStmtPrepareOkPayload.TheImpl as prepared_type
use Rattle.mysql_wire_statements.specs.contracts.payload.ComStmtPreparePayload.TheImpl as prepare_type
use Rattle.mysql_wire_statements.specs.contracts.payload.ComStmtSendLongDataPayload.TheImpl as long_data_type
use Rattle.mysql_wire_packets.specs.contracts.payload.EofPacketPayload.TheImpl as eof_type
use Rattle.mysql_wire_packets.specs.contracts.payload.ErrPacketPayload.TheImpl as error_type
use Rattle.mysql_wire_connection.specs.contracts.payload.HandshakeResponse41Payload.TheImpl as login_type
use Rattle.mysql_wire_connection.specs.contracts.payload.HandshakeV10Payload.TheImpl as greeting_type
use Rattle.mysql_wire_queries.specs.contracts.payload.LocalInfileRequestPayload.TheImpl as file_type
use Rattle.wire_const.specs.declared.flag_sets.capability.CapabilityFlags.{CapabilityFlags}
use Rattle.wire_const.specs.declared.flag_sets.mariadb.MariadbCapabilities.{MariadbCapabilities}
use Rattle.mysql_wire_packets.specs.contracts.payload.OkFormPayload.TheImpl as ok_type
use Rattle.mysql_wire_connection.specs.contracts.payload.SslRequestPayload.TheImpl as tls_type
use Rattle.mysql_wire_session.proofs.ReportLemmas.{with_reports}
use Rattle.mysql_wire_connection.specs.declared.ssl_request.SslRequest.{SslRequest}
use Rattle.mysql_wire_utility.specs.contracts.payload.StatisticsTextPayload.TheImpl as statistics_type
use Rattle.mysql_wire_session.specs.Fronts.{says_more}
use Rattle.mysql_wire_session.specs.SilentLemmas.{kind_silent, silent}
use Rattle.mysql_wire_packets.specs.declared.eof_packet.EofPacket.{EofPacket}
use Rattle.mysql_wire_packets.specs.declared.ok_packet.OkForm.{OkForm}
use Rattle.mysql_wire_parts.specs.declared.places.PayloadError.{PayloadError}
use Rattle.mysql_wire_queries.specs.declared.column_count.ColumnCount.{ColumnCount}
use Rattle.mysql_wire_statements.specs.declared.com_stmt_prepare_ok.ComStmtPrepareOk.{ComStmtPrepareOk}
use denote.Param.{number}

-- this is waited for, and this was agreed on
abbrev knows : Phase → Agreed → SessionState → SessionState
knows at agreed state =
    record state { phase = at; is_eof_deprecated = agreed.is_eof_deprecated; capabilities = agreed.capabilities; mariadb = agreed.mariadb; row_form = form_of agreed.is_binary; wants_cursor = agreed.wants_cursor }

-- the same for what is no row
abbrev settled : Agreed → Agreed
settled agreed = record agreed { is_binary = false; wants_cursor = false }

-- from there on these packets are followed, whatever else is known
abbrev Leads : Phase → Agreed → List Said → Type 0
Leads at agreed rest = (state : SessionState) → Follows (settled agreed) (knows at agreed state) rest

-- one that doesn't begin with ff reports nothing
no_report : (payload : List ℕ) (first : ℕ) → first_byte payload ≡ Some first → first ≢ 0xff → is_report payload ≡ false
no_report [] first begins other = refl
no_report (byte ∷ bytes) first begins other = rw (ne_eqb 0xff byte (λ same. other cc)) refl

-- what names a server's packet
names : (expected : Expectation) (id : ℕ) (payload : List ℕ) (first : ℕ) → is_report payload ≡ false → first_byte payload ≡ Some first
    → kind_at expected Server id payload ≡ server_kind expected id first (length payload)
names expected id payload first none begins = rw (none, begins) refl

-- the same of a packet of the grammar
named_as : (state : SessionState) (said : Said) (first : ℕ) (called : PacketKind) → IsServers first called said → is_report said.payload ≡ false
    → called_at state said ≡ server_kind (expectation_of state) said.id first (length said.payload)
named_as state said first called is none = rw is.side (names (expectation_of state) said.id said.payload first none is.first_is)

-- ---- what is read

-- a type reads it, and is not refused
read_is : {X : Type 0} (variant : X → Packet) (reads : List ℕ → Result X PayloadError → Type 0) (holds : X → Type 0) (payload : List ℕ) (shown : Packet)
    → IsReadAs (reads payload) holds → IsRead variant reads payload shown → (read : X) × holds read × (shown ≡ variant read)
read_is variant reads holds payload shown all (inl (read, is, shown_is)) = (read, all (Ok read) is, shown_is)
read_is variant reads holds payload shown all (inr (error, refusal, is, refuses, rest)) = absurd (all (Err error) is refusal refuses)

-- a type reads it, or refuses it
read_or_not : {X : Type 0} (variant : X → Packet) (reads : List ℕ → Result X PayloadError → Type 0) (payload : List ℕ) (shown : Packet)
    → IsRead variant reads payload shown → ((read : X) × (shown ≡ variant read)) ⊎ ((refusal : Refusal) × (shown ≡ packet.Refused refusal))
read_or_not variant reads payload shown (inl (read, is, shown_is)) = inl (read, shown_is)
read_or_not variant reads payload shown (inr (error, refusal, is, refuses, shown_is)) = inr (refusal, shown_is)

-- ---- a step

-- whatever its type makes of a packet that is called so, the rest is followed
abbrev Then : (SessionState → Type 0) → SessionState → Side → PacketKind → Said → List Said → Type 0
Then ends state side called said rest =
    (shown : Packet) → ReadsAs (opened called (length said.payload) state) called said.payload shown → FollowsUntil ends (after_packet side said.id called said.payload shown state) rest

-- so it is after the packet
goes_on : (ends : SessionState → Type 0) (state : SessionState) (side : Side) (said : Said) (rest : List Said) (called : PacketKind) → said.side ≡ side → called_at state said ≡ called
    → Then ends state side called said rest → (next : SessionState) → Advances state said next → FollowsUntil ends next rest
goes_on ends state side said rest called side_is so then next on =
    let reads = subst (λ (k : PacketKind). ReadsAs (opened k (length said.payload) state) k said.payload on.read) so on.reads in
    let goes : next ≡ after_packet side said.id called said.payload on.read state =
    (on.goes_on ∙ ap (λ (k : PacketKind). after_packet said.side said.id k said.payload on.read state) so
    ∙ ap (λ (s : Side). after_packet s said.id called said.payload on.read state) side_is) in
    subst (λ (k : SessionState). FollowsUntil ends k rest) (sym goes) (then on.read reads)

-- a server's packet of the grammar is named as it names it, and then the rest
goes_until : (ends : SessionState → Type 0) (state : SessionState) (said : Said) (rest : List Said) (first : ℕ) (called : PacketKind) → is_idle state.phase ≡ false → MaySend (next_sender state.phase) Server
    → IsServers first called said → called_at state said ≡ called
    → Then ends state Server called said rest → FollowsUntil ends state (said ∷ rest)
goes_until ends state said rest first called busy may is so then =
    (busy, subst (λ (s : Side). MaySend (next_sender state.phase) s) (sym is.side) may, so ∙ sym is.kind_is, goes_on ends state Server said rest called is.side so then)

goes : (A : Agreed) (state : SessionState) (said : Said) (rest : List Said) (first : ℕ) (called : PacketKind) → is_idle state.phase ≡ false → MaySend (next_sender state.phase) Server
    → IsServers first called said → called_at state said ≡ called
    → Then (IsIdle A) state Server called said rest → Follows A state (said ∷ rest)
goes A = goes_until (IsIdle A)

-- the same of a client's packet
client_goes_until : (ends : SessionState → Type 0) (state : SessionState) (said : Said) (rest : List Said) (called : PacketKind) → is_idle state.phase ≡ false → MaySend (next_sender state.phase) Client
    → said.side ≡ Client → said.kind ≡ called → client_kind (expectation_of state) said.id (first_byte said.payload) (length said.payload) ≡ called
    → Then ends state Client called said rest → FollowsUntil ends state (said ∷ rest)
client_goes_until ends state said rest called busy may side kind_is called_so then =
    let so : called_at state said ≡ called = rw side called_so in
    (busy, subst (λ (s : Side). MaySend (next_sender state.phase) s) (sym side) may, so ∙ sym kind_is, goes_on ends state Client said rest called side so then)

client_goes : (A : Agreed) (state : SessionState) (said : Said) (rest : List Said) (called : PacketKind) → is_idle state.phase ≡ false → MaySend (next_sender state.phase) Client
    → said.side ≡ Client → said.kind ≡ called → client_kind (expectation_of state) said.id (first_byte said.payload) (length said.payload) ≡ called
    → Then (IsIdle A) state Client called said rest → Follows A state (said ∷ rest)
client_goes A = client_goes_until (IsIdle A)

-- ---- the first packet of an answer

abbrev after_result : Bool → Phase
after_result is_more = cond is_more phase.Answer phase.Command

-- what is known of a packet besides: the id that follows it
abbrev numbered : SessionState → Said → SessionState
numbered state said = record state { next_id = id_after said.id (length said.payload) }

-- and the status that it told
abbrev told : SessionState → Said → ℕ → SessionState
told state said status = record (numbered state said) { status = status_of status }

done_named : (b : Bool) (len : ℕ) → done_kind (form_of b) len ≡ kind.Ok
done_named true len = refl
done_named false len = refl

-- an OK, and then the rest
ok_goes : (agreed : Agreed) (more : Bool) (said : Said) (rest : List Said) → IsOk agreed more said → Leads (after_result more) agreed rest
    → Leads phase.Answer agreed (said ∷ rest)
ok_goes agreed more said rest is then state =
    goes (settled agreed) (knows phase.Answer agreed state) said rest 0x00 kind.Ok refl refl is.is
    (named_as (knows phase.Answer agreed state) said 0x00 kind.Ok is.is (no_report said.payload 0x00 is.is.first_is (λ same. omega (arith, same)))
    ∙ done_named agreed.is_binary (length said.payload))
    (λ shown reads.
    let read = read_is packet.Ok ((ok_type.ghosts (number 0x00)).reads_whole (ok_form agreed.capabilities)) (λ (ok : OkForm 0x00). has ok.status_flags.0 0x8 ≡ more) said.payload shown is.reads reads in
    rw (read.2, read.1) (then (told state said read.0.status_flags.0)))

-- after an error, read or refused
error_reads : (agreed : Agreed) (more : Bool) (rest : List Said) (said : Said) (state : SessionState) → more ≡ false → Leads (after_result more) agreed rest
    → Follows (settled agreed) (knows phase.Command agreed (numbered state said)) rest
error_reads agreed more rest said state none then =
    subst (λ (b : Bool). Follows (settled agreed) (knows (after_result b) agreed (numbered state said)) rest) none (then (numbered state said))

error_goes : (agreed : Agreed) (more : Bool) (said : Said) (rest : List Said) → IsError said → more ≡ false → Leads (after_result more) agreed rest
    → Leads phase.Answer agreed (said ∷ rest)
error_goes agreed more said rest is none then state =
    goes (settled agreed) (knows phase.Answer agreed state) said rest 0xff kind.Error refl refl is.is
    (named_as (knows phase.Answer agreed state) said 0xff kind.Error is.is is.is_no_report)
    (λ shown reads. elim (read_or_not packet.Error (error_type.ghosts.reads_whole agreed.capabilities) said.payload shown reads) [
      | inl read ↦ rw read.1 (error_reads agreed more rest said state none then)
      | inr refused ↦ rw refused.1 (error_reads agreed more rest said state none then)
    ])

outcome_goes : (agreed : Agreed) (more : Bool) (said : Said) (rest : List Said) → IsOutcome agreed more said → Leads (after_result more) agreed rest
    → Leads phase.Answer agreed (said ∷ rest)
outcome_goes agreed more said rest (inl ok) then = ok_goes agreed more said rest ok then
outcome_goes agreed more said rest (inr (error, none)) then = error_goes agreed more said rest error none then

count_named : (rows : RowForm) (first len : ℕ) → first ≢ 0x00 → first ≢ 0xfb → first ≢ 0xff → answer_kind rows first len ≡ kind.ColumnCount
count_named rows first len a b c = rw (ne_eqb first 0x00 a, ne_eqb first 0xfb b, ne_eqb first 0xff c) refl

-- after the count of columns
abbrev after_count : Bool → Bool → ℕ → Phase
after_count true d columns = after_columns d after.Rows
after_count false d columns = phase.Columns columns after.Rows

counted : (told d : Bool) (columns : ℕ) (count : ColumnCount) → Counts told columns count → 0 < columns → counted_phase d count ≡ after_count told d columns
counted true d columns count is some =
    rw (is.has_definitions, is.are_left_out, is.columns_are, ne_eqb columns 0 (λ none. omega arith)) refl
counted false d columns count is some =
    rw (is.has_definitions, is.are_left_out, is.columns_are, ne_eqb columns 0 (λ none. omega arith)) refl

count_goes : (told : Bool) (agreed : Agreed) (columns : ℕ) (said : Said) (rest : List Said) → 0 < columns → IsColumnCount agreed told columns said
    → Leads (after_count told agreed.is_eof_deprecated columns) agreed rest → Leads phase.Answer agreed (said ∷ rest)
count_goes told agreed columns said rest some is then state =
    goes (settled agreed) (knows phase.Answer agreed state) said rest is.first kind.ColumnCount refl refl is.is
    (named_as (knows phase.Answer agreed state) said is.first kind.ColumnCount is.is (no_report said.payload is.first is.is.first_is is.is_no_error)
    ∙ count_named (form_of agreed.is_binary) is.first (length said.payload) is.is_no_ok is.is_no_file is.is_no_error)
    (λ shown reads.
    let read = read_is packet.ColumnCount (count_type.ghosts.reads_whole (agreed.capabilities, agreed.mariadb)) (Counts told columns) said.payload shown is.reads reads in
    rw read.2
    (subst (λ (at : Phase). Follows (settled agreed) (knows at agreed (record (numbered state said) { columns = read.0.column_count; types = [] })) rest) (sym (counted told agreed.is_eof_deprecated columns read.0 read.1 some))
    (then (record (numbered state said) { columns = read.0.column_count; types = [] }))))

-- ---- definitions

after_more : (d : Bool) (following : AfterColumns) (left : ℕ) → 1 < left → after_column d left following ≡ phase.Columns (left - 1) following
after_more d following left more = rw (lt-ltb 1 left more) refl

after_last : (d : Bool) (following : AfterColumns) (left : ℕ) → left ≡ 1 → after_column d left following ≡ after_columns d following
after_last d following left last = rw last refl

definition_goes : (agreed : Agreed) (following : AfterColumns) (left : ℕ) (said : Said) (rest : List Said) → IsDefinition said
    → Leads (after_column agreed.is_eof_deprecated left following) agreed rest → Leads (phase.Columns left following) agreed (said ∷ rest)
definition_goes agreed following left said rest is then state =
    goes (settled agreed) (knows (phase.Columns left following) agreed state) said rest is.first kind.Column refl refl is.is
    (named_as (knows (phase.Columns left following) agreed state) said is.first kind.Column is.is (no_report said.payload is.first is.is.first_is is.is_no_error)
    ∙ rw (ne_eqb is.first 0xff is.is_no_error) refl)
    (λ shown reads. elim (read_or_not packet.Column (column_type.ghosts.reads_whole agreed.mariadb) said.payload shown reads) [
      | inl read ↦ rw read.1 (then (record (numbered state said) { types = noted read.0.column_type.0 state.types }))
      | inr refused ↦ rw refused.1 (then (numbered state said))
    ])

definitions_go : (agreed : Agreed) (following : AfterColumns) (left : ℕ) (definitions rest : List Said) → AllByRecursion IsDefinition definitions → length definitions ≡ left → 0 < left
    → Leads (after_columns agreed.is_eof_deprecated following) agreed rest → Leads (phase.Columns left following) agreed (definitions ++ rest)
definitions_go agreed following left [] rest are all some then state = absurd (omega (arith, all, some))
definitions_go agreed following left (one ∷ []) rest are all some then state =
    definition_goes agreed following left one rest are.0
    (λ next. subst (λ (at : Phase). Follows (settled agreed) (knows at agreed next) rest) (sym (after_last agreed.is_eof_deprecated following left (omega (arith, all)))) (then next)) state
definitions_go agreed following left (one ∷ two ∷ more) rest are all some then state =
    definition_goes agreed following left one (two ∷ more ++ rest) are.0
    (λ next. subst (λ (at : Phase). Follows (settled agreed) (knows at agreed next) (two ∷ more ++ rest)) (sym (after_more agreed.is_eof_deprecated following left (omega (arith, all))))
    (definitions_go agreed following (left - 1) (two ∷ more) rest are.1 (omega (arith, all)) (omega (arith, all)) then next)) state

-- the definitions after a count, where they follow
described_go : (told : Bool) (agreed : Agreed) (columns : ℕ) (definitions rest : List Said) → AreDescribed told columns definitions → 0 < columns
    → Leads (after_columns agreed.is_eof_deprecated after.Rows) agreed rest → Leads (after_count told agreed.is_eof_deprecated columns) agreed (definitions ++ rest)
described_go true agreed columns definitions rest none some then state =
    subst (λ (definitions : List Said). Follows (settled agreed) (knows (after_columns agreed.is_eof_deprecated after.Rows) agreed state) (definitions ++ rest)) (sym none) (then state)
described_go false agreed columns definitions rest (are, all) some then state =
    definitions_go agreed after.Rows columns definitions rest (recursion_from_All IsDefinition definitions are) all some then state

-- the same agreement
abbrev with_eof : Bool → Agreed → Agreed
with_eof d agreed = record agreed { is_eof_deprecated = d }

-- five bytes are an EOF in any phase
short_opens : (payload : List ℕ) (state : SessionState) → length payload ≡ 5 → opened kind.Eof (length payload) state ≡ state
short_opens payload state short = rw short refl

-- where no definitions end, nothing is opened
either : (b : Bool) (state : SessionState) → cond b state state ≡ state
either true state = refl
either false state = refl

opens_here : (payload : List ℕ) (state : SessionState) → without_eof state.phase state ≡ state → opened kind.Eof (length payload) state ≡ state
opens_here payload state same = rw same (either (length payload == 5) state)

-- after an EOF, or the OK in its place, that opens nothing
from_opened : (A : Agreed) (said : Said) (shown : Packet) (state : SessionState) (rest : List Said) → remembered shown state ≡ state → opened kind.Eof (length said.payload) state ≡ state
    → Follows A (record (applied shown (state_after Server kind.Eof (length said.payload) state)) { next_id = id_after said.id (length said.payload) }) rest
    → Follows A (after_packet Server said.id kind.Eof said.payload shown state) rest
from_opened A said shown state rest kept opens then =
    subst (λ (k : SessionState). Follows A (record (applied shown (state_after Server kind.Eof (length said.payload) (opened kind.Eof (length said.payload) k))) { next_id = id_after said.id (length said.payload) }) rest) (sym kept)
    (subst (λ (k : SessionState). Follows A (record (applied shown (state_after Server kind.Eof (length said.payload) k)) { next_id = id_after said.id (length said.payload) }) rest) (sym opens) then)

-- an EOF after definitions, which tells these flags
eof_goes : (flags : ℕ → Type 0) (agreed : Agreed) (following : AfterColumns) (at : Phase) (one : Said) (rest : List Said) → IsEof flags one
    → ((status : ℕ) → flags status → ended_phase agreed.wants_cursor (phase.ColumnsEnd following) status ≡ at)
    → Leads at (with_eof false agreed) rest → Leads (phase.ColumnsEnd following) (with_eof false agreed) (one ∷ rest)
eof_goes flags agreed following at one rest end ends then state =
    goes (settled (with_eof false agreed)) (knows (phase.ColumnsEnd following) (with_eof false agreed) state) one rest 0xfe kind.Eof refl refl end.is
    (named_as (knows (phase.ColumnsEnd following) (with_eof false agreed) state) one 0xfe kind.Eof end.is (no_report one.payload 0xfe end.is.first_is (λ same. omega (arith, same)))
    ∙ rw end.is_short refl)
    (λ shown reads.
    let at_end = subst (λ (k : SessionState). ReadsAs k kind.Eof one.payload shown)
    (short_opens one.payload (knows (phase.ColumnsEnd following) (with_eof false agreed) state) end.is_short) reads in
    let read = read_is packet.Eof (eof_type.ghosts.reads_whole tt) (λ (eof : EofPacket). flags eof.status_flags.0) one.payload shown end.reads at_end in
    subst (λ (p : Packet). Follows (settled (with_eof false agreed)) (after_packet Server one.id kind.Eof one.payload p (knows (phase.ColumnsEnd following) (with_eof false agreed) state)) rest) (sym read.2)
    (from_opened (settled (with_eof false agreed)) one (packet.Eof read.0) (knows (phase.ColumnsEnd following) (with_eof false agreed) state) rest refl
    (short_opens one.payload (knows (phase.ColumnsEnd following) (with_eof false agreed) state) end.is_short)
    (subst (λ (p : Phase). Follows (settled (with_eof false agreed)) (knows p (with_eof false agreed) (told state one read.0.status_flags.0)) rest) (sym (ends read.0.status_flags.0 read.1))
    (then (told state one read.0.status_flags.0)))))

defined_goes : (d : Bool) (agreed : Agreed) (said rest : List Said) → AreDefined agreed.wants_cursor d said
    → Leads phase.Rows (with_eof d agreed) rest → Leads (after_columns d after.Rows) (with_eof d agreed) (said ++ rest)
defined_goes true agreed said rest none then state = subst (λ (said : List Said). Follows (settled (with_eof true agreed)) (knows phase.Rows (with_eof true agreed) state) (said ++ rest)) (sym none) (then state)
defined_goes false agreed said rest (one, end, only) then state =
    subst (λ (said : List Said). Follows (settled (with_eof false agreed)) (knows (phase.ColumnsEnd after.Rows) (with_eof false agreed) state) (said ++ rest)) (sym only)
    (eof_goes (λ flags. (agreed.wants_cursor && opens_cursor flags) ≡ false) agreed after.Rows phase.Rows one rest end (λ status none. rw none refl) then state)

cursor_goes : (d : Bool) (agreed : Agreed) (one : Said) (rest : List Said) → agreed.wants_cursor ≡ true → d ≡ false → IsEof (λ flags. opens_cursor flags ≡ true) one
    → Leads phase.Command (with_eof d agreed) rest → Leads (after_columns d after.Rows) (with_eof d agreed) (one ∷ rest)
cursor_goes true agreed one rest wanted kept end then state = absurd cc
cursor_goes false agreed one rest wanted kept end then state =
    eof_goes (λ flags. opens_cursor flags ≡ true) agreed after.Rows phase.Command one rest end (λ status some. rw (wanted, some) refl) then state

-- ---- rows

short_no : (d : Bool) (len : ℕ) → 0xffffff ≤ len → is_short d len ≡ false
short_no true len long = le-ltb len 0xffffff long
short_no false len long = le-ltb len 9 (omega arith)

row_named : (b d : Bool) (first len : ℕ) → first ≢ 0xff → (first ≡ 0xfe → 0xffffff ≤ len) → row_kind (form_of b) d first len ≡ values_kind (form_of b)
row_named b d first len other long = elim (cases_eq first 0xfe) [
  | inl same ↦ rw (ne_eqb first 0xff other, same, short_no d len (long same)) refl
  | inr differs ↦ rw (ne_eqb first 0xff other, ne_eqb first 0xfe differs) refl
]

abbrev with_rows : Bool → Agreed → Agreed
with_rows b agreed = record agreed { is_binary = b }

row_goes : (b : Bool) (agreed : Agreed) (row : Said) (rest : List Said) → IsRow b row
    → Leads phase.Rows (with_rows b agreed) rest → Leads phase.Rows (with_rows b agreed) (row ∷ rest)
row_goes true agreed row rest is then state =
    goes (settled (with_rows true agreed)) (knows phase.Rows (with_rows true agreed) state) row rest is.first kind.BinaryRow refl refl is.is
    (named_as (knows phase.Rows (with_rows true agreed) state) row is.first kind.BinaryRow is.is (no_report row.payload is.first is.is.first_is is.is_no_error)
    ∙ row_named true agreed.is_eof_deprecated is.first (length row.payload) is.is_no_error is.is_no_end)
    (λ shown reads. rw reads.2 (then (numbered state row)))
row_goes false agreed row rest is then state =
    goes (settled (with_rows false agreed)) (knows phase.Rows (with_rows false agreed) state) row rest is.first kind.Row refl refl is.is
    (named_as (knows phase.Rows (with_rows false agreed) state) row is.first kind.Row is.is (no_report row.payload is.first is.is.first_is is.is_no_error)
    ∙ row_named false agreed.is_eof_deprecated is.first (length row.payload) is.is_no_error is.is_no_end)
    (λ shown reads. rw reads.2 (then (numbered state row)))

rows_go : (agreed : Agreed) (rows rest : List Said) → AllByRecursion (IsRow agreed.is_binary) rows
    → Leads phase.Rows agreed rest → Leads phase.Rows agreed (rows ++ rest)
rows_go agreed [] rest are then state = then state
rows_go agreed (row ∷ rows) rest (is, are) then state =
    row_goes agreed.is_binary agreed row (rows ++ rest) is (rows_go agreed rows rest are then) state

-- an error where rows, or the columns of a table, or their end are waited for
error_ends : (agreed : Agreed) (more : Bool) (said : Said) (rest : List Said) → IsError said → more ≡ false → Leads (after_result more) agreed rest
    → Leads phase.Rows agreed (said ∷ rest)
error_ends agreed more said rest is none then state =
    goes (settled agreed) (knows phase.Rows agreed state) said rest 0xff kind.Error refl refl is.is
    (named_as (knows phase.Rows agreed state) said 0xff kind.Error is.is is.is_no_report)
    (λ shown reads. elim (read_or_not packet.Error (error_type.ghosts.reads_whole agreed.capabilities) said.payload shown reads) [
      | inl read ↦ rw read.1 (error_reads agreed more rest said state none then)
      | inr refused ↦ rw refused.1 (error_reads agreed more rest said state none then)
    ])

by_ok : (len : ℕ) → 7 ≤ len → is_ended_by_ok true len ≡ true
by_ok len long = rw (ne_eqb len 5 (λ five. omega (arith, five, long))) refl

end_goes : (d : Bool) (agreed : Agreed) (more : Bool) (said : Said) (rest : List Said) → EndsWell d agreed more said → Leads (after_result more) (with_eof d agreed) rest
    → Leads phase.Rows (with_eof d agreed) (said ∷ rest)
end_goes true agreed more said rest is then state =
    goes (settled (with_eof true agreed)) (knows phase.Rows (with_eof true agreed) state) said rest 0xfe kind.Eof refl refl is.is
    (named_as (knows phase.Rows (with_eof true agreed) state) said 0xfe kind.Eof is.is (no_report said.payload 0xfe is.is.first_is (λ same. omega (arith, same)))
    ∙ rw (lt-ltb (length said.payload) 0xffffff is.is_short) refl)
    (λ shown reads.
    let at_end = subst (λ (k : SessionState). ReadsAs k kind.Eof said.payload shown) (opens_here said.payload (knows phase.Rows (with_eof true agreed) state) refl) reads in
    let done = subst (λ (b : Bool). IsEnd b agreed.capabilities said.payload shown) (by_ok (length said.payload) is.is_long) at_end in
    let read = read_is packet.RowsEnd ((ok_type.ghosts (number 0xfe)).reads_whole (ok_form agreed.capabilities)) (λ (ok : OkForm 0xfe). has ok.status_flags.0 0x8 ≡ more) said.payload shown is.reads done in
    subst (λ (p : Packet). Follows (settled (with_eof true agreed)) (after_packet Server said.id kind.Eof said.payload p (knows phase.Rows (with_eof true agreed) state)) rest) (sym read.2)
    (from_opened (settled (with_eof true agreed)) said (packet.RowsEnd read.0) (knows phase.Rows (with_eof true agreed) state) rest refl (opens_here said.payload (knows phase.Rows (with_eof true agreed) state) refl) (rw read.1 (then (told state said read.0.status_flags.0)))))
end_goes false agreed more said rest is then state =
    goes (settled (with_eof false agreed)) (knows phase.Rows (with_eof false agreed) state) said rest 0xfe kind.Eof refl refl is.is
    (named_as (knows phase.Rows (with_eof false agreed) state) said 0xfe kind.Eof is.is (no_report said.payload 0xfe is.is.first_is (λ same. omega (arith, same)))
    ∙ rw is.is_short refl)
    (λ shown reads.
    let at_end = subst (λ (k : SessionState). ReadsAs k kind.Eof said.payload shown) (opens_here said.payload (knows phase.Rows (with_eof false agreed) state) refl) reads in
    let read = read_is packet.Eof (eof_type.ghosts.reads_whole tt) (λ (eof : EofPacket). has eof.status_flags.0 0x8 ≡ more) said.payload shown is.reads at_end in
    subst (λ (p : Packet). Follows (settled (with_eof false agreed)) (after_packet Server said.id kind.Eof said.payload p (knows phase.Rows (with_eof false agreed) state)) rest) (sym read.2)
    (from_opened (settled (with_eof false agreed)) said (packet.Eof read.0) (knows phase.Rows (with_eof false agreed) state) rest refl (opens_here said.payload (knows phase.Rows (with_eof false agreed) state) refl) (rw read.1 (then (told state said read.0.status_flags.0)))))

ends_go : (agreed : Agreed) (more : Bool) (said : Said) (rest : List Said) → EndsRows agreed more said → Leads (after_result more) agreed rest
    → Leads phase.Rows agreed (said ∷ rest)
ends_go agreed more said rest (inl is) then state = end_goes agreed.is_eof_deprecated agreed more said rest is then state
ends_go agreed more said rest (inr (error, none)) then state = error_ends agreed more said rest error none then state

-- ---- a file

piece_stays : (payload : List ℕ) (state : SessionState) → payload ≢ [] → client_state_after kind.File (length payload) state ≡ state
piece_stays [] state some = absurd (some refl)
piece_stays (byte ∷ bytes) state some = rw (ne_eqb (length (byte ∷ bytes)) 0 (λ zero. omega (arith, zero))) refl

-- a packet of the id that follows is a piece, and no command
is_piece : (state : SessionState) (said : Said) → state.phase ≡ phase.File → state.next_id ≡ said.id
    → client_kind (expectation_of state) said.id (first_byte said.payload) (length said.payload) ≡ kind.File
is_piece state said at next = rw (at, next) (elim (cases_eq said.id 0) [
  | inl zero ↦ rw zero refl
  | inr other ↦ rw (ne_eqb said.id 0 other) refl
])

pieces_go : (agreed : Agreed) (pieces : List Said) (end : Said) (rest : List Said) (state : SessionState) → AllByRecursion IsPiece pieces → IsFileEnd end
    → Numbered state.next_id (pieces ++ end ∷ [])
    → Leads phase.Answer agreed rest → Follows (settled agreed) (knows phase.File agreed state) (pieces ++ end ∷ rest)
pieces_go agreed [] end rest state are ends (id_is, on) then =
    client_goes (settled agreed) (knows phase.File agreed state) end rest kind.File refl refl ends.side ends.kind_is
    (is_piece (knows phase.File agreed state) end refl (sym id_is))
    (λ shown reads. rw (reads.2, ends.none) (then (record state { next_id = id_after end.id 0 })))
pieces_go agreed (piece ∷ pieces) end rest state (is, are) ends (id_is, on) then =
    client_goes (settled agreed) (knows phase.File agreed state) piece (pieces ++ end ∷ rest) kind.File refl refl is.side is.kind_is
    (is_piece (knows phase.File agreed state) piece refl (sym id_is))
    (λ shown reads. rw (reads.2, piece_stays piece.payload (knows phase.File agreed state) is.some)
    (pieces_go agreed pieces end rest (numbered state piece) are ends on then))

load_goes : (agreed : Agreed) (request : Said) (pieces : List Said) (end : Said) (rest : List Said) → IsFileRequest request → AllByRecursion IsPiece pieces → IsFileEnd end
    → Numbered (id_after request.id (length request.payload)) (pieces ++ end ∷ [])
    → Leads phase.Answer agreed rest → Leads phase.Answer agreed (request ∷ (pieces ++ end ∷ rest))
load_goes agreed request pieces end rest is are ends on then state =
    goes (settled agreed) (knows phase.Answer agreed state) request (pieces ++ end ∷ rest) 0xfb kind.LocalInfile refl refl is.is
    (named_as (knows phase.Answer agreed state) request 0xfb kind.LocalInfile is.is (no_report request.payload 0xfb is.is.first_is (λ same. omega (arith, same))))
    (λ shown reads.
    let read = read_is packet.LocalInfile (file_type.ghosts.reads_whole tt) (λ request. Unit {0}) request.payload shown is.reads reads in
    rw read.2 (pieces_go agreed pieces end rest (numbered state request) are ends on then))

-- ---- results

resultset_whole : (count end : Said) (definitions defined rows rest : List Said)
    → (count ∷ (definitions ++ (defined ++ (rows ++ end ∷ [])))) ++ rest ≡ count ∷ (definitions ++ (defined ++ (rows ++ end ∷ rest)))
resultset_whole count end definitions defined rows rest =
    ap (λ (packets : List Said). count ∷ packets)
    (append_assoc definitions (defined ++ (rows ++ end ∷ [])) rest
    ∙ ap (λ (packets : List Said). definitions ++ packets)
    (append_assoc defined (rows ++ end ∷ []) rest ∙ ap (λ (packets : List Said). defined ++ packets) (append_assoc rows (end ∷ []) rest)))

result_goes : (agreed : Agreed) (more : Bool) (said rest : List Said) → IsResult agreed more said
    → Leads (after_result more) agreed rest → Leads phase.Answer agreed (said ++ rest)
result_goes agreed more said rest (inl (one, outcome, only)) then state =
    subst (λ (said : List Said). Follows (settled agreed) (knows phase.Answer agreed state) (said ++ rest)) (sym only) (outcome_goes agreed more one rest outcome then state)
result_goes agreed more said rest (inr (inl set)) then state =
    subst (λ (said : List Said). Follows (settled agreed) (knows phase.Answer agreed state) said)
    (sym (resultset_whole set.count set.end set.definitions set.defined set.rows rest) ∙ ap (λ (packets : List Said). packets ++ rest) (sym set.whole))
    (count_goes set.are_told agreed set.columns set.count (set.definitions ++ (set.defined ++ (set.rows ++ set.end ∷ rest))) set.has_columns set.counts
    (described_go set.are_told agreed set.columns set.definitions (set.defined ++ (set.rows ++ set.end ∷ rest)) set.described set.has_columns
    (defined_goes agreed.is_eof_deprecated agreed set.defined (set.rows ++ set.end ∷ rest) set.are_defined
    (rows_go agreed set.rows (set.end ∷ rest) (recursion_from_All (IsRow agreed.is_binary) set.rows set.are_rows)
    (ends_go agreed more set.end rest set.ends then)))) state)
result_goes agreed more said rest (inr (inr (inl (set, none)))) then state =
    subst (λ (said : List Said). Follows (settled agreed) (knows phase.Answer agreed state) said)
    (ap (λ (packets : List Said). set.count ∷ packets) (sym (append_assoc set.definitions (set.end ∷ []) rest)) ∙ ap (λ (packets : List Said). packets ++ rest) (sym set.whole))
    (count_goes set.are_told agreed set.columns set.count (set.definitions ++ set.end ∷ rest) set.has_columns set.counts
    (described_go set.are_told agreed set.columns set.definitions (set.end ∷ rest) set.described set.has_columns
    (cursor_goes agreed.is_eof_deprecated agreed set.end rest set.is_wanted set.has_eof set.ends
    (λ next. subst (λ (b : Bool). Follows (settled agreed) (knows (after_result b) agreed next) rest) none (then next)))) state)
result_goes agreed more said rest (inr (inr (inr load))) then state =
    subst (λ (said : List Said). Follows (settled agreed) (knows phase.Answer agreed state) said)
    (ap (λ (packets : List Said). load.request ∷ packets) (sym (append_assoc load.pieces (load.end ∷ load.outcome ∷ []) rest)) ∙ ap (λ (packets : List Said). packets ++ rest) (sym load.whole))
    (load_goes agreed load.request load.pieces load.end (load.outcome ∷ rest) load.asks (recursion_from_All IsPiece load.pieces load.are_pieces) load.ends load.are_numbered
    (outcome_goes agreed more load.outcome rest load.is_outcome then) state)

-- nothing more is to follow
over_here : (agreed : Agreed) → Leads phase.Command agreed []
over_here agreed state = (refl, refl)

results_go : (agreed : Agreed) (results : List (List Said)) → AreResults agreed results
    → Leads phase.Answer agreed (flat_map (λ result. result) results)
results_go agreed [] are state = absurd are
results_go agreed (result ∷ []) are state = result_goes agreed false result [] are (over_here agreed) state
results_go agreed (result ∷ next ∷ results) (is, are) state =
    result_goes agreed true result (flat_map (λ result. result) (next ∷ results)) is (results_go agreed (next ∷ results) are) state

-- ---- a command

-- a command, and its answer
command_goes_until : (ends : SessionState → Type 0) (state : SessionState) (number : ℕ) (called : PacketKind) (said : Said) (answer : List Said) → state.phase ≡ phase.Command → IsCommand number called said
    → client_kind (record (expectation_of state) { phase = phase.Command }) 0 (Some number) (length said.payload) ≡ called
    → Then ends state Client called said answer → FollowsCommandUntil ends state (said ∷ answer)
command_goes_until ends state number called said answer at is called_so then =
    let so : called_at state said ≡ called = rw (is.side, is.begins, is.first_is, at) called_so in (
      rw (at, is.side) refl,
      so ∙ sym is.kind_is,
      goes_on ends state Client said answer called is.side so then,
    )

command_goes : (state : SessionState) (number : ℕ) (called : PacketKind) (said : Said) (answer : List Said) → state.phase ≡ phase.Command → IsCommand number called said
    → client_kind (record (expectation_of state) { phase = phase.Command }) 0 (Some number) (length said.payload) ≡ called
    → Then (IsIdle (agreed_of state)) state Client called said answer → FollowsExchange state (said ∷ answer)
command_goes state = command_goes_until (IsIdle (agreed_of state)) state

-- what a type makes of a packet, or that it refuses it
of_read : {X : Type 0} (variant : X → Packet) (reads : List ℕ → Result X PayloadError → Type 0) (payload : List ℕ) (shown : Packet) (P : Packet → Type 0)
    → ((read : X) → P (variant read)) → ((refusal : Refusal) → P (packet.Refused refusal)) → IsRead variant reads payload shown → P shown
of_read variant reads payload shown P there not_there is = elim (read_or_not variant reads payload shown is) [
  | inl read ↦ subst P (sym read.1) (there read.0)
  | inr refused ↦ subst P (sym refused.1) (not_there refused.0)
]

-- a command that its type reads, or refuses
typed_goes : {X : Type 0} (variant : X → Packet) (reads : List ℕ → Result X PayloadError → Type 0) (state : SessionState) (called : PacketKind) (said : Said) (answer : List Said)
    → ((read : X) → Follows (agreed_of state) (after_packet Client said.id called said.payload (variant read) state) answer)
    → ((refusal : Refusal) → Follows (agreed_of state) (after_packet Client said.id called said.payload (packet.Refused refusal) state) answer)
    → (shown : Packet) → IsRead variant reads said.payload shown → Follows (agreed_of state) (after_packet Client said.id called said.payload shown state) answer
typed_goes variant reads state called said answer there not_there shown is =
    of_read variant reads said.payload shown (λ (p : Packet). Follows (agreed_of state) (after_packet Client said.id called said.payload p state) answer) there not_there is

-- a command that says no more of the session than its kind
quiet_goes : (state : SessionState) (number : ℕ) (called : PacketKind) (said : Said) (answer : List Said) → state.phase ≡ phase.Command → IsCommand number called said
    → client_kind (record (expectation_of state) { phase = phase.Command }) 0 (Some number) (length said.payload) ≡ called
    → says_more called (opened called (length said.payload) state).phase ≡ false
    → Follows (agreed_of state) (after_kind Client said.id called (length said.payload) state) answer → FollowsExchange state (said ∷ answer)
quiet_goes state number called said answer at is called_so quiet then = command_goes state number called said answer at is called_so
    (λ shown reads. subst (λ (next : SessionState). Follows (agreed_of state) next answer)
    (silent Client said.id called said.payload shown state (opened called (length said.payload) state).phase quiet (kind_silent called (opened called (length said.payload) state) said.payload shown quiet reads)) then)

-- ---- a query, and an execution

query_goes : (has_attributes : Bool) (state : SessionState) (said : Said) (answer : List Said) → Leads phase.Answer (agreed_of state) answer
    → (shown : Packet) → ReadsQuery has_attributes said.payload shown → Follows (agreed_of state) (after_packet Client said.id kind.Query said.payload shown state) answer
query_goes true state said answer then shown reads =
    typed_goes _ (query_type_with.ghosts.reads_whole tt) state kind.Query said answer (λ read. then (numbered state said)) (λ refusal. then (numbered state said)) shown reads
query_goes false state said answer then shown reads =
    typed_goes _ (query_type.ghosts.reads_whole tt) state kind.Query said answer (λ read. then (numbered state said)) (λ refusal. then (numbered state said)) shown reads

execution_of_goes : (statement : Option ComStmtPrepareOk) (number : ℕ) (state : SessionState) (said : Said) (answer : List Said) → Leads phase.Answer (executed (agreed_of state) said.payload) answer
    → (shown : Packet) → IsExecutionOf statement number said.payload shown → Follows (agreed_of state) (after_packet Client said.id kind.Execute said.payload shown state) answer
execution_of_goes (Some statement) number state said answer then shown reads =
    typed_goes packet.Execute (execute_type.ghosts.reads_whole statement.num_params) state kind.Execute said answer (λ read. then (numbered state said)) (λ refusal. then (numbered state said)) shown reads
execution_of_goes None number state said answer then shown reads = rw reads (then (numbered state said))

execute_goes : (number : Option ℕ) (statements : List ComStmtPrepareOk) (state : SessionState) (said : Said) (answer : List Said) → Leads phase.Answer (executed (agreed_of state) said.payload) answer
    → (shown : Packet) → IsExecution number statements said.payload shown → Follows (agreed_of state) (after_packet Client said.id kind.Execute said.payload shown state) answer
execute_goes (Some number) statements state said answer then shown reads = execution_of_goes (statement_of number statements) number state said answer then shown reads
execute_goes None statements state said answer then shown reads = rw reads (then (numbered state said))

-- ---- a statement's answer

ended_goes : (d : Bool) (agreed : Agreed) (following : AfterColumns) (said rest : List Said) → ((status : ℕ) → ended_phase agreed.wants_cursor (phase.ColumnsEnd following) status ≡ after_definitions following)
    → AreEnded d said → Leads (after_definitions following) (with_eof d agreed) rest
    → Leads (after_columns d following) (with_eof d agreed) (said ++ rest)
ended_goes true agreed following said rest phase_is none then state =
    subst (λ (said : List Said). Follows (settled (with_eof true agreed)) (knows (after_definitions following) (with_eof true agreed) state) (said ++ rest)) (sym none) (then state)
ended_goes false agreed following said rest phase_is (one, end, only) then state =
    subst (λ (said : List Said). Follows (settled (with_eof false agreed)) (knows (phase.ColumnsEnd following) (with_eof false agreed) state) (said ++ rest)) (sym only)
    (eof_goes (λ flags. Unit {0}) agreed following (after_definitions following) one rest end (λ status any. phase_is status) then state)

columns_go : (agreed : Agreed) (following : AfterColumns) (columns : ℕ) (said rest : List Said) → ((status : ℕ) → ended_phase agreed.wants_cursor (phase.ColumnsEnd following) status ≡ after_definitions following)
    → 0 < columns → AreColumns agreed.is_eof_deprecated columns said → Leads (after_definitions following) agreed rest
    → Leads (phase.Columns columns following) agreed (said ++ rest)
columns_go agreed following columns said rest phase_is some are then state =
    subst (λ (said : List Said). Follows (settled agreed) (knows (phase.Columns columns following) agreed state) said) (sym (append_assoc are.definitions are.end rest) ∙ ap (λ (packets : List Said). packets ++ rest) (sym are.whole))
    (definitions_go agreed following columns are.definitions (are.end ++ rest) (recursion_from_All IsDefinition are.definitions are.are_definitions) are.are_all some
    (ended_goes agreed.is_eof_deprecated agreed following are.end rest phase_is are.ends then) state)

some_columns : (columns : ℕ) → 0 < columns → statement_columns columns ≡ phase.Columns columns after.Command
some_columns columns some = rw (lt-ltb 0 columns some) refl

some_parameters : (statement : ComStmtPrepareOk) → 0 < statement.num_params → prepared_phase statement ≡ phase.Columns statement.num_params (after.StatementColumns statement.num_columns)
some_parameters statement some = rw (lt-ltb 0 statement.num_params some) refl

statement_columns_go : (agreed : Agreed) (columns : ℕ) (said : List Said) → MayBeColumns agreed.is_eof_deprecated columns said
    → Leads (statement_columns columns) agreed said
statement_columns_go agreed columns said (inl (zero_is, none)) state = rw (zero_is, none) (refl, refl)
statement_columns_go agreed columns said (inr (some, are)) state =
    subst (λ (at : Phase). Follows (settled agreed) (knows at agreed state) said) (sym (some_columns columns some))
    (subst (λ (said : List Said). Follows (settled agreed) (knows (phase.Columns columns after.Command) agreed state) said) (append-nil said)
    (columns_go agreed after.Command columns said [] (λ status. refl) some are (over_here agreed) state))

statement_goes : (agreed : Agreed) (statement : ComStmtPrepareOk) (parameters columns : List Said)
    → MayBeColumns agreed.is_eof_deprecated statement.num_params parameters → MayBeColumns agreed.is_eof_deprecated statement.num_columns columns
    → Leads (prepared_phase statement) agreed (parameters ++ columns)
statement_goes agreed statement parameters columns (inl (zero_is, none)) are state =
    rw (zero_is, none) (statement_columns_go agreed statement.num_columns columns are state)
statement_goes agreed statement parameters columns (inr (some, these)) are state =
    subst (λ (at : Phase). Follows (settled agreed) (knows at agreed state) (parameters ++ columns)) (sym (some_parameters statement some))
    (columns_go agreed (after.StatementColumns statement.num_columns) statement.num_params parameters columns (λ status. refl) some these
    (statement_columns_go agreed statement.num_columns columns are) state)

prepared_goes : (agreed : Agreed) (parameters columns : ℕ) (said : Said) (of_parameters of_columns : List Said) → IsPrepared parameters columns said
    → MayBeColumns agreed.is_eof_deprecated parameters of_parameters → MayBeColumns agreed.is_eof_deprecated columns of_columns
    → Leads phase.PrepareAnswer agreed (said ∷ (of_parameters ++ of_columns))
prepared_goes agreed parameters columns said of_parameters of_columns is are_parameters are_columns state =
    goes (settled agreed) (knows phase.PrepareAnswer agreed state) said (of_parameters ++ of_columns) 0x00 kind.Prepared refl refl is.is
    (named_as (knows phase.PrepareAnswer agreed state) said 0x00 kind.Prepared is.is (no_report said.payload 0x00 is.is.first_is (λ same. omega (arith, same))))
    (λ shown reads.
    let read = read_is packet.Prepared (prepared_type.ghosts.reads_whole tt) (λ (ok : ComStmtPrepareOk). (ok.num_params ≡ parameters) × (ok.num_columns ≡ columns)) said.payload shown is.reads reads in
    subst (λ (p : Packet). Follows (settled agreed) (after_packet Server said.id kind.Prepared said.payload p (knows phase.PrepareAnswer agreed state)) (of_parameters ++ of_columns)) (sym read.2)
    (statement_goes agreed read.0 of_parameters of_columns
    (subst (λ (n : ℕ). MayBeColumns agreed.is_eof_deprecated n of_parameters) (sym read.1.0) are_parameters)
    (subst (λ (n : ℕ). MayBeColumns agreed.is_eof_deprecated n of_columns) (sym read.1.1) are_columns)
    (record (numbered state said) { types = []; statements = take 64 (read.0 ∷ state.statements) })))

prepare_answered : (agreed : Agreed) (said : List Said) → IsPrepareAnswer agreed.is_eof_deprecated said → Leads phase.PrepareAnswer agreed said
prepare_answered agreed said (inl (one, error, only)) state =
    subst (λ (said : List Said). Follows (settled agreed) (knows phase.PrepareAnswer agreed state) said) (sym only)
    (goes (settled agreed) (knows phase.PrepareAnswer agreed state) one [] 0xff kind.Error refl refl error.is
    (named_as (knows phase.PrepareAnswer agreed state) one 0xff kind.Error error.is error.is_no_report)
    (λ shown reads. of_read packet.Error (error_type.ghosts.reads_whole agreed.capabilities) one.payload shown
    (λ (p : Packet). Follows (settled agreed) (after_packet Server one.id kind.Error one.payload p (knows phase.PrepareAnswer agreed state)) []) (λ read. (refl, refl)) (λ refusal. (refl, refl)) reads))
prepare_answered agreed said (inr is) state =
    subst (λ (said : List Said). Follows (settled agreed) (knows phase.PrepareAnswer agreed state) said) (sym is.whole)
    (prepared_goes agreed is.parameters is.columns is.prepared is.of_parameters is.of_columns is.is_prepared is.are_parameters is.are_columns state)

-- ---- other commands

plain_goes : (state : SessionState) (said : Said) (answer : List Said) → state.phase ≡ phase.Command → IsPlainCommand said → Leads phase.Answer (agreed_of state) answer → FollowsExchange state (said ∷ answer)
plain_goes state said answer at (inl is) then = command_goes state 0x02 kind.InitDatabase said answer at is refl
    (λ shown reads. typed_goes _ (init_type.ghosts.reads_whole tt) state kind.InitDatabase said answer (λ read. then (numbered state said)) (λ refusal. then (numbered state said)) shown reads)
plain_goes state said answer at (inr (inl is)) then = command_goes state 0x0e kind.Ping said answer at is refl
    (λ shown reads. typed_goes _ (ping_type.ghosts.reads_whole tt) state kind.Ping said answer (λ read. then (numbered state said)) (λ refusal. then (numbered state said)) shown reads)
plain_goes state said answer at (inr (inr (inl is))) then = command_goes state 0x1a kind.ResetStatement said answer at is refl
    (λ shown reads. typed_goes packet.ResetStatement ((statement_command.ghosts (number 0x1a)).reads_whole tt) state kind.ResetStatement said answer (λ read. then (numbered state said)) (λ refusal. then (numbered state said)) shown reads)
plain_goes state said answer at (inr (inr (inr is))) then = quiet_goes state 0x1f kind.ResetConnection said answer at is refl refl (then (numbered state said))

unanswered_goes : (state : SessionState) (said : Said) → state.phase ≡ phase.Command → IsUnanswered said → FollowsExchange state (said ∷ [])
unanswered_goes state said at (inl is) = command_goes state 0x18 kind.LongData said [] at is refl
    (λ shown reads. typed_goes packet.LongData (long_data_type.ghosts.reads_whole tt) state kind.LongData said [] (λ read. (refl, refl)) (λ refusal. (refl, refl)) shown reads)
unanswered_goes state said at (inr is) = command_goes state 0x19 kind.CloseStatement said [] at is refl
    (λ shown reads. typed_goes packet.CloseStatement ((statement_command.ghosts (number 0x19)).reads_whole tt) state kind.CloseStatement said [] (λ read. (refl, refl)) (λ refusal. (refl, refl)) shown reads)

-- ---- the statistics, and the columns of a table

statistics_named : (first : ℕ) → first ≢ 0xff → statistics_kind first ≡ kind.Statistics
statistics_named first other = rw (ne_eqb first 0xff other) refl

statistics_go : (agreed : Agreed) (said : Said) → IsStatistics said → Leads phase.Statistics agreed (said ∷ [])
statistics_go agreed said is state =
    let from : IsServers is.first kind.Statistics said = record { side = is.side; first_is = is.first_is; kind_is = is.kind_is } in
    goes (settled agreed) (knows phase.Statistics agreed state) said [] is.first kind.Statistics refl refl from
    (named_as (knows phase.Statistics agreed state) said is.first kind.Statistics from (no_report said.payload is.first is.first_is is.is_no_error)
    ∙ statistics_named is.first is.is_no_error)
    (λ shown reads. of_read packet.Statistics (statistics_type.ghosts.reads_whole tt) said.payload shown
    (λ (p : Packet). Follows (settled agreed) (after_packet Server said.id kind.Statistics said.payload p (knows phase.Statistics agreed state)) []) (λ read. (refl, refl)) (λ refusal. (refl, refl)) reads)

no_statistics_go : (agreed : Agreed) (said : Said) → IsError said → Leads phase.Statistics agreed (said ∷ [])
no_statistics_go agreed said is state =
    goes (settled agreed) (knows phase.Statistics agreed state) said [] 0xff kind.Error refl refl is.is
    (named_as (knows phase.Statistics agreed state) said 0xff kind.Error is.is is.is_no_report)
    (λ shown reads. of_read packet.Error (error_type.ghosts.reads_whole agreed.capabilities) said.payload shown
    (λ (p : Packet). Follows (settled agreed) (after_packet Server said.id kind.Error said.payload p (knows phase.Statistics agreed state)) []) (λ read. (refl, refl)) (λ refusal. (refl, refl)) reads)

table_column_named : (d : Bool) (first len : ℕ) → first ≢ 0xff → first ≢ 0xfe → field_kind d first len ≡ kind.Column
table_column_named d first len a b = rw (ne_eqb first 0xff a, ne_eqb first 0xfe b) refl

table_columns_go : (agreed : Agreed) (columns rest : List Said) → AllByRecursion IsTableColumn columns
    → Leads phase.FieldList agreed rest → Leads phase.FieldList agreed (columns ++ rest)
table_columns_go agreed [] rest are then state = then state
table_columns_go agreed (column ∷ columns) rest (is, are) then state =
    goes (settled agreed) (knows phase.FieldList agreed state) column (columns ++ rest) is.first kind.Column refl refl is.is
    (named_as (knows phase.FieldList agreed state) column is.first kind.Column is.is (no_report column.payload is.first is.is.first_is is.is_no_error)
    ∙ table_column_named agreed.is_eof_deprecated is.first (length column.payload) is.is_no_error is.is_no_end)
    (λ shown reads. rw reads.2 (table_columns_go agreed columns rest are then (numbered state column)))

table_end_goes : (d : Bool) (agreed : Agreed) (said : Said) → EndsWell d agreed false said
    → Leads phase.FieldList (with_eof d agreed) (said ∷ [])
table_end_goes true agreed said is state =
    goes (settled (with_eof true agreed)) (knows phase.FieldList (with_eof true agreed) state) said [] 0xfe kind.Eof refl refl is.is
    (named_as (knows phase.FieldList (with_eof true agreed) state) said 0xfe kind.Eof is.is (no_report said.payload 0xfe is.is.first_is (λ same. omega (arith, same)))
    ∙ rw (lt-ltb (length said.payload) 0xffffff is.is_short) refl)
    (λ shown reads.
    let at_end = subst (λ (k : SessionState). ReadsAs k kind.Eof said.payload shown) (opens_here said.payload (knows phase.FieldList (with_eof true agreed) state) refl) reads in
    let done = subst (λ (b : Bool). IsEnd b agreed.capabilities said.payload shown) (by_ok (length said.payload) is.is_long) at_end in
    let read = read_is packet.RowsEnd ((ok_type.ghosts (number 0xfe)).reads_whole (ok_form agreed.capabilities)) (λ (ok : OkForm 0xfe). has ok.status_flags.0 0x8 ≡ false) said.payload shown is.reads done in
    subst (λ (p : Packet). Follows (settled (with_eof true agreed)) (after_packet Server said.id kind.Eof said.payload p (knows phase.FieldList (with_eof true agreed) state)) []) (sym read.2)
    (from_opened (settled (with_eof true agreed)) said (packet.RowsEnd read.0) (knows phase.FieldList (with_eof true agreed) state) [] refl (opens_here said.payload (knows phase.FieldList (with_eof true agreed) state) refl) (rw read.1 (refl, refl))))
table_end_goes false agreed said is state =
    goes (settled (with_eof false agreed)) (knows phase.FieldList (with_eof false agreed) state) said [] 0xfe kind.Eof refl refl is.is
    (named_as (knows phase.FieldList (with_eof false agreed) state) said 0xfe kind.Eof is.is (no_report said.payload 0xfe is.is.first_is (λ same. omega (arith, same)))
    ∙ rw is.is_short refl)
    (λ shown reads.
    let at_end = subst (λ (k : SessionState). ReadsAs k kind.Eof said.payload shown) (opens_here said.payload (knows phase.FieldList (with_eof false agreed) state) refl) reads in
    let read = read_is packet.Eof (eof_type.ghosts.reads_whole tt) (λ (eof : EofPacket). has eof.status_flags.0 0x8 ≡ false) said.payload shown is.reads at_end in
    subst (λ (p : Packet). Follows (settled (with_eof false agreed)) (after_packet Server said.id kind.Eof said.payload p (knows phase.FieldList (with_eof false agreed) state)) []) (sym read.2)
    (from_opened (settled (with_eof false agreed)) said (packet.Eof read.0) (knows phase.FieldList (with_eof false agreed) state) [] refl (opens_here said.payload (knows phase.FieldList (with_eof false agreed) state) refl) (rw read.1 (refl, refl))))

table_ends_go : (agreed : Agreed) (said : Said) → EndsRows agreed false said → Leads phase.FieldList agreed (said ∷ [])
table_ends_go agreed said (inl is) state = table_end_goes agreed.is_eof_deprecated agreed said is state
table_ends_go agreed said (inr (is, none)) state =
    goes (settled agreed) (knows phase.FieldList agreed state) said [] 0xff kind.Error refl refl is.is
    (named_as (knows phase.FieldList agreed state) said 0xff kind.Error is.is is.is_no_report)
    (λ shown reads. of_read packet.Error (error_type.ghosts.reads_whole agreed.capabilities) said.payload shown
    (λ (p : Packet). Follows (settled agreed) (after_packet Server said.id kind.Error said.payload p (knows phase.FieldList agreed state)) []) (λ read. (refl, refl)) (λ refusal. (refl, refl)) reads)

-- ---- answers with an EOF

option_ends : (d : Bool) (agreed : Agreed) (said : Said) → EndsWell d agreed false said → Leads phase.OptionAnswer (with_eof d agreed) (said ∷ [])
option_ends true agreed said is state =
    goes (settled (with_eof true agreed)) (knows phase.OptionAnswer (with_eof true agreed) state) said [] 0xfe kind.Eof refl refl is.is
    (named_as (knows phase.OptionAnswer (with_eof true agreed) state) said 0xfe kind.Eof is.is (no_report said.payload 0xfe is.is.first_is (λ same. omega (arith, same))))
    (λ shown reads.
    let at_end = subst (λ (k : SessionState). ReadsAs k kind.Eof said.payload shown) (opens_here said.payload (knows phase.OptionAnswer (with_eof true agreed) state) refl) reads in
    let done = subst (λ (b : Bool). IsEnd b agreed.capabilities said.payload shown) (by_ok (length said.payload) is.is_long) at_end in
    let read = read_is packet.RowsEnd ((ok_type.ghosts (number 0xfe)).reads_whole (ok_form agreed.capabilities)) (λ (ok : OkForm 0xfe). has ok.status_flags.0 0x8 ≡ false) said.payload shown is.reads done in
    subst (λ (p : Packet). Follows (settled (with_eof true agreed)) (after_packet Server said.id kind.Eof said.payload p (knows phase.OptionAnswer (with_eof true agreed) state)) []) (sym read.2)
    (from_opened (settled (with_eof true agreed)) said (packet.RowsEnd read.0) (knows phase.OptionAnswer (with_eof true agreed) state) [] refl (opens_here said.payload (knows phase.OptionAnswer (with_eof true agreed) state) refl) (rw read.1 (refl, refl))))
option_ends false agreed said is state =
    goes (settled (with_eof false agreed)) (knows phase.OptionAnswer (with_eof false agreed) state) said [] 0xfe kind.Eof refl refl is.is
    (named_as (knows phase.OptionAnswer (with_eof false agreed) state) said 0xfe kind.Eof is.is (no_report said.payload 0xfe is.is.first_is (λ same. omega (arith, same))))
    (λ shown reads.
    let at_end = subst (λ (k : SessionState). ReadsAs k kind.Eof said.payload shown) (opens_here said.payload (knows phase.OptionAnswer (with_eof false agreed) state) refl) reads in
    let read = read_is packet.Eof (eof_type.ghosts.reads_whole tt) (λ (eof : EofPacket). has eof.status_flags.0 0x8 ≡ false) said.payload shown is.reads at_end in
    subst (λ (p : Packet). Follows (settled (with_eof false agreed)) (after_packet Server said.id kind.Eof said.payload p (knows phase.OptionAnswer (with_eof false agreed) state)) []) (sym read.2)
    (from_opened (settled (with_eof false agreed)) said (packet.Eof read.0) (knows phase.OptionAnswer (with_eof false agreed) state) [] refl (opens_here said.payload (knows phase.OptionAnswer (with_eof false agreed) state) refl) (rw read.1 (refl, refl))))

option_answered : (agreed : Agreed) (said : Said) → IsOptionOutcome agreed said → Leads phase.OptionAnswer agreed (said ∷ [])
option_answered agreed said (inl (inl is)) state =
    goes (settled agreed) (knows phase.OptionAnswer agreed state) said [] 0x00 kind.Ok refl refl is.is
    (named_as (knows phase.OptionAnswer agreed state) said 0x00 kind.Ok is.is (no_report said.payload 0x00 is.is.first_is (λ same. omega (arith, same))))
    (λ shown reads.
    let read = read_is packet.Ok ((ok_type.ghosts (number 0x00)).reads_whole (ok_form agreed.capabilities)) (λ (ok : OkForm 0x00). has ok.status_flags.0 0x8 ≡ false) said.payload shown is.reads reads in
    rw (read.2, read.1) (refl, refl))
option_answered agreed said (inl (inr (is, none))) state =
    goes (settled agreed) (knows phase.OptionAnswer agreed state) said [] 0xff kind.Error refl refl is.is
    (named_as (knows phase.OptionAnswer agreed state) said 0xff kind.Error is.is is.is_no_report)
    (λ shown reads. of_read packet.Error (error_type.ghosts.reads_whole agreed.capabilities) said.payload shown
    (λ (p : Packet). Follows (settled agreed) (after_packet Server said.id kind.Error said.payload p (knows phase.OptionAnswer agreed state)) []) (λ read. (refl, refl)) (λ refusal. (refl, refl)) reads)
option_answered agreed said (inr is) state = option_ends agreed.is_eof_deprecated agreed said is state

option_goes : (state : SessionState) (said : Said) (answer : List Said) → state.phase ≡ phase.Command → IsOptionCommand said → Leads phase.OptionAnswer (agreed_of state) answer → FollowsExchange state (said ∷ answer)
option_goes state said answer at (inl is) then = quiet_goes state 0x1b kind.SetOption said answer at is refl refl (then (numbered state said))
option_goes state said answer at (inr (inl is)) then = quiet_goes state 0x0c kind.OtherCommand said answer at is refl refl (then (numbered state said))
option_goes state said answer at (inr (inr (inl is))) then = quiet_goes state 0x0d kind.OtherCommand said answer at is refl refl (then (numbered state said))
option_goes state said answer at (inr (inr (inr is))) then = quiet_goes state 0x15 kind.OtherCommand said answer at is refl refl (then (numbered state said))

-- ---- rows that are fetched

fetch_goes : (state : SessionState) (said : Said) (answer : List Said) → state.phase ≡ phase.Command → IsFetch state.statements said → Leads phase.Rows (with_rows true (agreed_of state)) answer → FollowsExchange state (said ∷ answer)
fetch_goes state said answer at is then = command_goes state 0x1c kind.Fetch said answer at is.is refl
    (λ shown reads.
    let read = read_is packet.Fetch (fetch_type.ghosts.reads_whole tt) (λ (fetch : ComStmtFetch). (statement : ComStmtPrepareOk) × (statement_of fetch.statement_id state.statements ≡ Some statement)) said.payload shown is.reads reads in
    rw (read.2, read.1.1) (then (record (numbered state said) { columns = read.1.0.num_columns })))

-- ---- a binary log

event_ends : (d : Bool) (agreed : Agreed) (said : Said) → EndsWell d agreed false said → Leads phase.BinaryLog (with_eof d agreed) (said ∷ [])
event_ends true agreed said is state =
    goes (settled (with_eof true agreed)) (knows phase.BinaryLog (with_eof true agreed) state) said [] 0xfe kind.Eof refl refl is.is
    (named_as (knows phase.BinaryLog (with_eof true agreed) state) said 0xfe kind.Eof is.is (no_report said.payload 0xfe is.is.first_is (λ same. omega (arith, same))))
    (λ shown reads.
    let at_end = subst (λ (k : SessionState). ReadsAs k kind.Eof said.payload shown) (opens_here said.payload (knows phase.BinaryLog (with_eof true agreed) state) refl) reads in
    let done = subst (λ (b : Bool). IsEnd b agreed.capabilities said.payload shown) (by_ok (length said.payload) is.is_long) at_end in
    let read = read_is packet.RowsEnd ((ok_type.ghosts (number 0xfe)).reads_whole (ok_form agreed.capabilities)) (λ (ok : OkForm 0xfe). has ok.status_flags.0 0x8 ≡ false) said.payload shown is.reads done in
    subst (λ (p : Packet). Follows (settled (with_eof true agreed)) (after_packet Server said.id kind.Eof said.payload p (knows phase.BinaryLog (with_eof true agreed) state)) []) (sym read.2)
    (from_opened (settled (with_eof true agreed)) said (packet.RowsEnd read.0) (knows phase.BinaryLog (with_eof true agreed) state) [] refl (opens_here said.payload (knows phase.BinaryLog (with_eof true agreed) state) refl) (rw read.1 (refl, refl))))
event_ends false agreed said is state =
    goes (settled (with_eof false agreed)) (knows phase.BinaryLog (with_eof false agreed) state) said [] 0xfe kind.Eof refl refl is.is
    (named_as (knows phase.BinaryLog (with_eof false agreed) state) said 0xfe kind.Eof is.is (no_report said.payload 0xfe is.is.first_is (λ same. omega (arith, same))))
    (λ shown reads.
    let at_end = subst (λ (k : SessionState). ReadsAs k kind.Eof said.payload shown) (opens_here said.payload (knows phase.BinaryLog (with_eof false agreed) state) refl) reads in
    let read = read_is packet.Eof (eof_type.ghosts.reads_whole tt) (λ (eof : EofPacket). has eof.status_flags.0 0x8 ≡ false) said.payload shown is.reads at_end in
    subst (λ (p : Packet). Follows (settled (with_eof false agreed)) (after_packet Server said.id kind.Eof said.payload p (knows phase.BinaryLog (with_eof false agreed) state)) []) (sym read.2)
    (from_opened (settled (with_eof false agreed)) said (packet.Eof read.0) (knows phase.BinaryLog (with_eof false agreed) state) [] refl (opens_here said.payload (knows phase.BinaryLog (with_eof false agreed) state) refl) (rw read.1 (refl, refl))))

events_end : (agreed : Agreed) (said : Said) → EndsRows agreed false said → Leads phase.BinaryLog agreed (said ∷ [])
events_end agreed said (inl is) state = event_ends agreed.is_eof_deprecated agreed said is state
events_end agreed said (inr (is, none)) state =
    goes (settled agreed) (knows phase.BinaryLog agreed state) said [] 0xff kind.Error refl refl is.is
    (named_as (knows phase.BinaryLog agreed state) said 0xff kind.Error is.is is.is_no_report)
    (λ shown reads. of_read packet.Error (error_type.ghosts.reads_whole agreed.capabilities) said.payload shown
    (λ (p : Packet). Follows (settled agreed) (after_packet Server said.id kind.Error said.payload p (knows phase.BinaryLog agreed state)) []) (λ read. (refl, refl)) (λ refusal. (refl, refl)) reads)

events_go : (agreed : Agreed) (events : List Said) (end : Said) → AllByRecursion (IsServers 0x00 kind.BinaryLogEvent) events → EndsRows agreed false end
    → Leads phase.BinaryLog agreed (events ++ end ∷ [])
events_go agreed [] end are ends state = events_end agreed end ends state
events_go agreed (event ∷ events) end (is, are) ends state =
    goes (settled agreed) (knows phase.BinaryLog agreed state) event (events ++ end ∷ []) 0x00 kind.BinaryLogEvent refl refl is
    (named_as (knows phase.BinaryLog agreed state) event 0x00 kind.BinaryLogEvent is (no_report event.payload 0x00 is.first_is (λ same. omega (arith, same))))
    (λ shown reads. rw reads.2 (events_go agreed events end are ends (numbered state event)))

-- ---- a client authenticates itself

-- it is waited for who it is, and this was agreed on
abbrev attached : Agreed → SessionState → SessionState
attached agreed state =
    record state { phase = phase.Authentication; is_eof_deprecated = agreed.is_eof_deprecated; capabilities = agreed.capabilities; mariadb = agreed.mariadb }

abbrev Attends : (SessionState → Type 0) → Agreed → List Said → Type 0
Attends ends agreed rest = (state : SessionState) → FollowsUntil ends (attached agreed state) rest

step_goes : (ends : SessionState → Type 0) (agreed : Agreed) (said : Said) (rest : List Said) → IsAuthentication said → Attends ends agreed rest → Attends ends agreed (said ∷ rest)
step_goes ends agreed said rest (inl is) then state =
    goes_until ends (attached agreed state) said rest 0xfe kind.AuthSwitch refl tt is
    (named_as (attached agreed state) said 0xfe kind.AuthSwitch is (no_report said.payload 0xfe is.first_is (λ same. omega (arith, same))))
    (λ shown reads. of_read packet.AuthSwitch (switch_type.ghosts.reads_whole tt) said.payload shown
    (λ (p : Packet). FollowsUntil ends (after_packet Server said.id kind.AuthSwitch said.payload p (attached agreed state)) rest) (λ read. then (numbered state said)) (λ refusal. then (numbered state said)) reads)
step_goes ends agreed said rest (inr (inl is)) then state =
    goes_until ends (attached agreed state) said rest 0x01 kind.AuthMoreData refl tt is
    (named_as (attached agreed state) said 0x01 kind.AuthMoreData is (no_report said.payload 0x01 is.first_is (λ same. omega (arith, same))))
    (λ shown reads. of_read packet.AuthMoreData (more_type.ghosts.reads_whole tt) said.payload shown
    (λ (p : Packet). FollowsUntil ends (after_packet Server said.id kind.AuthMoreData said.payload p (attached agreed state)) rest) (λ read. then (numbered state said)) (λ refusal. then (numbered state said)) reads)
step_goes ends agreed said rest (inr (inr (side, later, kind_is))) then state =
    client_goes_until ends (attached agreed state) said rest kind.AuthAnswer refl tt side kind_is
    (rw (ne_eqb said.id 0 later) refl)
    (λ shown reads. of_read packet.AuthAnswer (answer_type.ghosts.reads_whole tt) said.payload shown
    (λ (p : Packet). FollowsUntil ends (after_packet Client said.id kind.AuthAnswer said.payload p (attached agreed state)) rest) (λ read. then (numbered state said)) (λ refusal. then (numbered state said)) reads)

steps_go : (ends : SessionState → Type 0) (agreed : Agreed) (steps : List Said) (last : Said) → AllByRecursion IsAuthentication steps → Attends ends agreed (last ∷ []) → Attends ends agreed (steps ++ last ∷ [])
steps_go ends agreed [] last are then state = then state
steps_go ends agreed (step ∷ steps) last (is, are) then state =
    step_goes ends agreed step (steps ++ last ∷ []) is (steps_go ends agreed steps last are then) state

entry_goes : (agreed : Agreed) (said : Said) → IsEntry agreed said → Attends (IsIdle (settled agreed)) agreed (said ∷ [])
entry_goes agreed said is state =
    goes (settled agreed) (attached agreed state) said [] 0x00 kind.Ok refl tt is.is
    (named_as (attached agreed state) said 0x00 kind.Ok is.is (no_report said.payload 0x00 is.is.first_is (λ same. omega (arith, same))))
    (λ shown reads.
    let read = read_is packet.Ok ((ok_type.ghosts (number 0x00)).reads_whole (ok_form agreed.capabilities)) (λ (ok : OkForm 0x00). Unit {0}) said.payload shown is.reads reads in
    rw read.2 (refl, refl))

let_in_goes : (agreed : Agreed) (said : List Said) → IsLetIn agreed said → Attends (IsIdle (settled agreed)) agreed said
let_in_goes agreed said is state =
    subst (λ (said : List Said). Follows (settled agreed) (attached agreed state) said) (sym is.whole)
    (steps_go (IsIdle (settled agreed)) agreed is.steps is.entry (recursion_from_All IsAuthentication is.steps is.are_steps) (entry_goes agreed is.entry is.enters) state)

denial_goes : (agreed : Agreed) (said : Said) → IsError said → Attends IsClosed agreed (said ∷ [])
denial_goes agreed said is state =
    goes_until IsClosed (attached agreed state) said [] 0xff kind.Error refl tt is.is
    (named_as (attached agreed state) said 0xff kind.Error is.is is.is_no_report)
    (λ shown reads. of_read packet.Error (error_type.ghosts.reads_whole agreed.capabilities) said.payload shown
    (λ (p : Packet). FollowsUntil IsClosed (after_packet Server said.id kind.Error said.payload p (attached agreed state)) []) (λ read. (refl, refl)) (λ refusal. (refl, refl)) reads)

denied_goes : (agreed : Agreed) (said : List Said) → IsDenied said → Attends IsClosed agreed said
denied_goes agreed said is state =
    subst (λ (said : List Said). FollowsUntil IsClosed (attached agreed state) said) (sym is.whole)
    (steps_go IsClosed agreed is.steps is.denial (recursion_from_All IsAuthentication is.steps is.are_steps) (denial_goes agreed is.denial is.denies) state)

-- ---- every exchange

-- only where a command is waited for is a session idle
is_command_phase : (at : Phase) → is_idle at ≡ true → at ≡ phase.Command
is_command_phase phase.Command idle = refl
is_command_phase phase.Greeting idle = cc
is_command_phase phase.Login idle = cc
is_command_phase phase.Authentication idle = cc
is_command_phase phase.Answer idle = cc
is_command_phase phase.PrepareAnswer idle = cc
is_command_phase phase.OptionAnswer idle = cc
is_command_phase phase.Statistics idle = cc
is_command_phase phase.FieldList idle = cc
is_command_phase phase.BinaryLog idle = cc
is_command_phase (phase.Columns left following) idle = cc
is_command_phase (phase.ColumnsEnd following) idle = cc
is_command_phase phase.Rows idle = cc
is_command_phase phase.File idle = cc
is_command_phase phase.Closed idle = cc
is_command_phase phase.Encrypted idle = cc

answered : (state : SessionState) (query : Said) (answer : List Said) → state.phase ≡ phase.Command → IsAnswered (agreed_of state) state.statements query answer → FollowsExchange state (query ∷ answer)
answered state query answer at (inl (is, (results, are, whole))) =
    command_goes state 0x03 kind.Query query answer at is refl
    (query_goes (has_query_attributes state.capabilities) state query answer
    (subst (λ (answer : List Said). Leads phase.Answer (agreed_of state) answer) (sym whole) (results_go (agreed_of state) results are)))
answered state query answer at (inr (inl (is, (results, are, whole)))) =
    command_goes state 0x17 kind.Execute query answer at is refl
    (execute_goes (statement_named query.payload) state.statements state query answer
    (subst (λ (answer : List Said). Leads phase.Answer (executed (agreed_of state) query.payload) answer) (sym whole) (results_go (executed (agreed_of state) query.payload) results are)))
answered state query answer at (inr (inr (inl (is, prepared)))) =
    command_goes state 0x16 kind.Prepare query answer at is refl
    (λ shown reads. typed_goes packet.Prepare (prepare_type.ghosts.reads_whole tt) state kind.Prepare query answer
    (λ read. prepare_answered (agreed_of state) answer prepared (numbered state query)) (λ refusal. prepare_answered (agreed_of state) answer prepared (numbered state query)) shown reads)
answered state query answer at (inr (inr (inr (inl (is, (one, outcome, only)))))) =
    plain_goes state query answer at is (subst (λ (answer : List Said). Leads phase.Answer (agreed_of state) answer) (sym only) (outcome_goes (agreed_of state) false one [] outcome (over_here (agreed_of state))))
answered state query answer at (inr (inr (inr (inr (inl (is, none)))))) =
    subst (λ (answer : List Said). FollowsExchange state (query ∷ answer)) (sym none) (unanswered_goes state query at is)
answered state query answer at (inr (inr (inr (inr (inr (inl (is, inl (one, statistics, only)))))))) =
    quiet_goes state 0x09 kind.StatisticsRequest query answer at is refl refl
    (subst (λ (answer : List Said). Follows (settled (agreed_of state)) (knows phase.Statistics (agreed_of state) (numbered state query)) answer) (sym only) (statistics_go (agreed_of state) one statistics (numbered state query)))
answered state query answer at (inr (inr (inr (inr (inr (inl (is, inr (one, error, only)))))))) =
    quiet_goes state 0x09 kind.StatisticsRequest query answer at is refl refl
    (subst (λ (answer : List Said). Follows (settled (agreed_of state)) (knows phase.Statistics (agreed_of state) (numbered state query)) answer) (sym only) (no_statistics_go (agreed_of state) one error (numbered state query)))
answered state query answer at (inr (inr (inr (inr (inr (inr (inl (is, table)))))))) =
    quiet_goes state 0x04 kind.FieldList query answer at is refl refl
    (subst (λ (answer : List Said). Follows (settled (agreed_of state)) (knows phase.FieldList (agreed_of state) (numbered state query)) answer) (sym table.whole)
    (table_columns_go (agreed_of state) table.columns (table.end ∷ []) (recursion_from_All IsTableColumn table.columns table.are)
    (table_ends_go (agreed_of state) table.end table.ends) (numbered state query)))
answered state query answer at (inr (inr (inr (inr (inr (inr (inr (inl (is, (one, outcome, only)))))))))) =
    option_goes state query answer at is
    (subst (λ (answer : List Said). Leads phase.OptionAnswer (agreed_of state) answer) (sym only) (option_answered (agreed_of state) one outcome))
answered state query answer at (inr (inr (inr (inr (inr (inr (inr (inr (inl (is, fetched)))))))))) =
    fetch_goes state query answer at is
    (subst (λ (answer : List Said). Leads phase.Rows (with_rows true (agreed_of state)) answer) (sym fetched.whole)
    (rows_go (with_rows true (agreed_of state)) fetched.rows (fetched.end ∷ []) (recursion_from_All (IsRow true) fetched.rows fetched.are_rows)
    (ends_go (with_rows true (agreed_of state)) false fetched.end [] fetched.ends (over_here (with_rows true (agreed_of state))))))
answered state query answer at (inr (inr (inr (inr (inr (inr (inr (inr (inr (inl (inl is, events))))))))))) =
    quiet_goes state 0x12 kind.BinaryLogRequest query answer at is refl refl
    (subst (λ (answer : List Said). Leads phase.BinaryLog (agreed_of state) answer) (sym events.whole) (events_go (agreed_of state) events.events events.end (recursion_from_All (IsServers 0x00 kind.BinaryLogEvent) events.events events.are_events) events.ends) (numbered state query))
answered state query answer at (inr (inr (inr (inr (inr (inr (inr (inr (inr (inl (inr is, events))))))))))) =
    quiet_goes state 0x1e kind.BinaryLogRequest query answer at is refl refl
    (subst (λ (answer : List Said). Leads phase.BinaryLog (agreed_of state) answer) (sym events.whole) (events_go (agreed_of state) events.events events.end (recursion_from_All (IsServers 0x00 kind.BinaryLogEvent) events.events events.are_events) events.ends) (numbered state query))
answered state query answer at (inr (inr (inr (inr (inr (inr (inr (inr (inr (inr (is, entry))))))))))) =
    command_goes state 0x11 kind.ChangeUser query answer at is refl
    (λ shown reads. typed_goes _ (change_type.ghosts.reads_whole state.capabilities) state kind.ChangeUser query answer
    (λ read. let_in_goes (agreed_of state) answer entry (record (numbered state query) { row_form = form.Text; wants_cursor = false })) (λ refusal. let_in_goes (agreed_of state) answer entry (record (numbered state query) { row_form = form.Text; wants_cursor = false })) shown reads)

-- the same with reports
followed : (state : SessionState) (said : List Said) → state.phase ≡ phase.Command → IsExchange (agreed_of state) state.statements said → FollowsExchange state said
followed state [] at exchange = absurd exchange
followed state (query ∷ sent) at (answer, is, reported) =
    let follows = answered state query answer at is in
    (follows.0, follows.1, λ next goes. with_reports (IsIdle (agreed_of state)) (agreed_of state) next answer sent reported (follows.2 next goes))

pub each_is_followed : EachIsFollowed
each_is_followed state said idle exchange = followed state said (is_command_phase state.phase idle) exchange

-- ---- fronts

reached : (A : Agreed) (state next : SessionState) (front back : List Said) → Follows A state (front ++ back) → Reaches state front next → Follows A next back
reached A state next [] back follows is = subst (λ (k : SessionState). Follows A k back) (sym is) follows
reached A state next (said ∷ more) back follows (between, on, reaches) = reached A between next more back (follows.3 between on) reaches

busy : (A : Agreed) (state : SessionState) (said : List Said) → Follows A state said → said ≢ [] → is_idle state.phase ≡ false
busy A state [] follows some = absurd (some refl)
busy A state (one ∷ more) follows some = follows.0

over : (A : Agreed) (state : SessionState) (said : List Said) → Follows A state said → said ≡ [] → (is_idle state.phase ≡ true) × (agreed_of state ≡ A)
over A state said follows none = subst (λ (s : List Said). Follows A state s) none follows

pub idle_at_its_end : IdleAtItsEnd
idle_at_its_end state next [] back idle exchange reaches some = absurd (some refl)
idle_at_its_end state next (query ∷ front) back idle exchange (between, on, reaches) some =
    let A = agreed_of state in
    let follows = reached A between next front back ((each_is_followed state (query ∷ front ++ back) idle exchange).2 between on) reaches in
    (over A next back follows, busy A next back follows)

-- ---- a connection

-- a login is waited for, after a greeting
abbrev greeted : ℕ → SessionState
greeted id = record initial_state { phase = phase.Login; next_id = id }

login_goes : (agreed : Agreed) (id : ℕ) (login : Said) (rest : List Said) → IsLogin agreed login → IsLetIn agreed rest → Follows (settled agreed) (greeted id) (login ∷ rest)
login_goes agreed id login rest is enters =
    client_goes (settled agreed) (greeted id) login rest kind.Login refl refl is.is.side is.is.kind_is
    (rw (ne_eqb login.id 0 is.is.later, ne_eqb (length login.payload) 32 is.is.no_tls) refl)
    (λ shown reads.
    let read = read_is packet.Login (login_type.ghosts.reads_whole tt) (Agrees agreed) login.payload shown is.reads reads in
    let base : SessionState = record initial_state { next_id = id_after login.id (length login.payload) } in
    let same : attached agreed base ≡ after_packet Client login.id kind.Login login.payload (packet.Login read.0) (greeted id) =
    (ap (λ (c : CapabilityFlags). attached (record agreed { capabilities = c }) base) read.1.flags
    ∙ ap (λ (d : Bool). attached (record agreed { capabilities = record { 0 = read.0.client_flag.0 }; is_eof_deprecated = d }) base) read.1.eof
    ∙ ap (λ (m : MariadbCapabilities). attached (record agreed { capabilities = record { 0 = read.0.client_flag.0 }; is_eof_deprecated = has read.0.client_flag.0 0x1000000; mariadb = m }) base) read.1.maria) in
    subst (λ (p : Packet). Follows (settled agreed) (after_packet Client login.id kind.Login login.payload p (greeted id)) rest) (sym read.2)
    (subst (λ (k : SessionState). Follows (settled agreed) k rest) same (let_in_goes agreed rest enters base)))

greeting_goes : (ends : SessionState → Type 0) (greeting : Said) (rest : List Said) → IsServers 0x0a kind.Greeting greeting → greeting.id ≡ 0
    → ((id : ℕ) → FollowsUntil ends (greeted id) rest) → FollowsUntil ends initial_state (greeting ∷ rest)
greeting_goes ends greeting rest is begins then =
    goes_until ends initial_state greeting rest 0x0a kind.Greeting refl refl is
    (named_as initial_state greeting 0x0a kind.Greeting is (no_report greeting.payload 0x0a is.first_is (λ same. omega (arith, same)))
    ∙ rw begins refl)
    (λ shown reads. of_read packet.Greeting (greeting_type.ghosts.reads_whole tt) greeting.payload shown
    (λ (p : Packet). FollowsUntil ends (after_packet Server greeting.id kind.Greeting greeting.payload p initial_state) rest)
    (λ read. then (id_after greeting.id (length greeting.payload)))
    (λ refusal. then (id_after greeting.id (length greeting.payload))) reads)

pub connection_is_followed : ConnectionIsFollowed
connection_is_followed agreed said is =
    let same : settled agreed ≡ agreed = (ap (λ (b : Bool). record agreed { is_binary = b; wants_cursor = false }) (sym is.no_rows)
    ∙ ap (λ (b : Bool). record agreed { wants_cursor = b }) (sym is.no_cursor)) in
    subst (λ (A : Agreed). Follows A initial_state said) same
    (subst (λ (said : List Said). Follows (settled agreed) initial_state said) (sym is.whole)
    (greeting_goes (IsIdle (settled agreed)) is.greeting (is.login ∷ is.rest) is.greets is.begins
    (λ id. login_goes agreed id is.login is.rest is.logs_in is.is_let_in)))

-- ---- TLS

request_goes : (id : ℕ) (request : Said) → IsTlsRequest request → FollowsUntil IsEncrypted (greeted id) (request ∷ [])
request_goes id request is =
    client_goes_until IsEncrypted (greeted id) request [] kind.TlsRequest refl refl is.side is.kind_is
    (rw (ne_eqb request.id 0 is.later, is.is_tls) refl)
    (λ shown reads.
    let read = read_is packet.TlsRequest (tls_type.ghosts.reads_whole tt) (λ (request : SslRequest). has request.client_flag.0 0x800 ≡ true) request.payload shown is.reads reads in
    rw read.2 refl)

pub tls_is_followed : TlsIsFollowed
tls_is_followed said is =
    subst (λ (said : List Said). FollowsUntil IsEncrypted initial_state said) (sym is.whole)
    (greeting_goes IsEncrypted is.greeting (is.request ∷ []) is.greets is.begins (λ id. request_goes id is.request is.asks))

-- ---- the end of a session

denied_login_goes : (id : ℕ) (login : Said) (rest : List Said) → IsAnyLogin login → IsDenied rest → FollowsUntil IsClosed (greeted id) (login ∷ rest)
denied_login_goes id login rest is denied =
    client_goes_until IsClosed (greeted id) login rest kind.Login refl refl is.side is.kind_is
    (rw (ne_eqb login.id 0 is.later, ne_eqb (length login.payload) 32 is.no_tls) refl)
    (λ shown reads. of_read packet.Login (login_type.ghosts.reads_whole tt) login.payload shown
    (λ (p : Packet). FollowsUntil IsClosed (after_packet Client login.id kind.Login login.payload p (greeted id)) rest)
    (λ read. let after : SessionState = after_packet Client login.id kind.Login login.payload (packet.Login read) (greeted id) in
    denied_goes (agreed_of after) rest denied after)
    (λ refusal. let after : SessionState = after_packet Client login.id kind.Login login.payload (packet.Refused refusal) (greeted id) in
    denied_goes (agreed_of after) rest denied after) reads)

-- an error that is read closes a session that begins
no_greeting_goes : (said : Said) → IsNoGreeting said → FollowsUntil IsClosed initial_state (said ∷ [])
no_greeting_goes said is =
    goes_until IsClosed initial_state said [] 0xff kind.Error refl refl is.is.is
    (named_as initial_state said 0xff kind.Error is.is.is is.is.is_no_report ∙ rw is.begins refl)
    (λ shown reads.
    let read = read_is packet.Error (error_type.ghosts.reads_whole (record { 0 = 0 })) (λ error. Unit {0}) said.payload shown is.reads reads in
    rw read.2 (refl, refl))

pub refusal_is_followed : RefusalIsFollowed
refusal_is_followed said (inl (one, is, only)) =
    subst (λ (said : List Said). FollowsUntil IsClosed initial_state said) (sym only) (no_greeting_goes one is)
refusal_is_followed said (inr is) =
    subst (λ (said : List Said). FollowsUntil IsClosed initial_state said) (sym is.whole)
    (greeting_goes IsClosed is.greeting (is.login ∷ is.rest) is.greets is.begins
    (λ id. denied_login_goes id is.login is.rest is.logs_in is.is_denied))

last_goes : (state : SessionState) (said : List Said) → state.phase ≡ phase.Command → IsLastExchange said → FollowsCommandUntil IsClosed state said
last_goes state [] at last = absurd last
last_goes state (quit ∷ answer) at (inl (is, none)) =
    subst (λ (answer : List Said). FollowsCommandUntil IsClosed state (quit ∷ answer)) (sym none)
    (command_goes_until IsClosed state 0x01 kind.Quit quit [] at is refl
    (λ shown reads. of_read _ (quit_type.ghosts.reads_whole tt) quit.payload shown
    (λ (p : Packet). FollowsUntil IsClosed (after_packet Client quit.id kind.Quit quit.payload p state) []) (λ read. (refl, refl)) (λ refusal. (refl, refl)) reads))
last_goes state (change ∷ answer) at (inr (is, denied)) =
    command_goes_until IsClosed state 0x11 kind.ChangeUser change answer at is refl
    (λ shown reads. of_read _ (change_type.ghosts.reads_whole state.capabilities) change.payload shown
    (λ (p : Packet). FollowsUntil IsClosed (after_packet Client change.id kind.ChangeUser change.payload p state) answer)
    (λ read. denied_goes (agreed_of state) answer denied (record (numbered state change) { row_form = form.Text; wants_cursor = false }))
    (λ refusal. denied_goes (agreed_of state) answer denied (record (numbered state change) { row_form = form.Text; wants_cursor = false })) reads)

pub last_is_followed : LastIsFollowed
last_is_followed state said idle last = last_goes state said (is_command_phase state.phase idle) last

-- ---- a session

each_goes : (state : SessionState) (exchanges : List (List Said)) → is_idle state.phase ≡ true → AreExchanges state exchanges → FollowsEach state exchanges
each_goes state [] idle are = idle
each_goes state ([] ∷ more) idle (is, on) = absurd is
each_goes state ((query ∷ answer) ∷ more) idle (is, on) = (
  idle,
  each_is_followed state (query ∷ answer) idle is,
  λ next reaches. each_goes next more
      ((idle_at_its_end state next (query ∷ answer) [] idle
      (subst (λ (said : List Said). IsExchange (agreed_of state) state.statements said) (sym (append-nil (query ∷ answer))) is) reaches (λ same. cc)).0 refl).0
      (on next reaches),
)

pub session_is_followed : SessionIsFollowed
session_is_followed agreed connection exchanges is are =
    let follows = connection_is_followed agreed connection is in (
      follows,
      λ state reaches. each_goes state exchanges
          (over agreed state [] (reached agreed initial_state state connection []
          (subst (λ (said : List Said). Follows agreed initial_state said) (sym (append-nil connection)) follows) reaches) refl).0
          (are state reaches),
    )

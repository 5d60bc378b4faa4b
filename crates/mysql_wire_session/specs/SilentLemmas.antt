-- A packet that says no more than its kind.
use denote.Param.{number}
use Rattle.std.proofs.Common.{◌≡◌, ◌∙◌, ℕ, inl, inr, Bool, true, false, List, length, refl, ap, sym, subst, Option, Some, None, Result, Ok}
use Rattle.mysql_wire_parts.specs.Optional.{has_query_attributes}
use Rattle.mysql_wire_parts.specs.declared.places.PayloadError.{PayloadError}
use Rattle.mysql_wire_session.specs.Advance.{applied, asked, id_after, opened, remembered, state_after}
use Rattle.mysql_wire_session.specs.Fronts.{are_columns, says_more}
use Rattle.mysql_wire_session.specs.Readings.{IsColumn, IsExecution, IsExecutionOf, IsQuery, IsRead, LogRequestGives, OtherCommandGives, ReadsAs, after_kind, after_packet, is_numbered}
use Rattle.mysql_wire_session.specs.State.{SessionState, statement_of}
use Rattle.mysql_wire_connection.specs.contracts.payload.HandshakeV10Payload.TheImpl as greeting_type
use Rattle.mysql_wire_connection.specs.contracts.payload.AuthSwitchRequestPayload.TheImpl as switch_type
use Rattle.mysql_wire_connection.specs.contracts.payload.AuthMoreDataPayload.TheImpl as more_type
use Rattle.mysql_wire_connection.specs.contracts.payload.AuthSwitchResponsePayload.TheImpl as answer_type
use Rattle.mysql_wire_packets.specs.contracts.payload.ProgressReportPayload.TheImpl as progress_type
use Rattle.mysql_wire_utility.specs.contracts.payload.ComInitDbPayload.TheImpl as init_type
use Rattle.mysql_wire_utility.specs.contracts.payload.ComPingPayload.TheImpl as ping_type
use Rattle.mysql_wire_utility.specs.contracts.payload.ComQuitPayload.TheImpl as quit_type
use Rattle.mysql_wire_statements.specs.contracts.payload.ComStmtPreparePayload.TheImpl as prepare_type
use Rattle.mysql_wire_statements.specs.contracts.payload.ComStmtSendLongDataPayload.TheImpl as long_data_type
use Rattle.mysql_wire_statements.specs.contracts.payload.StatementCommandPayload.TheImpl as statement_command
use Rattle.mysql_wire_utility.specs.contracts.payload.ComChangeUserPayload.TheImpl as change_type
use Rattle.mysql_wire_queries.specs.contracts.payload.ComQueryPayload.TheImpl as query_type
use Rattle.mysql_wire_queries.specs.contracts.payload.ComQueryWithAttributesPayload.TheImpl as query_type_with
use Rattle.mysql_wire_statements.specs.contracts.payload.ComStmtExecutePayload.TheImpl as execute_type
use Rattle.mysql_wire_utility.specs.contracts.payload.ComBinlogDumpPayload.TheImpl as dump_type
use Rattle.mysql_wire_utility.specs.contracts.payload.ComBinlogDumpGtidPayload.TheImpl as dump_gtid_type
use Rattle.mysql_wire_utility.specs.contracts.payload.ComDebugPayload.TheImpl as debug_type
use Rattle.mysql_wire_utility.specs.contracts.payload.ComFieldListPayload.TheImpl as field_list_type
use Rattle.mysql_wire_utility.specs.contracts.payload.ComProcessKillPayload.TheImpl as kill_type
use Rattle.mysql_wire_utility.specs.contracts.payload.ComRegisterSlavePayload.TheImpl as replica_type
use Rattle.mysql_wire_utility.specs.contracts.payload.ComResetConnectionPayload.TheImpl as reset_connection_type
use Rattle.mysql_wire_utility.specs.contracts.payload.ComSetOptionPayload.TheImpl as set_option_type
use Rattle.mysql_wire_utility.specs.contracts.payload.ComStatisticsPayload.TheImpl as statistics_type
use Rattle.mysql_wire_utility.specs.contracts.payload.StatisticsTextPayload.TheImpl as text_type
use Rattle.mysql_wire_session.specs.declared.packet.Packet.{Packet}
use Rattle.mysql_wire_session.specs.declared.packet.Packet.TheVariants as packet
use Rattle.mysql_wire_session.specs.declared.packet_kind.PacketKind.{PacketKind}
use Rattle.mysql_wire_session.specs.declared.packet_kind.PacketKind.TheVariants as kind
use Rattle.mysql_wire_session.specs.declared.phase.Phase.{Phase}
use Rattle.mysql_wire_session.specs.declared.phase.Phase.TheVariants as phase
use Rattle.mysql_wire_session.specs.declared.side.Side.{Side}
use Rattle.mysql_wire_statements.specs.declared.com_stmt_prepare_ok.ComStmtPrepareOk.{ComStmtPrepareOk}

-- what is read says nothing of what is known
abbrev pub Silent : Packet → Type 0
Silent shown = (state : SessionState) → (remembered shown state ≡ state) × (applied shown state ≡ state)

-- whether a cursor is asked for, and the id that follows
pub asked_before_id : (called : PacketKind) (payload : List ℕ) (id : ℕ) (state : SessionState)
    → asked called payload (record state { next_id = id }) ≡ record (asked called payload state) { next_id = id }
asked_before_id kind.Greeting payload id state = refl
asked_before_id kind.TlsRequest payload id state = refl
asked_before_id kind.Login payload id state = refl
asked_before_id kind.AuthSwitch payload id state = refl
asked_before_id kind.AuthMoreData payload id state = refl
asked_before_id kind.AuthAnswer payload id state = refl
asked_before_id kind.Ok payload id state = refl
asked_before_id kind.Error payload id state = refl
asked_before_id kind.Progress payload id state = refl
asked_before_id kind.Eof payload id state = refl
asked_before_id kind.ColumnCount payload id state = refl
asked_before_id kind.Column payload id state = refl
asked_before_id kind.Row payload id state = refl
asked_before_id kind.BinaryRow payload id state = refl
asked_before_id kind.LocalInfile payload id state = refl
asked_before_id kind.File payload id state = refl
asked_before_id kind.Prepared payload id state = refl
asked_before_id kind.Statistics payload id state = refl
asked_before_id kind.BinaryLogEvent payload id state = refl
asked_before_id kind.Query payload id state = refl
asked_before_id kind.InitDatabase payload id state = refl
asked_before_id kind.Ping payload id state = refl
asked_before_id kind.Quit payload id state = refl
asked_before_id kind.ChangeUser payload id state = refl
asked_before_id kind.Prepare payload id state = refl
asked_before_id kind.Execute payload id state = refl
asked_before_id kind.LongData payload id state = refl
asked_before_id kind.CloseStatement payload id state = refl
asked_before_id kind.ResetStatement payload id state = refl
asked_before_id kind.Fetch payload id state = refl
asked_before_id kind.FieldList payload id state = refl
asked_before_id kind.SetOption payload id state = refl
asked_before_id kind.StatisticsRequest payload id state = refl
asked_before_id kind.ResetConnection payload id state = refl
asked_before_id kind.BinaryLogRequest payload id state = refl
asked_before_id kind.OtherCommand payload id state = refl
asked_before_id kind.TooLarge payload id state = refl
asked_before_id (kind.Refused refusal) payload id state = refl

-- a kind that says no more asks for no cursor
asked_nothing : (called : PacketKind) (payload : List ℕ) (state : SessionState) (at : Phase) → says_more called at ≡ false → asked called payload state ≡ state
asked_nothing kind.Greeting payload state at none = refl
asked_nothing kind.TlsRequest payload state at none = refl
asked_nothing kind.Login payload state at none = refl
asked_nothing kind.AuthSwitch payload state at none = refl
asked_nothing kind.AuthMoreData payload state at none = refl
asked_nothing kind.AuthAnswer payload state at none = refl
asked_nothing kind.Ok payload state at none = refl
asked_nothing kind.Error payload state at none = refl
asked_nothing kind.Progress payload state at none = refl
asked_nothing kind.Eof payload state at none = refl
asked_nothing kind.ColumnCount payload state at none = refl
asked_nothing kind.Column payload state at none = refl
asked_nothing kind.Row payload state at none = refl
asked_nothing kind.BinaryRow payload state at none = refl
asked_nothing kind.LocalInfile payload state at none = refl
asked_nothing kind.File payload state at none = refl
asked_nothing kind.Prepared payload state at none = refl
asked_nothing kind.Statistics payload state at none = refl
asked_nothing kind.BinaryLogEvent payload state at none = refl
asked_nothing kind.Query payload state at none = refl
asked_nothing kind.InitDatabase payload state at none = refl
asked_nothing kind.Ping payload state at none = refl
asked_nothing kind.Quit payload state at none = refl
asked_nothing kind.ChangeUser payload state at none = refl
asked_nothing kind.Prepare payload state at none = refl
asked_nothing kind.Execute payload state at none = absurd cc
asked_nothing kind.LongData payload state at none = refl
asked_nothing kind.CloseStatement payload state at none = refl
asked_nothing kind.ResetStatement payload state at none = refl
asked_nothing kind.Fetch payload state at none = refl
asked_nothing kind.FieldList payload state at none = refl
asked_nothing kind.SetOption payload state at none = refl
asked_nothing kind.StatisticsRequest payload state at none = refl
asked_nothing kind.ResetConnection payload state at none = refl
asked_nothing kind.BinaryLogRequest payload state at none = refl
asked_nothing kind.OtherCommand payload state at none = refl
asked_nothing kind.TooLarge payload state at none = refl
asked_nothing (kind.Refused refusal) payload state at none = refl

-- what is known after it, but for whether a cursor is asked for
pub silent_but_for_a_cursor : (side : Side) (id : ℕ) (called : PacketKind) (payload : List ℕ) (shown : Packet) (state : SessionState) → Silent shown
    → asked called payload (after_kind side id called (length payload) state) ≡ after_packet side id called payload shown state
silent_but_for_a_cursor side id called payload shown state quiet =
    let len = length payload in
    asked_before_id called payload (id_after id len) (state_after side called len (opened called len state))
    ∙ ap (λ (k : SessionState). record (asked called payload (state_after side called len (opened called len k))) { next_id = id_after id len }) (sym (quiet state).0)
    ∙ ap (λ (k : SessionState). record k { next_id = id_after id len }) (sym (quiet (asked called payload (state_after side called len (opened called len (remembered shown state))))).1)

pub silent : (side : Side) (id : ℕ) (called : PacketKind) (payload : List ℕ) (shown : Packet) (state : SessionState) (at : Phase) → says_more called at ≡ false → Silent shown
    → after_kind side id called (length payload) state ≡ after_packet side id called payload shown state
silent side id called payload shown state at none quiet =
    sym (asked_nothing called payload (after_kind side id called (length payload) state) at none)
    ∙ silent_but_for_a_cursor side id called payload shown state quiet

of_type : {X : Type 0} (variant : X → Packet) (reads : List ℕ → Result X PayloadError → Type 0) (payload : List ℕ) (shown : Packet)
    → ((read : X) → Silent (variant read)) → IsRead variant reads payload shown → Silent shown
of_type variant reads payload shown quiet (inl (read, is, shown_is)) = subst (λ (p : Packet). Silent p) (sym shown_is) (quiet read)
of_type variant reads payload shown quiet (inr (error, refusal, is, refuses, shown_is)) = subst (λ (p : Packet). Silent p) (sym shown_is) (λ state. (refl, refl))

query_silent : (has_attributes : Bool) (payload : List ℕ) (shown : Packet) → IsQuery has_attributes payload shown → Silent shown
query_silent true payload shown is =
    of_type _ (query_type_with.ghosts.reads_whole tt) payload shown (λ read state. (refl, refl)) is
query_silent false payload shown is =
    of_type _ (query_type.ghosts.reads_whole tt) payload shown (λ read state. (refl, refl)) is

execution_silent : (statement : Option ComStmtPrepareOk) (number : ℕ) (payload : List ℕ) (shown : Packet) → IsExecutionOf statement number payload shown → Silent shown
execution_silent (Some statement) number payload shown is = of_type packet.Execute (execute_type.ghosts.reads_whole statement.num_params) payload shown (λ read state. (refl, refl)) is
execution_silent None number payload shown is = subst (λ (p : Packet). Silent p) (sym is) (λ state. (refl, refl))

pub execute_silent : (number : Option ℕ) (statements : List ComStmtPrepareOk) (payload : List ℕ) (shown : Packet) → IsExecution number statements payload shown → Silent shown
execute_silent (Some number) statements payload shown is = execution_silent (statement_of number statements) number payload shown is
execute_silent None statements payload shown is = subst (λ (p : Packet). Silent p) (sym is) (λ state. (refl, refl))

column_silent : (at : Phase) (state : SessionState) (payload : List ℕ) (shown : Packet) → are_columns at ≡ false → IsColumn at state.mariadb payload shown → Silent shown
column_silent phase.Greeting state payload shown none is = subst (λ (p : Packet). Silent p) (sym is.2) (λ state. (refl, refl))
column_silent phase.Login state payload shown none is = subst (λ (p : Packet). Silent p) (sym is.2) (λ state. (refl, refl))
column_silent phase.Authentication state payload shown none is = subst (λ (p : Packet). Silent p) (sym is.2) (λ state. (refl, refl))
column_silent phase.Command state payload shown none is = subst (λ (p : Packet). Silent p) (sym is.2) (λ state. (refl, refl))
column_silent phase.Answer state payload shown none is = subst (λ (p : Packet). Silent p) (sym is.2) (λ state. (refl, refl))
column_silent phase.PrepareAnswer state payload shown none is = subst (λ (p : Packet). Silent p) (sym is.2) (λ state. (refl, refl))
column_silent phase.OptionAnswer state payload shown none is = subst (λ (p : Packet). Silent p) (sym is.2) (λ state. (refl, refl))
column_silent phase.Statistics state payload shown none is = subst (λ (p : Packet). Silent p) (sym is.2) (λ state. (refl, refl))
column_silent phase.FieldList state payload shown none is = subst (λ (p : Packet). Silent p) (sym is.2) (λ state. (refl, refl))
column_silent phase.BinaryLog state payload shown none is = subst (λ (p : Packet). Silent p) (sym is.2) (λ state. (refl, refl))
column_silent (phase.Columns left following) state payload shown none is = absurd cc
column_silent (phase.ColumnsEnd following) state payload shown none is = subst (λ (p : Packet). Silent p) (sym is.2) (λ state. (refl, refl))
column_silent phase.Rows state payload shown none is = subst (λ (p : Packet). Silent p) (sym is.2) (λ state. (refl, refl))
column_silent phase.File state payload shown none is = subst (λ (p : Packet). Silent p) (sym is.2) (λ state. (refl, refl))
column_silent phase.Closed state payload shown none is = subst (λ (p : Packet). Silent p) (sym is.2) (λ state. (refl, refl))
column_silent phase.Encrypted state payload shown none is = subst (λ (p : Packet). Silent p) (sym is.2) (λ state. (refl, refl))

log_request_silent : (by_transactions : Bool) (payload : List ℕ) (shown : Packet) → LogRequestGives by_transactions payload (Ok shown) → Silent shown
log_request_silent true payload shown is =
    of_type _ (dump_gtid_type.ghosts.reads_whole tt) payload shown (λ read state. (refl, refl)) is
log_request_silent false payload shown is =
    of_type _ (dump_type.ghosts.reads_whole tt) payload shown (λ read state. (refl, refl)) is

other_silent : (is_kill is_debug is_replica : Bool) (payload : List ℕ) (shown : Packet) → OtherCommandGives is_kill is_debug is_replica payload (Ok shown) → Silent shown
other_silent true is_debug is_replica payload shown is =
    of_type _ (kill_type.ghosts.reads_whole tt) payload shown (λ read state. (refl, refl)) is
other_silent false true is_replica payload shown is =
    of_type _ (debug_type.ghosts.reads_whole tt) payload shown (λ read state. (refl, refl)) is
other_silent false false true payload shown is =
    of_type _ (replica_type.ghosts.reads_whole tt) payload shown (λ read state. (refl, refl)) is
other_silent false false false payload shown is = subst (λ (p : Packet). Silent p) (sym is.2) (λ state. (refl, refl))

-- what a kind that says no more is read as
pub kind_silent : (called : PacketKind) (state : SessionState) (payload : List ℕ) (shown : Packet) → says_more called state.phase ≡ false
    → ReadsAs state called payload shown → Silent shown
kind_silent kind.Greeting state payload shown none is =
    of_type _ (greeting_type.ghosts.reads_whole tt) payload shown (λ read state. (refl, refl)) is
kind_silent kind.TlsRequest state payload shown none is = absurd cc
kind_silent kind.Login state payload shown none is = absurd cc
kind_silent kind.AuthSwitch state payload shown none is =
    of_type _ (switch_type.ghosts.reads_whole tt) payload shown (λ read state. (refl, refl)) is
kind_silent kind.AuthMoreData state payload shown none is =
    of_type _ (more_type.ghosts.reads_whole tt) payload shown (λ read state. (refl, refl)) is
kind_silent kind.AuthAnswer state payload shown none is =
    of_type _ (answer_type.ghosts.reads_whole tt) payload shown (λ read state. (refl, refl)) is
kind_silent kind.Ok state payload shown none is = absurd cc
kind_silent kind.Error state payload shown none is = absurd cc
kind_silent kind.Progress state payload shown none is =
    of_type _ (progress_type.ghosts.reads_whole tt) payload shown (λ read state. (refl, refl)) is
kind_silent kind.Eof state payload shown none is = absurd cc
kind_silent kind.ColumnCount state payload shown none is = absurd cc
kind_silent kind.Column state payload shown none is = column_silent state.phase state payload shown none is
kind_silent kind.Row state payload shown none is = subst (λ (p : Packet). Silent p) (sym is.2) (λ state. (refl, refl))
kind_silent kind.BinaryRow state payload shown none is = subst (λ (p : Packet). Silent p) (sym is.2) (λ state. (refl, refl))
kind_silent kind.LocalInfile state payload shown none is = absurd cc
kind_silent kind.File state payload shown none is = subst (λ (p : Packet). Silent p) (sym is.2) (λ state. (refl, refl))
kind_silent kind.Prepared state payload shown none is = absurd cc
kind_silent kind.Statistics state payload shown none is =
    of_type _ (text_type.ghosts.reads_whole tt) payload shown (λ read state. (refl, refl)) is
kind_silent kind.BinaryLogEvent state payload shown none is = subst (λ (p : Packet). Silent p) (sym is.2) (λ state. (refl, refl))
kind_silent kind.Query state payload shown none is = query_silent (has_query_attributes state.capabilities) payload shown is
kind_silent kind.InitDatabase state payload shown none is =
    of_type _ (init_type.ghosts.reads_whole tt) payload shown (λ read state. (refl, refl)) is
kind_silent kind.Ping state payload shown none is =
    of_type _ (ping_type.ghosts.reads_whole tt) payload shown (λ read state. (refl, refl)) is
kind_silent kind.Quit state payload shown none is =
    of_type _ (quit_type.ghosts.reads_whole tt) payload shown (λ read state. (refl, refl)) is
kind_silent kind.ChangeUser state payload shown none is =
    of_type _ (change_type.ghosts.reads_whole state.capabilities) payload shown (λ read state. (refl, refl)) is
kind_silent kind.Prepare state payload shown none is =
    of_type _ (prepare_type.ghosts.reads_whole tt) payload shown (λ read state. (refl, refl)) is
kind_silent kind.Execute state payload shown none is = absurd cc
kind_silent kind.LongData state payload shown none is =
    of_type _ (long_data_type.ghosts.reads_whole tt) payload shown (λ read state. (refl, refl)) is
kind_silent kind.CloseStatement state payload shown none is =
    of_type _ ((statement_command.ghosts (number 0x19)).reads_whole tt) payload shown (λ read state. (refl, refl)) is
kind_silent kind.ResetStatement state payload shown none is =
    of_type _ ((statement_command.ghosts (number 0x1a)).reads_whole tt) payload shown (λ read state. (refl, refl)) is
kind_silent kind.Fetch state payload shown none is = absurd cc
kind_silent kind.FieldList state payload shown none is =
    of_type _ (field_list_type.ghosts.reads_whole tt) payload shown (λ read state. (refl, refl)) is
kind_silent kind.SetOption state payload shown none is =
    of_type _ (set_option_type.ghosts.reads_whole tt) payload shown (λ read state. (refl, refl)) is
kind_silent kind.StatisticsRequest state payload shown none is =
    of_type _ (statistics_type.ghosts.reads_whole tt) payload shown (λ read state. (refl, refl)) is
kind_silent kind.ResetConnection state payload shown none is =
    of_type _ (reset_connection_type.ghosts.reads_whole tt) payload shown (λ read state. (refl, refl)) is
kind_silent kind.BinaryLogRequest state payload shown none is = log_request_silent (is_numbered 0x1e payload) payload shown is
kind_silent kind.OtherCommand state payload shown none is =
    other_silent (is_numbered 0x0c payload) (is_numbered 0x0d payload) (is_numbered 0x15 payload) payload shown is
kind_silent kind.TooLarge state payload shown none is = subst (λ (p : Packet). Silent p) (sym is) (λ state. (refl, refl))
kind_silent (kind.Refused refusal) state payload shown none is = subst (λ (p : Packet). Silent p) (sym is) (λ state. (refl, refl))

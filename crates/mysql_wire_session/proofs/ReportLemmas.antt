-- That reports change nothing but the id that follows.
use Rattle.std.proofs.Common.{◌≡◌, ℕ, inl, inr, Bool, true, false, List, [], ◌∷◌, ◌++◌, ◌∙◌, ◌==◌, cond, length, refl, ap, sym, subst, Option, Some, None}
use Rattle.std.specs.List.{AllByRecursion}
use Rattle.std.proofs.lemmas.List.Elements.{recursion_from_All}
use Rattle.mysql_wire_session.specs.Advance.{applied, asked, fetched, id_after, opened, remembered, without_eof}
use Rattle.mysql_wire_session.specs.Phases.{server_phase}
use Rattle.mysql_wire_session.specs.Grammar.{Advances, Agreed, FollowsUntil, IsReport, MayReport, MaySend, Said, WithReports, called_at}
use Rattle.mysql_wire_session.specs.Kinds.{any_server_kind, first_byte, is_report}
use Rattle.mysql_wire_session.specs.Readings.{ReadsAs, after_packet, kind_of}
use Rattle.mysql_wire_session.specs.Senders.{next_sender}
use Rattle.mysql_wire_session.specs.SilentLemmas.{asked_before_id}
use Rattle.mysql_wire_session.specs.State.{SessionState, expectation_of, statement_of}
use Rattle.mysql_wire_session.specs.declared.classify.Expectation.{Expectation}
use Rattle.mysql_wire_session.specs.declared.packet.Packet.{Packet}
use Rattle.mysql_wire_session.specs.declared.packet.Packet.TheVariants as packet
use Rattle.mysql_wire_session.specs.declared.packet_kind.PacketKind.{PacketKind}
use Rattle.mysql_wire_session.specs.declared.packet_kind.PacketKind.TheVariants as kind
use Rattle.mysql_wire_session.specs.declared.phase.Phase.{Phase}
use Rattle.mysql_wire_session.specs.declared.phase.Phase.TheVariants as phase
use Rattle.mysql_wire_session.specs.declared.side.Side.{Side}
use Rattle.mysql_wire_session.specs.declared.side.Side.TheVariants.{Client, Server}
use Rattle.mysql_wire_statements.specs.declared.com_stmt_prepare_ok.ComStmtPrepareOk.{ComStmtPrepareOk}

-- ---- another id follows

-- the same, but that this id follows
abbrev before : ℕ → SessionState → SessionState
before id state = record state { next_id = id }

without_eof_before : (at : Phase) (id : ℕ) (state : SessionState) → without_eof at (before id state) ≡ before id (without_eof at state)
without_eof_before phase.Greeting id state = refl
without_eof_before phase.Login id state = refl
without_eof_before phase.Authentication id state = refl
without_eof_before phase.Command id state = refl
without_eof_before phase.Answer id state = refl
without_eof_before phase.PrepareAnswer id state = refl
without_eof_before phase.OptionAnswer id state = refl
without_eof_before phase.Statistics id state = refl
without_eof_before phase.FieldList id state = refl
without_eof_before phase.BinaryLog id state = refl
without_eof_before (phase.Columns left following) id state = refl
without_eof_before (phase.ColumnsEnd following) id state = refl
without_eof_before phase.Rows id state = refl
without_eof_before phase.File id state = refl
without_eof_before phase.Closed id state = refl
without_eof_before phase.Encrypted id state = refl

eof_opened_before : (five : Bool) (at : Phase) (id : ℕ) (state : SessionState)
    → cond five (before id state) (without_eof at (before id state)) ≡ before id (cond five state (without_eof at state))
eof_opened_before true at id state = refl
eof_opened_before false at id state = without_eof_before at id state

opened_before : (called : PacketKind) (len id : ℕ) (state : SessionState) → opened called len (before id state) ≡ before id (opened called len state)
opened_before kind.Greeting len id state = refl
opened_before kind.TlsRequest len id state = refl
opened_before kind.Login len id state = refl
opened_before kind.AuthSwitch len id state = refl
opened_before kind.AuthMoreData len id state = refl
opened_before kind.AuthAnswer len id state = refl
opened_before kind.Ok len id state = refl
opened_before kind.Error len id state = refl
opened_before kind.Progress len id state = refl
opened_before kind.Eof len id state = eof_opened_before (len == 5) state.phase id state
opened_before kind.ColumnCount len id state = refl
opened_before kind.Column len id state = without_eof_before state.phase id state
opened_before kind.Row len id state = without_eof_before state.phase id state
opened_before kind.BinaryRow len id state = without_eof_before state.phase id state
opened_before kind.LocalInfile len id state = refl
opened_before kind.File len id state = refl
opened_before kind.Prepared len id state = refl
opened_before kind.Statistics len id state = refl
opened_before kind.BinaryLogEvent len id state = refl
opened_before kind.Query len id state = refl
opened_before kind.InitDatabase len id state = refl
opened_before kind.Ping len id state = refl
opened_before kind.Quit len id state = refl
opened_before kind.ChangeUser len id state = refl
opened_before kind.Prepare len id state = refl
opened_before kind.Execute len id state = refl
opened_before kind.LongData len id state = refl
opened_before kind.CloseStatement len id state = refl
opened_before kind.ResetStatement len id state = refl
opened_before kind.Fetch len id state = refl
opened_before kind.FieldList len id state = refl
opened_before kind.SetOption len id state = refl
opened_before kind.StatisticsRequest len id state = refl
opened_before kind.ResetConnection len id state = refl
opened_before kind.BinaryLogRequest len id state = refl
opened_before kind.OtherCommand len id state = refl
opened_before kind.TooLarge len id state = refl
opened_before (kind.Refused refusal) len id state = refl

-- nothing that is read hangs on it
reads_before : (called : PacketKind) (id : ℕ) (state : SessionState) (payload : List ℕ) (shown : Packet) → ReadsAs (before id state) called payload shown → ReadsAs state called payload shown
reads_before kind.Greeting id state payload shown reads = reads
reads_before kind.TlsRequest id state payload shown reads = reads
reads_before kind.Login id state payload shown reads = reads
reads_before kind.AuthSwitch id state payload shown reads = reads
reads_before kind.AuthMoreData id state payload shown reads = reads
reads_before kind.AuthAnswer id state payload shown reads = reads
reads_before kind.Ok id state payload shown reads = reads
reads_before kind.Error id state payload shown reads = reads
reads_before kind.Progress id state payload shown reads = reads
reads_before kind.Eof id state payload shown reads = reads
reads_before kind.ColumnCount id state payload shown reads = reads
reads_before kind.Column id state payload shown reads = reads
reads_before kind.Row id state payload shown reads = reads
reads_before kind.BinaryRow id state payload shown reads = reads
reads_before kind.LocalInfile id state payload shown reads = reads
reads_before kind.File id state payload shown reads = reads
reads_before kind.Prepared id state payload shown reads = reads
reads_before kind.Statistics id state payload shown reads = reads
reads_before kind.BinaryLogEvent id state payload shown reads = reads
reads_before kind.Query id state payload shown reads = reads
reads_before kind.InitDatabase id state payload shown reads = reads
reads_before kind.Ping id state payload shown reads = reads
reads_before kind.Quit id state payload shown reads = reads
reads_before kind.ChangeUser id state payload shown reads = reads
reads_before kind.Prepare id state payload shown reads = reads
reads_before kind.Execute id state payload shown reads = reads
reads_before kind.LongData id state payload shown reads = reads
reads_before kind.CloseStatement id state payload shown reads = reads
reads_before kind.ResetStatement id state payload shown reads = reads
reads_before kind.Fetch id state payload shown reads = reads
reads_before kind.FieldList id state payload shown reads = reads
reads_before kind.SetOption id state payload shown reads = reads
reads_before kind.StatisticsRequest id state payload shown reads = reads
reads_before kind.ResetConnection id state payload shown reads = reads
reads_before kind.BinaryLogRequest id state payload shown reads = reads
reads_before kind.OtherCommand id state payload shown reads = reads
reads_before kind.TooLarge id state payload shown reads = reads
reads_before (kind.Refused refusal) id state payload shown reads = reads

fetched_before : (statement : Option ComStmtPrepareOk) (id : ℕ) (state : SessionState) → fetched statement (before id state) ≡ before id (fetched statement state)
fetched_before (Some statement) id state = refl
fetched_before None id state = refl

remembered_before : (shown : Packet) (id : ℕ) (state : SessionState) → remembered shown (before id state) ≡ before id (remembered shown state)
remembered_before (packet.Greeting it) id state = refl
remembered_before (packet.TlsRequest it) id state = refl
remembered_before (packet.Login it) id state = refl
remembered_before (packet.AuthSwitch it) id state = refl
remembered_before (packet.AuthMoreData it) id state = refl
remembered_before (packet.AuthAnswer it) id state = refl
remembered_before (packet.Ok it) id state = refl
remembered_before (packet.RowsEnd it) id state = refl
remembered_before (packet.Error it) id state = refl
remembered_before (packet.Progress it) id state = refl
remembered_before (packet.Eof it) id state = refl
remembered_before (packet.ColumnCount it) id state = refl
remembered_before (packet.Column it) id state = refl
remembered_before (packet.TableColumn it) id state = refl
remembered_before (packet.Row it) id state = refl
remembered_before (packet.LocalInfile it) id state = refl
remembered_before (packet.File it) id state = refl
remembered_before (packet.Prepared it) id state = refl
remembered_before (packet.Statistics it) id state = refl
remembered_before (packet.BinaryLogEvent it) id state = refl
remembered_before (packet.Command it) id state = refl
remembered_before (packet.Prepare it) id state = refl
remembered_before (packet.Execute it) id state = refl
remembered_before (packet.ExecuteUnknown it) id state = refl
remembered_before (packet.LongData it) id state = refl
remembered_before (packet.CloseStatement it) id state = refl
remembered_before (packet.ResetStatement it) id state = refl
remembered_before (packet.Fetch it) id state = refl
remembered_before (packet.OtherCommand it) id state = refl
remembered_before (packet.FieldList it) id state = refl
remembered_before (packet.SetOption it) id state = refl
remembered_before (packet.StatisticsRequest it) id state = refl
remembered_before (packet.ResetConnection it) id state = refl
remembered_before (packet.ProcessKill it) id state = refl
remembered_before (packet.Debug it) id state = refl
remembered_before (packet.RegisterSlave it) id state = refl
remembered_before (packet.BinlogDump it) id state = refl
remembered_before (packet.BinlogDumpGtid it) id state = refl
remembered_before packet.TooLarge id state = refl
remembered_before (packet.Refused it) id state = refl

applied_before : (shown : Packet) (id : ℕ) (state : SessionState) → applied shown (before id state) ≡ before id (applied shown state)
applied_before (packet.Greeting it) id state = refl
applied_before (packet.TlsRequest it) id state = refl
applied_before (packet.Login it) id state = refl
applied_before (packet.AuthSwitch it) id state = refl
applied_before (packet.AuthMoreData it) id state = refl
applied_before (packet.AuthAnswer it) id state = refl
applied_before (packet.Ok it) id state = refl
applied_before (packet.RowsEnd it) id state = refl
applied_before (packet.Error it) id state = refl
applied_before (packet.Progress it) id state = refl
applied_before (packet.Eof it) id state = refl
applied_before (packet.ColumnCount it) id state = refl
applied_before (packet.Column it) id state = refl
applied_before (packet.TableColumn it) id state = refl
applied_before (packet.Row it) id state = refl
applied_before (packet.LocalInfile it) id state = refl
applied_before (packet.File it) id state = refl
applied_before (packet.Prepared it) id state = refl
applied_before (packet.Statistics it) id state = refl
applied_before (packet.BinaryLogEvent it) id state = refl
applied_before (packet.Command it) id state = refl
applied_before (packet.Prepare it) id state = refl
applied_before (packet.Execute it) id state = refl
applied_before (packet.ExecuteUnknown it) id state = refl
applied_before (packet.LongData it) id state = refl
applied_before (packet.CloseStatement it) id state = refl
applied_before (packet.ResetStatement it) id state = refl
applied_before (packet.Fetch it) id state = fetched_before (statement_of it.statement_id state.statements) id state
applied_before (packet.OtherCommand it) id state = refl
applied_before (packet.FieldList it) id state = refl
applied_before (packet.SetOption it) id state = refl
applied_before (packet.StatisticsRequest it) id state = refl
applied_before (packet.ResetConnection it) id state = refl
applied_before (packet.ProcessKill it) id state = refl
applied_before (packet.Debug it) id state = refl
applied_before (packet.RegisterSlave it) id state = refl
applied_before (packet.BinlogDump it) id state = refl
applied_before (packet.BinlogDumpGtid it) id state = refl
applied_before packet.TooLarge id state = refl
applied_before (packet.Refused it) id state = refl

-- nothing that is known after a server's packet hangs on it
after_before : (called : PacketKind) (shown : Packet) (payload : List ℕ) (own id : ℕ) (state : SessionState)
    → after_packet Server own called payload shown (before id state) ≡ after_packet Server own called payload shown state
after_before called shown payload own id state =
    let len = length payload in
    let kept = remembered_before shown id state in
    let opens = opened_before called len id (remembered shown state) in
    let after : SessionState → SessionState = λ k. record k { phase = server_phase called k.is_eof_deprecated k.phase } in
    let there = after (opened called len (remembered shown state)) in
    ap (λ (k : SessionState). record (applied shown (asked called payload (after (opened called len k)))) { next_id = id_after own len }) kept
    ∙ ap (λ (k : SessionState). record (applied shown (asked called payload (after k))) { next_id = id_after own len }) opens
    ∙ ap (λ (k : SessionState). record (applied shown k) { next_id = id_after own len }) (asked_before_id called payload id there)
    ∙ ap (λ (k : SessionState). record k { next_id = id_after own len }) (applied_before shown id (asked called payload there))

any_named_before : (expected : Expectation) (number id : ℕ) (first : Option ℕ) (len : ℕ) → any_server_kind (record expected { next_id = number }) id first len ≡ any_server_kind expected id first len
any_named_before expected number id None len = refl
any_named_before expected number id (Some first) len = refl

-- nor what a server's packet is taken for
named_before : (side : Side) (number id : ℕ) (payload : List ℕ) (state : SessionState) → side ≡ Server → kind_of side id payload (before number state) ≡ kind_of side id payload state
named_before Client number id payload state is = cc is
named_before Server number id payload state is =
    ap (λ (k : PacketKind). cond (is_report payload) kind.Progress k) (any_named_before (expectation_of state) number id (first_byte payload) (length payload))

-- what is followed from a server's packet on is followed whatever id follows
server_follows : (ends : SessionState → Type 0) (state : SessionState) (said : Said) (rest : List Said) (id : ℕ) → said.side ≡ Server
    → FollowsUntil ends state (said ∷ rest) → FollowsUntil ends (before id state) (said ∷ rest)
server_follows ends state said rest id side (busy, may, called, on) =
    let same : called_at (before id state) said ≡ called_at state said = named_before said.side id said.id said.payload state side in (
      busy,
      may,
      same ∙ called,
      λ next goes. on next (record {
        read = goes.read;
        reads =
            let named = subst (λ (k : PacketKind). ReadsAs (opened k (length said.payload) (before id state)) k said.payload goes.read) same goes.reads in
            reads_before (called_at state said) id (opened (called_at state said) (length said.payload) state) said.payload goes.read
            (subst (λ (k : SessionState). ReadsAs k (called_at state said) said.payload goes.read) (opened_before (called_at state said) (length said.payload) id state) named);
        goes_on =
            goes.goes_on ∙ ap (λ (k : PacketKind). after_packet said.side said.id k said.payload goes.read (before id state)) same
            ∙ ap (λ (s : Side). after_packet s said.id (called_at state said) said.payload goes.read (before id state)) side
            ∙ after_before (called_at state said) goes.read said.payload said.id id state
            ∙ ap (λ (s : Side). after_packet s said.id (called_at state said) said.payload goes.read state) (sym side);
      }),
    )

-- ---- reports

is_progress : (state : SessionState) (said : Said) → IsReport said → called_at state said ≡ kind.Progress
is_progress state said is = rw (is.side, is.reports) refl

report_quiet : (state : SessionState) (said : Said) (shown : Packet) → ReadsAs state kind.Progress said.payload shown
    → after_packet Server said.id kind.Progress said.payload shown state ≡ before (id_after said.id (length said.payload)) state
report_quiet state said shown (inl (read, is, shown_is)) = rw shown_is refl
report_quiet state said shown (inr (error, refusal, is, refuses, shown_is)) = rw shown_is refl

-- only the id that follows is another after one
report_stays : (state next : SessionState) (said : Said) → IsReport said → Advances state said next → next ≡ before (id_after said.id (length said.payload)) state
report_stays state next said is goes =
    let named = is_progress state said is in
    let reads = subst (λ (k : PacketKind). ReadsAs (opened k (length said.payload) state) k said.payload goes.read) named goes.reads in
    let quiet : after_packet Server said.id kind.Progress said.payload goes.read state ≡ before (id_after said.id (length said.payload)) state =
    report_quiet state said goes.read reads in
    goes.goes_on ∙ ap (λ (k : PacketKind). after_packet said.side said.id k said.payload goes.read state) named
    ∙ ap (λ (s : Side). after_packet s said.id kind.Progress said.payload goes.read state) is.side ∙ quiet

-- reports, and a server's packet after them
reports_go : (ends : SessionState → Type 0) (reports : List Said) (state : SessionState) (said : Said) (rest : List Said) → AllByRecursion IsReport reports → said.side ≡ Server
    → FollowsUntil ends state (said ∷ rest) → FollowsUntil ends state (reports ++ said ∷ rest)
reports_go ends [] state said rest are side follows = follows
reports_go ends (report ∷ reports) state said rest (is, are) side follows = (
  follows.0,
  subst (λ (s : Side). MaySend (next_sender state.phase) s) (side ∙ sym is.side) follows.1,
  is_progress state report is ∙ sym is.kind_is,
  λ next goes.
      let same = report_stays state next report is goes in
      let id = id_after report.id (length report.payload) in
      subst (λ (k : SessionState). FollowsUntil ends k (reports ++ said ∷ rest)) (sym same)
      (reports_go ends reports (before id state) said rest are side (server_follows ends state said rest id side follows)),
)

may_report_goes : (ends : SessionState → Type 0) (agreed : Agreed) (reports : List Said) (state : SessionState) (said : Said) (rest : List Said) → MayReport agreed said reports
    → FollowsUntil ends state (said ∷ rest) → FollowsUntil ends state (reports ++ said ∷ rest)
may_report_goes ends agreed reports state said rest (inl none) follows =
    subst (λ (reports : List Said). FollowsUntil ends state (reports ++ said ∷ rest)) (sym none) follows
may_report_goes ends agreed reports state said rest (inr (are, side, can)) follows =
    reports_go ends reports state said rest (recursion_from_All IsReport reports are) side follows

-- what is followed is followed with reports
pub with_reports : (ends : SessionState → Type 0) (agreed : Agreed) (state : SessionState) (said sent : List Said) → WithReports agreed said sent
    → FollowsUntil ends state said → FollowsUntil ends state sent
with_reports ends agreed state [] sent none follows =
    subst (λ (sent : List Said). FollowsUntil ends state sent) (sym none) follows
with_reports ends agreed state (one ∷ more) sent (reports, rest, may, on, whole) follows =
    subst (λ (sent : List Said). FollowsUntil ends state sent) (sym whole)
    (may_report_goes ends agreed reports state one rest may
    (follows.0, follows.1, follows.2, λ next goes. with_reports ends agreed next more rest on (follows.3 next goes)))

-- What is read alike where no EOF stood before it.
use Rattle.std.proofs.Common.{◌≡◌, ℕ, List, refl, Result, Ok, Err}
use Rattle.mysql_wire_session.specs.Opening.{opened_state}
use Rattle.mysql_wire_session.specs.Readings.{Gives}
use Rattle.mysql_wire_session.specs.State.{SessionState}
use Rattle.mysql_wire_session.specs.declared.session.read.Opened.{Opened}
use Rattle.mysql_wire_session.specs.declared.packet.Packet.{Packet}
use Rattle.mysql_wire_session.specs.declared.packet_kind.PacketKind.{PacketKind}
use Rattle.mysql_wire_session.specs.declared.packet_kind.PacketKind.TheVariants as kind
use Rattle.mysql_wire_session.specs.declared.refusal.SessionError.{SessionError}

-- all but errors, ends and columns
pub gives_opened : (called : PacketKind) (there : Opened) (state : SessionState) (payload : List ℕ) (result : Result Packet SessionError)
    → (called ≡ kind.Error → ⊥) → (called ≡ kind.Eof → ⊥) → (called ≡ kind.Column → ⊥)
    → Gives state called payload result → Gives (opened_state there state) called payload result
gives_opened kind.Greeting there state payload result no_error no_end no_column gives = gives
gives_opened kind.TlsRequest there state payload result no_error no_end no_column gives = gives
gives_opened kind.Login there state payload result no_error no_end no_column gives = gives
gives_opened kind.AuthSwitch there state payload result no_error no_end no_column gives = gives
gives_opened kind.AuthMoreData there state payload result no_error no_end no_column gives = gives
gives_opened kind.AuthAnswer there state payload result no_error no_end no_column gives = gives
gives_opened kind.Ok there state payload result no_error no_end no_column gives = gives
gives_opened kind.Error there state payload result no_error no_end no_column gives = absurd (no_error refl)
gives_opened kind.Progress there state payload result no_error no_end no_column gives = gives
gives_opened kind.Eof there state payload result no_error no_end no_column gives = absurd (no_end refl)
gives_opened kind.ColumnCount there state payload result no_error no_end no_column gives = gives
gives_opened kind.Column there state payload result no_error no_end no_column gives = absurd (no_column refl)
gives_opened kind.Row there state payload (Ok is) no_error no_end no_column gives = gives
gives_opened kind.Row there state payload (Err why) no_error no_end no_column gives = gives
gives_opened kind.BinaryRow there state payload (Ok is) no_error no_end no_column gives = gives
gives_opened kind.BinaryRow there state payload (Err why) no_error no_end no_column gives = gives
gives_opened kind.LocalInfile there state payload result no_error no_end no_column gives = gives
gives_opened kind.File there state payload result no_error no_end no_column gives = gives
gives_opened kind.Prepared there state payload result no_error no_end no_column gives = gives
gives_opened kind.Statistics there state payload result no_error no_end no_column gives = gives
gives_opened kind.BinaryLogEvent there state payload result no_error no_end no_column gives = gives
gives_opened kind.Query there state payload result no_error no_end no_column gives = gives
gives_opened kind.InitDatabase there state payload result no_error no_end no_column gives = gives
gives_opened kind.Ping there state payload result no_error no_end no_column gives = gives
gives_opened kind.Quit there state payload result no_error no_end no_column gives = gives
gives_opened kind.ChangeUser there state payload result no_error no_end no_column gives = gives
gives_opened kind.Prepare there state payload result no_error no_end no_column gives = gives
gives_opened kind.Execute there state payload result no_error no_end no_column gives = gives
gives_opened kind.LongData there state payload result no_error no_end no_column gives = gives
gives_opened kind.CloseStatement there state payload result no_error no_end no_column gives = gives
gives_opened kind.ResetStatement there state payload result no_error no_end no_column gives = gives
gives_opened kind.Fetch there state payload result no_error no_end no_column gives = gives
gives_opened kind.FieldList there state payload result no_error no_end no_column gives = gives
gives_opened kind.SetOption there state payload result no_error no_end no_column gives = gives
gives_opened kind.StatisticsRequest there state payload result no_error no_end no_column gives = gives
gives_opened kind.ResetConnection there state payload result no_error no_end no_column gives = gives
gives_opened kind.BinaryLogRequest there state payload result no_error no_end no_column gives = gives
gives_opened kind.OtherCommand there state payload result no_error no_end no_column gives = gives
gives_opened kind.TooLarge there state payload result no_error no_end no_column gives = gives
gives_opened (kind.Refused refusal) there state payload result no_error no_end no_column gives = gives

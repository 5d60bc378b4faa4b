-- The numbers that C has for sides, senders, phases and kinds of packets.
use Rattle.std.specs.Prelude.{ℕ, ◌==◌, if◌then◌else◌, Option, Some, None}
use Rattle.mysql_wire_session.specs.declared.packet_kind.PacketKind.{PacketKind}
use Rattle.mysql_wire_session.specs.declared.packet_kind.PacketKind.TheVariants as kind
use Rattle.mysql_wire_session.specs.declared.phase.Phase.{Phase}
use Rattle.mysql_wire_session.specs.declared.phase.Phase.TheVariants as phase
use Rattle.mysql_wire_session.specs.declared.side.Sender.{Sender}
use Rattle.mysql_wire_session.specs.declared.side.Sender.TheVariants as sender
use Rattle.mysql_wire_session.specs.declared.side.Side.{Side}
use Rattle.mysql_wire_session.specs.declared.side.Side.TheVariants.{Client, Server}

abbrev pub side_of : ℕ → Option Side
side_of number =
    if number == 0 then Some Client
    else if number == 1 then Some Server
    else None

abbrev pub sender_number : Sender → ℕ
sender_number sender.Client = 0
sender_number sender.Server = 1
sender_number sender.Either = 2

abbrev pub phase_number : Phase → ℕ
phase_number phase.Greeting = 0
phase_number phase.Login = 1
phase_number phase.Authentication = 2
phase_number phase.Command = 3
phase_number phase.Answer = 4
phase_number phase.PrepareAnswer = 5
phase_number phase.OptionAnswer = 6
phase_number phase.Statistics = 7
phase_number phase.FieldList = 8
phase_number phase.BinaryLog = 9
phase_number (phase.Columns left following) = 10
phase_number (phase.ColumnsEnd following) = 11
phase_number phase.Rows = 12
phase_number phase.File = 13
phase_number phase.Closed = 14
phase_number phase.Encrypted = 15

abbrev pub kind_number : PacketKind → ℕ
kind_number kind.Greeting = 1
kind_number kind.TlsRequest = 2
kind_number kind.Login = 3
kind_number kind.AuthSwitch = 4
kind_number kind.AuthMoreData = 5
kind_number kind.AuthAnswer = 6
kind_number kind.Ok = 7
kind_number kind.Error = 8
kind_number kind.Progress = 9
kind_number kind.Eof = 10
kind_number kind.ColumnCount = 11
kind_number kind.Column = 12
kind_number kind.Row = 13
kind_number kind.BinaryRow = 14
kind_number kind.LocalInfile = 15
kind_number kind.File = 16
kind_number kind.Prepared = 17
kind_number kind.Statistics = 18
kind_number kind.BinaryLogEvent = 19
kind_number kind.Query = 20
kind_number kind.InitDatabase = 21
kind_number kind.Ping = 22
kind_number kind.Quit = 23
kind_number kind.ChangeUser = 24
kind_number kind.Prepare = 25
kind_number kind.Execute = 26
kind_number kind.LongData = 27
kind_number kind.CloseStatement = 28
kind_number kind.ResetStatement = 29
kind_number kind.Fetch = 30
kind_number kind.FieldList = 31
kind_number kind.SetOption = 32
kind_number kind.StatisticsRequest = 33
kind_number kind.ResetConnection = 34
kind_number kind.BinaryLogRequest = 35
kind_number kind.OtherCommand = 36
kind_number kind.TooLarge = 37
kind_number (kind.Refused refusal) = 38

-- The names of sides, kinds and refusals.
use Rattle.std.specs.Prelude.{ℕ, List, codes}
use Rattle.mysql_wire_session.specs.declared.side.Side.{Side}
use Rattle.mysql_wire_session.specs.declared.side.Side.TheVariants.{Client, Server}
use Rattle.mysql_wire_session.specs.declared.refusal.Refusal.{Refusal}
use Rattle.mysql_wire_session.specs.declared.refusal.Refusal.TheVariants as refusal
use Rattle.mysql_wire_session.specs.declared.packet_kind.PacketKind.{PacketKind}
use Rattle.mysql_wire_session.specs.declared.packet_kind.PacketKind.TheVariants as kind

abbrev pub side_name : Side → List ℕ
side_name Client = codes "client"
side_name Server = codes "server"

abbrev pub refusal_name : Refusal → List ℕ
refusal_name refusal.UnexpectedEnd = codes "unexpected end"
refusal_name refusal.UnknownValue = codes "unknown value"
refusal_name refusal.ConstantMismatch = codes "constant mismatch"
refusal_name refusal.NoNullTerminator = codes "no null terminator"
refusal_name refusal.InvalidNumber = codes "invalid number"
refusal_name refusal.TrailingBytes = codes "trailing bytes"
refusal_name refusal.OtherHeader = codes "other header"

abbrev pub kind_name : PacketKind → List ℕ
kind_name kind.Greeting = codes "greeting"
kind_name kind.TlsRequest = codes "ssl request"
kind_name kind.Login = codes "login"
kind_name kind.AuthSwitch = codes "auth switch"
kind_name kind.AuthMoreData = codes "auth more data"
kind_name kind.AuthAnswer = codes "auth answer"
kind_name kind.Ok = codes "ok"
kind_name kind.Error = codes "error"
kind_name kind.Progress = codes "progress"
kind_name kind.Eof = codes "eof"
kind_name kind.ColumnCount = codes "column count"
kind_name kind.Column = codes "column"
kind_name kind.Row = codes "row"
kind_name kind.BinaryRow = codes "binary row"
kind_name kind.LocalInfile = codes "local infile"
kind_name kind.File = codes "file"
kind_name kind.Prepared = codes "prepared"
kind_name kind.Statistics = codes "statistics text"
kind_name kind.BinaryLogEvent = codes "binlog event"
kind_name kind.Query = codes "query"
kind_name kind.InitDatabase = codes "init db"
kind_name kind.Ping = codes "ping"
kind_name kind.Quit = codes "quit"
kind_name kind.ChangeUser = codes "change user"
kind_name kind.Prepare = codes "prepare"
kind_name kind.Execute = codes "execute"
kind_name kind.LongData = codes "send long data"
kind_name kind.CloseStatement = codes "close statement"
kind_name kind.ResetStatement = codes "reset statement"
kind_name kind.Fetch = codes "fetch"
kind_name kind.FieldList = codes "field list"
kind_name kind.SetOption = codes "set option"
kind_name kind.StatisticsRequest = codes "statistics"
kind_name kind.ResetConnection = codes "reset connection"
kind_name kind.BinaryLogRequest = codes "binlog dump"
kind_name kind.OtherCommand = codes "other command"
kind_name kind.TooLarge = codes "too large"
kind_name (kind.Refused refusal) = codes "bytes"

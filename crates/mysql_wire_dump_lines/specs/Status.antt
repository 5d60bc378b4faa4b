-- How the program ends.
use Rattle.std.specs.Prelude.{ℕ, List, codes}
use Rattle.mysql_wire_dump_lines.specs.declared.packet_stream.End.{End}
use Rattle.mysql_wire_dump_lines.specs.declared.packet_stream.End.TheVariants as ending
use Rattle.wire_text.specs.declared.stop.Stop.{Stop}
use Rattle.wire_text.specs.declared.stop.Stop.TheVariants.{Io, Memory}
use Rattle.mysql_wire_session.specs.declared.refusal.SessionError.{SessionError}
use Rattle.mysql_wire_session.specs.declared.refusal.SessionError.TheVariants as session
use Rattle.wire_text.specs.Stops

-- why a dump gives up where its session fails so
abbrev pub stop_of : SessionError → Stop
stop_of session.Io = Io
stop_of session.OutOfMemory = Memory

-- the command lines, in one line
abbrev pub usage : List ℕ
usage = codes
    "usage: mysql_wire_dump [--fields] [--json] [--limit BYTES] [client FILE] [server FILE]"

-- the words on standard error
abbrev pub fault_line : ℕ → List ℕ
fault_line = Stops.fault_line usage

-- the status of a direction that ends so
abbrev pub end_status : End → ℕ
end_status ending.Between = 0
end_status ending.Unfinished = 3
end_status ending.OutOfSync = 5
end_status ending.Encrypted = 0

-- Whose packet is next.
use Rattle.std.specs.Prelude.{Bool, true, false}
use Rattle.mysql_wire_session.specs.declared.phase.Phase.{Phase}
use Rattle.mysql_wire_session.specs.declared.phase.Phase.TheVariants as phase
use Rattle.mysql_wire_session.specs.declared.side.Sender.{Sender}
use Rattle.mysql_wire_session.specs.declared.side.Sender.TheVariants as sender

-- the client's where its login, a command or a file is waited for; while it authenticates itself
-- either's, and where no packet is waited for; else the server's
abbrev pub next_sender : Phase → Sender
next_sender phase.Login = sender.Client
next_sender phase.Command = sender.Client
next_sender phase.File = sender.Client
next_sender phase.Authentication = sender.Either
next_sender phase.Closed = sender.Either
next_sender phase.Encrypted = sender.Either
next_sender other = sender.Server

abbrev pub is_idle : Phase → Bool
is_idle phase.Command = true
is_idle other = false

-- What the program makes of the words on its command line.
use Rattle.std.specs.Io.KnownBytes.{Appends}
use Rattle.std.specs.Prelude.{◌≡◌, ◌⊎◌, ℕ, List, [], ◌++◌, codes, Option, None, Some}
use Rattle.mysql_wire_dump_lines.specs.declared.options.Sides.{Sides}
use Rattle.mysql_wire_dump_lines.specs.Arguments.{Command, Dump, Help, Session, sides_of}
use Rattle.mysql_wire_dump_lines.specs.Status.{usage}
use Rattle.mysql_wire_dump_lines.specs.Dumped.{DumpEnds}

-- what is known of the bytes of a file, or that there are none
abbrev pub left_in : {T : Type 0} → (T → Option (List ℕ)) → Option T → Option (List ℕ)
left_in remaining None = Some []
left_in remaining (Some file) = remaining file

-- the dump of a session's files ended with this status: a side without a file has no bytes
pub record FilesEnd (session : Session) (written now : Option (List ℕ)) (status : ℕ) : Type 0 where
  pub sides : Sides
  pub client : Option (List ℕ)
  pub client_left : Option (List ℕ)
  pub server : Option (List ℕ)
  pub server_left : Option (List ℕ)
  pub sides_are : sides_of session.client session.server ≡ Some sides
  pub no_client : session.client ≡ None → client ≡ Some []
  pub no_server : session.server ≡ None → server ≡ Some []
  pub ends : DumpEnds session.options sides client client_left server server_left written now status

-- this command ended with this status: help with the command lines on a line, or a failed write
abbrev pub CommandEnds : Command → Option (List ℕ) → Option (List ℕ) → ℕ → Type 0
CommandEnds Help written now status =
    ((status ≡ 0) × Appends written now (usage ++ codes "\n")) ⊎ (status ≡ 2)
CommandEnds (Dump session) written now status = FilesEnd session written now status

use Rattle.std.proofs.Common.{map, take, string_bytes, option_copied}
use Rattle.mysql_wire_dump_lines.specs.Arguments.{Reads}
use Rattle.mysql_wire_dump_lines.proofs.arguments.Request.of.Given as goal

abbrev pub invariant-words : goal.invariant-words
invariant-words g l = Reads (map string_bytes (take l.word-index l.words)) l.state.0 (option_copied l.state.1)

use Rattle.std.proofs.Common.{string_bytes, arith}
use Rattle.mysql_wire_tool_commands.proofs.ArgumentLemmas.{chunk_asked, chunk_count}
use Rattle.mysql_wire_tool_commands.proofs.arguments.Request.chunk.Goals as goal

pub returns-in-empty : goal.returns-in-empty
returns-in-empty g c = chunk_asked string_bytes c.args.words.now (omega arith)

pub returns-in_default : goal.returns-in_default
returns-in_default g c = chunk_count string_bytes c.args.words.now (omega arith)

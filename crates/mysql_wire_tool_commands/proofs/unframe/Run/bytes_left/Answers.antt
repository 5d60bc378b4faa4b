use Rattle.std.proofs.Common.{rules}
use Rattle.wire_codec.specs.Framing.{max_payload_is}
use Rattle.mysql_wire_tool_commands.proofs.unframe.Run.bytes_left.Goals as goal

pub returns : goal.returns
returns g c = rw max_payload_is (search rules)

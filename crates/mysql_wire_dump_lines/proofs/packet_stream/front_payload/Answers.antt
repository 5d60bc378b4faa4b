use Rattle.std.proofs.Common.{rules}
use Rattle.std.proofs.lemmas.List.{drop_min, take_min}
use Rattle.mysql_wire_dump_lines.proofs.packet_stream.front_payload.Goals as goal

pub returns : goal.returns
returns c = search (rules, drop_min, take_min)

-- The words that lines are made of.
use Rattle.std.specs.Prelude.{ℕ, List, codes}
use Rattle.mysql_wire_dump_lines.specs.declared.packet_stream.End.{End}
use Rattle.mysql_wire_dump_lines.specs.declared.packet_stream.End.TheVariants as ending

-- how a direction ends
abbrev pub end_name : End → List ℕ
end_name ending.Between = codes "end"
end_name ending.Unfinished = codes "unfinished"
end_name ending.OutOfSync = codes "out of sync"
end_name ending.Encrypted = codes "encrypted"

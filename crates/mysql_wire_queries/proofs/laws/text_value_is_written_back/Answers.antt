use Rattle.mysql_wire_queries.specs.TextValues.{value_of}
use Rattle.mysql_wire_parts.specs.Shortest.{written_back}
use Rattle.mysql_wire_queries.specs.ShortestRows.{value_shortest}
use Rattle.mysql_wire_queries.proofs.laws.text_value_is_written_back.Goals as goal

pub returns : goal.returns
returns c = λ input packet eaten is read.
    written_back _ _ ((value_shortest value_of).law input is packet eaten read)

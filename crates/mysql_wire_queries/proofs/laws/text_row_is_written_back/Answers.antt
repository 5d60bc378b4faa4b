use Rattle.std.specs.Cow.{cow_slice_items}
use Rattle.mysql_wire_queries.specs.TextValues.{value_of}
use Rattle.mysql_wire_parts.specs.Shortest.{written_back}
use Rattle.mysql_wire_queries.specs.ShortestRows.{row_law, value_shortest}
use Rattle.mysql_wire_queries.proofs.laws.text_row_is_written_back.Goals as goal

pub returns : goal.returns
returns c = λ count input packet eaten is read.
    written_back _ _ (row_law count (value_shortest value_of) (cow_slice_items packet.values.0) input is eaten read.1)

use Rattle.mysql_wire_parts.specs.Again.{byte_again}
use Rattle.mysql_wire_parts.specs.Shortest.{written_back, both_of, exact, part_of, text_of}
use Rattle.mysql_wire_queries.proofs.laws.type_detail_is_written_back.Goals as goal

pub returns : goal.returns
returns c = λ input packet eaten is read.
    written_back _ _ ((both_of
    (part_of (λ detail. detail.kind) (exact (byte_again (λ n. n))))
    (part_of (λ detail. detail.value) (text_of (λ text. text.0)))).law input is packet eaten read)

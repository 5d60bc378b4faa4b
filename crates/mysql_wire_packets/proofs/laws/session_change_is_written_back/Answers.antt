use Rattle.mysql_wire_parts.specs.Again.{byte_again}
use Rattle.mysql_wire_parts.specs.Shortest.{written_back, both_of, exact, part_of, text_of}
use Rattle.mysql_wire_packets.proofs.laws.session_change_is_written_back.Goals as goal

pub returns : goal.returns
returns c = λ input packet eaten is read.
    written_back _ _ ((both_of
    (part_of (λ change. change.kind) (exact (byte_again (λ raw. raw.0))))
    (part_of (λ change. change.data) (text_of (λ text. text.0)))).law input is packet eaten read)

use Rattle.mysql_wire_parts.specs.Again.{const_again, eof_text_again}
use Rattle.mysql_wire_parts.specs.Shortest.{written_back, both_of, exact, int_of, part_of}
use Rattle.mysql_wire_queries.proofs.laws.com_query_with_attributes_is_written_back.Goals as goal

pub returns : goal.returns
returns c = λ input packet eaten is read.
    written_back _ _ ((both_of (part_of (λ command. _) (exact (const_again 0x03)))
    (both_of (int_of (λ command. command.parameter_count))
    (both_of (int_of (λ command. command.parameter_set_count))
    (part_of (λ command. command.attributes_and_query)
    (exact (eof_text_again (λ text. text.0))))))).law input is packet eaten read)

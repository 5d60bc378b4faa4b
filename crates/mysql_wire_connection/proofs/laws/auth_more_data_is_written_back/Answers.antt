use Rattle.mysql_wire_parts.specs.Again.{both_again, const_again, eof_text_again, packet_again}
use Rattle.mysql_wire_connection.proofs.laws.auth_more_data_is_written_back.Goals as goal

pub returns : goal.returns
returns c = λ input packet eaten is read. (packet_again (λ more. (_, more.data))
    (both_again (const_again 0x01) (eof_text_again (λ text. text.0)))).law input is packet
    eaten read

use Rattle.mysql_wire_parts.specs.Again.{eof_text_again, packet_again}
use Rattle.mysql_wire_connection.proofs.laws.auth_switch_response_is_written_back.Goals as goal

pub returns : goal.returns
returns c = λ input packet eaten is read. (packet_again (λ response. response.data) (eof_text_again (λ text. text.0))).law input is packet
    eaten read

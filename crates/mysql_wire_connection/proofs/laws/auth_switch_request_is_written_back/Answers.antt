use Rattle.mysql_wire_parts.specs.Again.{both_again, const_again, eof_text_again, null_text_again, packet_again}
use Rattle.mysql_wire_connection.proofs.laws.auth_switch_request_is_written_back.Goals as goal

pub returns : goal.returns
returns c = λ input packet eaten is read. (packet_again (λ request. (_, (request.plugin_name, request.plugin_data)))
    (both_again (const_again 0xfe)
    (both_again (null_text_again (λ text. text.0)) (eof_text_again (λ text. text.0))))).law input is packet
    eaten read

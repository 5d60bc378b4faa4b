use Rattle.mysql_wire_parts.specs.Again.{array_again, both_again, byte_again, number_again, packet_again}
use Rattle.mysql_wire_connection.proofs.laws.ssl_request_is_written_back.Goals as goal

pub returns : goal.returns
returns c = λ input packet eaten is read. (packet_again
    (λ request. (
      request.client_flag.0,
      (
        request.max_packet_size,
        (request.character_set, (request.filler, request.mariadb_capabilities.0)),
      ),
    ))
    (both_again (number_again (λ n. n) 4) (both_again (number_again (λ n. n) 4)
    (both_again (byte_again (λ n. n)) (both_again (array_again 19)
    (number_again (λ n. n) 4)))))).law input is packet eaten read

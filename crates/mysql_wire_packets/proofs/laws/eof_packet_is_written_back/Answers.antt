use Rattle.mysql_wire_parts.specs.Again.{both_again, const_again, number_again, packet_again}
use Rattle.mysql_wire_packets.proofs.laws.eof_packet_is_written_back.Goals as goal

pub returns : goal.returns
returns c = λ input packet eaten is read. (packet_again (λ eof. (_, (eof.warnings, eof.status_flags.0)))
    (both_again (const_again 0xfe)
    (both_again (number_again (λ n. n) 2) (number_again (λ n. n) 2)))).law input is packet
    eaten read

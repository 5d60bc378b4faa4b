use Rattle.mysql_wire_parts.specs.Again.{both_again, const_again, number_again, packet_again}
use Rattle.mysql_wire_parts.specs.Shortest.{u8_text_again}
use Rattle.mysql_wire_utility.specs.Replicas.{register_fields}
use Rattle.mysql_wire_utility.proofs.laws.com_register_slave_is_written_back.Goals as goal

pub returns : goal.returns
returns c = λ input command eaten are read.
    (packet_again register_fields
    (both_again (both_again (const_again 0x15) (number_again (λ n. n) 4))
    (both_again (both_again (u8_text_again (λ text. text.0))
    (both_again (u8_text_again (λ text. text.0)) (u8_text_again (λ text. text.0))))
    (both_again (number_again (λ n. n) 2)
    (both_again (number_again (λ n. n) 4) (number_again (λ n. n) 4)))))).law
    input are command eaten read

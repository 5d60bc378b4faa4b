use Rattle.mysql_wire_parts.specs.Again.{both_again, const_again, eof_text_again, number_again, packet_again}
use Rattle.mysql_wire_utility.proofs.laws.com_binlog_dump_is_written_back.Goals as goal

pub returns : goal.returns
returns c = λ input command eaten are read.
    (packet_again
    (λ command. (_, (command.pos, (command.flags, (command.server_id, command.filename)))))
    (both_again (const_again 0x12) (both_again (number_again (λ n. n) 4)
    (both_again (number_again (λ n. n) 2) (both_again (number_again (λ n. n) 4)
    (eof_text_again (λ text. text.0))))))).law
    input are command eaten read

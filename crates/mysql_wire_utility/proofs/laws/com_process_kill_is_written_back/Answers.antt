use Rattle.mysql_wire_parts.specs.Again.{both_again, const_again, number_again, packet_again}
use Rattle.mysql_wire_utility.proofs.laws.com_process_kill_is_written_back.Goals as goal

pub returns : goal.returns
returns c = λ input command eaten are read.
    (packet_again (λ command. (_, command.connection_id))
    (both_again (const_again 0x0c) (number_again (λ n. n) 4))).law
    input are command eaten read

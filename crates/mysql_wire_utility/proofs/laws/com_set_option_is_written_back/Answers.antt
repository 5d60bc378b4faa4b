use Rattle.mysql_wire_parts.specs.Again.{both_again, const_again, number_again, packet_again}
use Rattle.mysql_wire_utility.proofs.laws.com_set_option_is_written_back.Goals as goal

pub returns : goal.returns
returns c = λ input command eaten are read.
    (packet_again (λ command. (_, command.operation))
    (both_again (const_again 0x1b) (number_again (λ n. n) 2))).law
    input are command eaten read

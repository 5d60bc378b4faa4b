use Rattle.mysql_wire_parts.specs.Again.{both_again, const_again, eof_text_again, null_text_again, packet_again}
use Rattle.mysql_wire_utility.proofs.laws.com_field_list_is_written_back.Goals as goal

pub returns : goal.returns
returns c = λ input command eaten are read.
    (packet_again (λ command. (_, (command.table, command.wildcard)))
    (both_again (const_again 0x04) (both_again (null_text_again (λ text. text.0))
    (eof_text_again (λ text. text.0))))).law
    input are command eaten read

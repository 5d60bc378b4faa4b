use Rattle.mysql_wire_parts.specs.Again.{eof_text_again, packet_again}
use Rattle.mysql_wire_utility.proofs.laws.statistics_text_is_written_back.Goals as goal

pub returns : goal.returns
returns c = λ input statistics eaten are read.
    (packet_again (λ statistics. statistics.text) (eof_text_again (λ text. text.0))).law
    input are statistics eaten read

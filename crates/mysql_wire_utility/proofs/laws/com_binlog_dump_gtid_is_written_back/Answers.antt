use Rattle.mysql_wire_parts.specs.Again.{both_again, const_again, number_again, packet_again}
use Rattle.mysql_wire_utility.specs.LongTexts.{u32_text_again}
use Rattle.mysql_wire_utility.specs.Replicas.{dump_gtid_fields}
use Rattle.mysql_wire_utility.proofs.laws.com_binlog_dump_gtid_is_written_back.Goals as goal

pub returns : goal.returns
returns c = λ input command eaten are read.
    (packet_again dump_gtid_fields
    (both_again (both_again (const_again 0x1e)
    (both_again (number_again (λ n. n) 2) (number_again (λ n. n) 4)))
    (both_again (u32_text_again (λ text. text.0))
    (both_again (number_again (λ n. n) 8) (u32_text_again (λ text. text.0)))))).law
    input are command eaten read

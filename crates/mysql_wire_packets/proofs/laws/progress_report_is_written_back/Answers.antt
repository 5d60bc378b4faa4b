use Rattle.mysql_wire_parts.specs.Again.{both_again, byte_again, const_again, number_again}
use Rattle.mysql_wire_parts.specs.Shortest.{written_back, both_of, exact, part_of, text_of}
use Rattle.mysql_wire_packets.proofs.laws.progress_report_is_written_back.Goals as goal

pub returns : goal.returns
returns c = λ input packet eaten is read.
    written_back _ _ ((both_of
    (part_of (λ report. _) (exact (both_again (const_again 0xff) (both_again (const_again 0xff) (const_again 0xff)))))
    (both_of (part_of (λ report. (report.strings, (report.stage, report.max_stage)))
    (exact (both_again (byte_again (λ n. n)) (both_again (byte_again (λ n. n)) (byte_again (λ n. n))))))
    (both_of (part_of (λ report. (report.progress, _)) (exact (number_again (λ int. int.0) 3)))
    (part_of (λ report. report.info) (text_of (λ text. text.0)))))).law input is packet eaten read)

use Rattle.mysql_wire_parts.specs.Again.{both_again, const_again, eof_text_again, number_again}
use Rattle.mysql_wire_packets.specs.Oks.{words_ctx}
use Rattle.mysql_wire_parts.specs.Shortest.{both_at, both_of, either_of, exact, int_of, optional_of, part_of, text_of, then_at, written_back}
use Rattle.mysql_wire_packets.proofs.laws.ok_form_is_written_back.Goals as goal

pub returns : goal.returns
returns g c = λ form input packet eaten is read.
    written_back _ _ ((then_at (λ ok. ok) (λ ok. words_ctx form ok.status_flags.0)
    (both_of (part_of (λ ok. _) (exact (const_again _)))
    (both_of (int_of (λ ok. ok.affected_rows)) (both_of (int_of (λ ok. ok.last_insert_id))
    (part_of (λ ok. (ok.status_flags.0, ok.warnings))
    (exact (both_again (number_again (λ n. n) 2) (number_again (λ n. n) 2)))))))
    (both_at (optional_of (λ ok. ok.info) (λ info. info) _
    (either_of (λ left. text_of (λ text. text.0))
    (λ right. exact (eof_text_again (λ text. text.0)))))
    (optional_of (λ ok. ok.session_state) (λ state. state) _
    (λ there. text_of (λ text. text.0))))).law input is packet eaten read)

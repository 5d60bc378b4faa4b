use Rattle.mysql_wire_parts.specs.Again.{array_again, both_again, byte_again, const_again, eof_text_again, null_text_again, number_again, upper_again}
use Rattle.mysql_wire_connection.specs.Handshakes.{tail_at}
use Rattle.mysql_wire_parts.specs.Shortest.{bare_of, both_at, either_of, exact, optional_of, then_at, written_back}
use Rattle.mysql_wire_connection.proofs.laws.handshake_is_written_back.Goals as goal

pub returns : goal.returns
returns c = λ input packet eaten is read.
    written_back _ _ ((then_at (λ h. (
      _,
      (
        h.server_version,
        (
          h.thread_id,
          (
            h.auth_plugin_data_part_1,
            (
              h.filler,
              (
                h.capability_flags_1,
                (
                  h.character_set,
                  (
                    h.status_flags.0,
                    (
                      h.capability_flags_2,
                      (
                        h.auth_plugin_data_len,
                        (h.reserved, h.mariadb_capabilities.0),
                      ),
                    ),
                  ),
                ),
              ),
            ),
          ),
        ),
      ),
    ))
    (λ head. tail_at head.1.1.1.1.1.1.1.1.0.0 head.1.1.1.1.1.1.1.1.1.0)
    (exact (both_again (const_again 0x0a) (both_again (null_text_again (λ text. text.0))
    (both_again (number_again (λ n. n) 4) (both_again (array_again 8)
    (both_again (byte_again (λ n. n)) (both_again (number_again (λ flags. flags.0) 2)
    (both_again (byte_again (λ n. n)) (both_again (number_again (λ n. n) 2)
    (both_again (upper_again (λ flags. flags.0)) (both_again (byte_again (λ n. n))
    (both_again (array_again 6) (number_again (λ n. n) 4)))))))))))))
    (both_at (bare_of (λ h. h.auth_plugin_data_part_2.0) 255)
    (optional_of (λ h. h.auth_plugin_name) (λ name. name) _
    (either_of (λ left. exact (null_text_again (λ text. text.0)))
    (λ right. exact (eof_text_again (λ text. text.0))))))).law input is packet eaten read)

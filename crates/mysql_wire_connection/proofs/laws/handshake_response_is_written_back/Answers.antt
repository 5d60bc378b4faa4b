use Rattle.mysql_wire_parts.specs.Again.{array_again, both_again, byte_again, null_text_again, number_again}
use Rattle.mysql_wire_parts.specs.Optional.{has, side}
use Rattle.mysql_wire_parts.specs.Shortest.{both_at, either_of, exact, optional_of, part_of, text_of, then_at, u8_text_again, written_back}
use Rattle.mysql_wire_connection.proofs.laws.handshake_response_is_written_back.Goals as goal

pub returns : goal.returns
returns c = λ input packet eaten is read.
    written_back _ _ ((then_at (λ h. (
      h.client_flag.0,
      (
        h.max_packet_size,
        (h.character_set, ((h.filler, h.mariadb_capabilities.0), h.username)),
      ),
    ))
    (λ client input. (
      side tt (has client.0 0x200000),
      (
        side tt (has client.0 0x8),
        (
          side tt (has client.0 0x80000),
          (
            side tt (has client.0 0x100000),
            side tt (has client.0 0x4000000),
          ),
        ),
      ),
    ))
    (exact (both_again (number_again (λ n. n) 4)
    (both_again (number_again (λ n. n) 4) (both_again (byte_again (λ n. n))
    (both_again (both_again (array_again 19) (number_again (λ n. n) 4))
    (null_text_again (λ text. text.0)))))))
    (both_at (λ ctx. part_of (λ h. h.auth_response)
    (either_of (λ left. text_of (λ text. text.0))
    (λ right. exact (u8_text_again (λ text. text.0))) ctx))
    (both_at (optional_of (λ h. h.database) (λ name. name) _
    (λ there. exact (null_text_again (λ text. text.0))))
    (both_at (optional_of (λ h. h.client_plugin_name) (λ name. name) _
    (λ there. exact (null_text_again (λ text. text.0))))
    (both_at (optional_of (λ h. h.connect_attrs) (λ attrs. attrs) _
    (λ there. text_of (λ text. text.0)))
    (optional_of (λ h. h.zstd_compression_level) (λ level. level) _
    (λ there. exact (byte_again (λ n. n))))))))).law input is packet eaten read)

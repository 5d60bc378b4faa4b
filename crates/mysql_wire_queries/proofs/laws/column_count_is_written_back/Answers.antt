use Rattle.wire_const.specs.FlagSets.{capability_flags_bits, mariadb_capabilities_bits}
use Rattle.mysql_wire_parts.specs.Again.{byte_again}
use Rattle.mysql_wire_parts.specs.Optional.{has, side}
use Rattle.mysql_wire_parts.specs.Shortest.{written_back, both_of, exact, int_of, optional_of}
use Rattle.mysql_wire_queries.proofs.laws.column_count_is_written_back.Goals as goal

pub returns : goal.returns
returns c = λ (capabilities, mariadb) input packet eaten is read.
    written_back _ _ ((both_of
    (optional_of (λ count. count.metadata_follows) (λ follows. follows) _
    (λ ctx. exact (byte_again (λ n. n)))
    (side tt (has (capability_flags_bits capabilities) 0x2000000)))
    (both_of (int_of (λ count. count.column_count))
    (optional_of (λ count. count.mariadb_metadata_follows) (λ follows. follows) _
    (λ ctx. exact (byte_again (λ n. n)))
    (side tt (has (mariadb_capabilities_bits mariadb) 0x10))))).law input is packet eaten
    read)

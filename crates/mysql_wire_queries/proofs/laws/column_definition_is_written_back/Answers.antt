use Rattle.wire_const.specs.FlagSets.{mariadb_capabilities_bits}
use Rattle.mysql_wire_parts.specs.Again.{array_again, both_again, byte_again, const_again, number_again}
use Rattle.mysql_wire_parts.specs.Optional.{has, side}
use Rattle.mysql_wire_parts.specs.Shortest.{written_back, both_of, exact, optional_of, part_of, text_of}
use Rattle.mysql_wire_queries.proofs.laws.column_definition_is_written_back.Goals as goal

pub returns : goal.returns
returns c = λ capabilities input packet eaten is read.
    written_back _ _ ((both_of
    (both_of (both_of (part_of (λ column. column.catalog) (text_of (λ text. text.0)))
    (part_of (λ column. column.schema) (text_of (λ text. text.0))))
    (both_of (both_of (part_of (λ column. column.table) (text_of (λ text. text.0)))
    (part_of (λ column. column.org_table) (text_of (λ text. text.0))))
    (both_of (part_of (λ column. column.name) (text_of (λ text. text.0)))
    (part_of (λ column. column.org_name) (text_of (λ text. text.0))))))
    (both_of (optional_of (λ column. column.extended_metadata) (λ text. text) _
    (λ ctx. text_of (λ text. text.0))
    (side tt (has (mariadb_capabilities_bits capabilities) 0x8)))
    (part_of (λ column. (
      (_, (column.character_set, column.column_length)),
      ((column.column_type.0, column.flags.0), (column.decimals, column.reserved)),
    ))
    (exact (both_again (both_again (const_again 0x0c) (both_again (number_again (λ n. n) 2)
    (number_again (λ n. n) 4)))
    (both_again (both_again (byte_again (λ n. n)) (number_again (λ n. n) 2))
    (both_again (byte_again (λ n. n)) (array_again 2)))))))).law input is packet eaten read)

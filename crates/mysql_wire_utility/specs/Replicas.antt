-- The commands of a replica: their fields in order, and what is written of them.
use Rattle.std.specs.Prelude.{ℕ, List, ◌∷◌, ◌++◌}
use Rattle.std.specs.Cow.{cow_slice_items}
use Rattle.wire_buf.specs.Numbers.{le_bytes}
use Rattle.wire_field.specs.declared.row.Both.{Both}
use Rattle.wire_forms.specs.declared.prefixed.U8Bytes.{U8Bytes}
use Rattle.wire_forms.specs.declared.prefixed.U32Bytes.{U32Bytes}
use Rattle.mysql_wire_parts.specs.Fields.{Constant, Text}
use Rattle.mysql_wire_parts.specs.InOrder.{u8_text_bytes}
use Rattle.mysql_wire_utility.specs.LongTexts.{u32_text_bytes}
use Rattle.mysql_wire_utility.specs.declared.com_binlog_dump.ComBinlogDump.{ComBinlogDump}
use Rattle.mysql_wire_utility.specs.declared.com_binlog_dump_gtid.ComBinlogDumpGtid.{ComBinlogDumpGtid}
use Rattle.mysql_wire_utility.specs.declared.com_register_slave.ComRegisterSlave.{ComRegisterSlave}

-- who a replica is
abbrev pub register_fields : ComRegisterSlave
    → Both (Both (Constant 0x15) ℕ)
    (Both (Both (Text U8Bytes) (Both (Text U8Bytes) (Text U8Bytes))) (Both ℕ (Both ℕ ℕ)))
register_fields command = (
  (_, command.server_id),
  (
    (command.hostname, (command.user, command.password)),
    (command.port, (command.replication_rank, command.master_id)),
  ),
)

abbrev pub register_bytes : ComRegisterSlave → List ℕ
register_bytes command = (0x15 ∷ le_bytes 4 command.server_id)
    ++ ((u8_text_bytes command.hostname.0
    ++ (u8_text_bytes command.user.0 ++ u8_text_bytes command.password.0))
    ++ (le_bytes 2 command.port
    ++ (le_bytes 4 command.replication_rank ++ le_bytes 4 command.master_id)))

-- the log from a position on
abbrev pub dump_bytes : ComBinlogDump → List ℕ
dump_bytes command = 0x12 ∷ (le_bytes 4 command.pos
    ++ (le_bytes 2 command.flags
    ++ (le_bytes 4 command.server_id ++ cow_slice_items command.filename.0)))

-- the log without some transactions
abbrev pub dump_gtid_fields : ComBinlogDumpGtid
    → Both (Both (Constant 0x1e) (Both ℕ ℕ)) (Both (Text U32Bytes) (Both ℕ (Text U32Bytes)))
dump_gtid_fields command = (
  (_, (command.flags, command.server_id)),
  (command.filename, (command.pos, command.sid_block)),
)

abbrev pub dump_gtid_bytes : ComBinlogDumpGtid → List ℕ
dump_gtid_bytes command = (0x1e ∷ (le_bytes 2 command.flags ++ le_bytes 4 command.server_id))
    ++ (u32_text_bytes command.filename.0
    ++ (le_bytes 8 command.pos ++ u32_text_bytes command.sid_block.0))

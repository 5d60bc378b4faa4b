-- The flag sets: the name and the bits of each flag, and how a raw number becomes a set.
use Rattle.std.specs.Prelude.{ℕ, ◌≡◌, List, [], ◌∷◌, codes, Result, Ok, Err, refl}
use Rattle.std.specs.Int.RustNames.{bit_and}
use Rattle.bitflags.specs.Sets.{known_bits, known_from}
use Rattle.wire_const.specs.declared.flag_sets.status.StatusFlags.{StatusFlags}
use Rattle.wire_const.specs.declared.flag_sets.capability.CapabilityFlags.{CapabilityFlags}
use Rattle.wire_const.specs.declared.flag_sets.mariadb.MariadbCapabilities.{MariadbCapabilities}
use Rattle.wire_const.specs.declared.flag_sets.execute.CursorType.{CursorType}
use Rattle.wire_const.specs.declared.flag_sets.execute.StmtExecuteParamsFlags.{StmtExecuteParamsFlags}
use Rattle.wire_const.specs.declared.flag_sets.execute.StmtExecuteParamFlags.{StmtExecuteParamFlags}
use Rattle.wire_const.specs.declared.flag_sets.execute.StmtBulkExecuteFlags.{StmtBulkExecuteFlags}
use Rattle.wire_const.specs.declared.flag_sets.column.ColumnFlags.{ColumnFlags}
use Rattle.wire_const.specs.declared.flag_sets.session.Flags2.{Flags2}
use Rattle.wire_const.specs.declared.flag_sets.session.SqlMode.{SqlMode}

-- no bit of the raw number is outside the known ones
abbrev pub IsKnown : ℕ → ℕ → Type 0
IsKnown known raw = bit_and raw known ≡ raw

-- A raw number becomes the set with just its bits exactly where each of them is known; else the
-- error holds it.
abbrev pub ConvertsBits : {F E : Type 0} → ℕ → (F → ℕ) → (E → ℕ) → ℕ → Result F E → Type 0
ConvertsBits known bits_of raw_of raw (Ok flags) = IsKnown known raw × (bits_of flags ≡ raw)
ConvertsBits known bits_of raw_of raw (Err unknown) = (¬ IsKnown known raw) × (raw_of unknown ≡ raw)

-- the flags of the status: <https://dev.mysql.com/doc/dev/mysql-server/latest/mysql__com_8h.html>
abbrev pub status_flags : List (List ℕ × ℕ)
status_flags =
    (codes "SERVER_STATUS_IN_TRANS", 0x0001) ∷
    (codes "SERVER_STATUS_AUTOCOMMIT", 0x0002) ∷
    (codes "SERVER_MORE_RESULTS_EXISTS", 0x0008) ∷
    (codes "SERVER_STATUS_NO_GOOD_INDEX_USED", 0x0010) ∷
    (codes "SERVER_STATUS_NO_INDEX_USED", 0x0020) ∷
    (codes "SERVER_STATUS_CURSOR_EXISTS", 0x0040) ∷
    (codes "SERVER_STATUS_LAST_ROW_SENT", 0x0080) ∷
    (codes "SERVER_STATUS_DB_DROPPED", 0x0100) ∷
    (codes "SERVER_STATUS_NO_BACKSLASH_ESCAPES", 0x0200) ∷
    (codes "SERVER_STATUS_METADATA_CHANGED", 0x0400) ∷
    (codes "SERVER_QUERY_WAS_SLOW", 0x0800) ∷
    (codes "SERVER_PS_OUT_PARAMS", 0x1000) ∷
    (codes "SERVER_STATUS_IN_TRANS_READONLY", 0x2000) ∷
    (codes "SERVER_SESSION_STATE_CHANGED", 0x4000) ∷
    (codes "SERVER_STATUS_ANSI_QUOTES", 0x8000) ∷
    []

-- the bits that have a name
abbrev pub status_flags_known : ℕ
status_flags_known = 0xfffb

-- they are those of the table
pub status_flags_union : known_bits status_flags ≡ status_flags_known
unfolding known_from
status_flags_union = refl

-- the bits of a set
abbrev pub status_flags_bits : StatusFlags → ℕ
status_flags_bits flags = flags.0

-- the capabilities: <https://dev.mysql.com/doc/dev/mysql-server/latest/group__group__cs__capabilities__flags.html>
abbrev pub capability_flags : List (List ℕ × ℕ)
capability_flags =
    (codes "CLIENT_LONG_PASSWORD", 0x0000_0001) ∷
    (codes "CLIENT_FOUND_ROWS", 0x0000_0002) ∷
    (codes "CLIENT_LONG_FLAG", 0x0000_0004) ∷
    (codes "CLIENT_CONNECT_WITH_DB", 0x0000_0008) ∷
    (codes "CLIENT_NO_SCHEMA", 0x0000_0010) ∷
    (codes "CLIENT_COMPRESS", 0x0000_0020) ∷
    (codes "CLIENT_ODBC", 0x0000_0040) ∷
    (codes "CLIENT_LOCAL_FILES", 0x0000_0080) ∷
    (codes "CLIENT_IGNORE_SPACE", 0x0000_0100) ∷
    (codes "CLIENT_PROTOCOL_41", 0x0000_0200) ∷
    (codes "CLIENT_INTERACTIVE", 0x0000_0400) ∷
    (codes "CLIENT_SSL", 0x0000_0800) ∷
    (codes "CLIENT_IGNORE_SIGPIPE", 0x0000_1000) ∷
    (codes "CLIENT_TRANSACTIONS", 0x0000_2000) ∷
    (codes "CLIENT_RESERVED", 0x0000_4000) ∷
    (codes "CLIENT_SECURE_CONNECTION", 0x0000_8000) ∷
    (codes "CLIENT_MULTI_STATEMENTS", 0x0001_0000) ∷
    (codes "CLIENT_MULTI_RESULTS", 0x0002_0000) ∷
    (codes "CLIENT_PS_MULTI_RESULTS", 0x0004_0000) ∷
    (codes "CLIENT_PLUGIN_AUTH", 0x0008_0000) ∷
    (codes "CLIENT_CONNECT_ATTRS", 0x0010_0000) ∷
    (codes "CLIENT_PLUGIN_AUTH_LENENC_CLIENT_DATA", 0x0020_0000) ∷
    (codes "CLIENT_CAN_HANDLE_EXPIRED_PASSWORDS", 0x0040_0000) ∷
    (codes "CLIENT_SESSION_TRACK", 0x0080_0000) ∷
    (codes "CLIENT_DEPRECATE_EOF", 0x0100_0000) ∷
    (codes "CLIENT_OPTIONAL_RESULTSET_METADATA", 0x0200_0000) ∷
    (codes "CLIENT_ZSTD_COMPRESSION_ALGORITHM", 0x0400_0000) ∷
    (codes "CLIENT_QUERY_ATTRIBUTES", 0x0800_0000) ∷
    (codes "MULTI_FACTOR_AUTHENTICATION", 0x1000_0000) ∷
    (codes "CLIENT_PROGRESS_OBSOLETE", 0x2000_0000) ∷
    (codes "CLIENT_SSL_VERIFY_SERVER_CERT", 0x4000_0000) ∷
    (codes "CLIENT_REMEMBER_OPTIONS", 0x8000_0000) ∷
    []

-- the bits that have a name
abbrev pub capability_flags_known : ℕ
capability_flags_known = 0xffff_ffff

-- they are those of the table
pub capability_flags_union : known_bits capability_flags ≡ capability_flags_known
unfolding known_from
capability_flags_union = refl

-- the bits of a set
abbrev pub capability_flags_bits : CapabilityFlags → ℕ
capability_flags_bits flags = flags.0

-- the capabilities of MariaDB: <https://mariadb.com/kb/en/connection/>
abbrev pub mariadb_capabilities : List (List ℕ × ℕ)
mariadb_capabilities =
    (codes "MARIADB_CLIENT_PROGRESS", 0x0000_0001) ∷
    (codes "MARIADB_CLIENT_RESERVED_1", 0x0000_0002) ∷
    (codes "MARIADB_CLIENT_STMT_BULK_OPERATIONS", 0x0000_0004) ∷
    (codes "MARIADB_CLIENT_EXTENDED_METADATA", 0x0000_0008) ∷
    (codes "MARIADB_CLIENT_CACHE_METADATA", 0x0000_0010) ∷
    (codes "MARIADB_CLIENT_BULK_UNIT_RESULTS", 0x0000_0020) ∷
    []

-- the bits that have a name
abbrev pub mariadb_capabilities_known : ℕ
mariadb_capabilities_known = 0x0000_003f

-- they are those of the table
pub mariadb_capabilities_union : known_bits mariadb_capabilities ≡ mariadb_capabilities_known
unfolding known_from
mariadb_capabilities_union = refl

-- the bits of a set
abbrev pub mariadb_capabilities_bits : MariadbCapabilities → ℕ
mariadb_capabilities_bits flags = flags.0

-- the cursors: <https://dev.mysql.com/doc/dev/mysql-server/latest/page_protocol_com_stmt_execute.html>
abbrev pub cursor_type : List (List ℕ × ℕ)
cursor_type =
    (codes "CURSOR_TYPE_NO_CURSOR", 0x00) ∷
    (codes "CURSOR_TYPE_READ_ONLY", 0x01) ∷
    (codes "CURSOR_TYPE_FOR_UPDATE", 0x02) ∷
    (codes "CURSOR_TYPE_SCROLLABLE", 0x04) ∷
    []

-- the bits that have a name
abbrev pub cursor_type_known : ℕ
cursor_type_known = 0x07

-- they are those of the table
pub cursor_type_union : known_bits cursor_type ≡ cursor_type_known
unfolding known_from
cursor_type_union = refl

-- the bits of a set
abbrev pub cursor_type_bits : CursorType → ℕ
cursor_type_bits flags = flags.0

-- the flags of all parameters: <https://dev.mysql.com/doc/dev/mysql-server/latest/page_protocol_com_stmt_execute.html>
abbrev pub stmt_execute_params_flags : List (List ℕ × ℕ)
stmt_execute_params_flags =
    (codes "NEW_PARAMS_BOUND", 0x01) ∷
    []

-- the bits that have a name
abbrev pub stmt_execute_params_flags_known : ℕ
stmt_execute_params_flags_known = 0x01

-- they are those of the table
pub stmt_execute_params_flags_union : known_bits stmt_execute_params_flags
    ≡ stmt_execute_params_flags_known
unfolding known_from
stmt_execute_params_flags_union = refl

-- the bits of a set
abbrev pub stmt_execute_params_flags_bits : StmtExecuteParamsFlags → ℕ
stmt_execute_params_flags_bits flags = flags.0

-- the flags of one parameter: <https://dev.mysql.com/doc/dev/mysql-server/latest/page_protocol_com_stmt_execute.html>
abbrev pub stmt_execute_param_flags : List (List ℕ × ℕ)
stmt_execute_param_flags =
    (codes "UNSIGNED", 0x80) ∷
    []

-- the bits that have a name
abbrev pub stmt_execute_param_flags_known : ℕ
stmt_execute_param_flags_known = 0x80

-- they are those of the table
pub stmt_execute_param_flags_union : known_bits stmt_execute_param_flags
    ≡ stmt_execute_param_flags_known
unfolding known_from
stmt_execute_param_flags_union = refl

-- the bits of a set
abbrev pub stmt_execute_param_flags_bits : StmtExecuteParamFlags → ℕ
stmt_execute_param_flags_bits flags = flags.0

-- the flags of a bulk execution: <https://mariadb.com/kb/en/com_stmt_bulk_execute/>
abbrev pub stmt_bulk_execute_flags : List (List ℕ × ℕ)
stmt_bulk_execute_flags =
    (codes "SEND_UNIT_RESULTS", 0x0040) ∷
    (codes "SEND_TYPES_TO_SERVER", 0x0080) ∷
    []

-- the bits that have a name
abbrev pub stmt_bulk_execute_flags_known : ℕ
stmt_bulk_execute_flags_known = 0x00c0

-- they are those of the table
pub stmt_bulk_execute_flags_union : known_bits stmt_bulk_execute_flags
    ≡ stmt_bulk_execute_flags_known
unfolding known_from
stmt_bulk_execute_flags_union = refl

-- the bits of a set
abbrev pub stmt_bulk_execute_flags_bits : StmtBulkExecuteFlags → ℕ
stmt_bulk_execute_flags_bits flags = flags.0

-- the flags of a column: <https://dev.mysql.com/doc/dev/mysql-server/latest/group__group__cs__column__definition__flags.html>
abbrev pub column_flags : List (List ℕ × ℕ)
column_flags =
    (codes "NOT_NULL_FLAG", 0x0001) ∷
    (codes "PRI_KEY_FLAG", 0x0002) ∷
    (codes "UNIQUE_KEY_FLAG", 0x0004) ∷
    (codes "MULTIPLE_KEY_FLAG", 0x0008) ∷
    (codes "BLOB_FLAG", 0x0010) ∷
    (codes "UNSIGNED_FLAG", 0x0020) ∷
    (codes "ZEROFILL_FLAG", 0x0040) ∷
    (codes "BINARY_FLAG", 0x0080) ∷
    (codes "ENUM_FLAG", 0x0100) ∷
    (codes "AUTO_INCREMENT_FLAG", 0x0200) ∷
    (codes "TIMESTAMP_FLAG", 0x0400) ∷
    (codes "SET_FLAG", 0x0800) ∷
    (codes "NO_DEFAULT_VALUE_FLAG", 0x1000) ∷
    (codes "ON_UPDATE_NOW_FLAG", 0x2000) ∷
    (codes "PART_KEY_FLAG", 0x4000) ∷
    (codes "NUM_FLAG", 0x8000) ∷
    []

-- the bits that have a name
abbrev pub column_flags_known : ℕ
column_flags_known = 0xffff

-- they are those of the table
pub column_flags_union : known_bits column_flags ≡ column_flags_known
unfolding known_from
column_flags_union = refl

-- the bits of a set
abbrev pub column_flags_bits : ColumnFlags → ℕ
column_flags_bits flags = flags.0

-- the options of a session: <https://mariadb.com/kb/en/query_event/>
abbrev pub flags2 : List (List ℕ × ℕ)
flags2 =
    (codes "OPTION_AUTO_IS_NULL", 0x0000_4000) ∷
    (codes "OPTION_NOT_AUTOCOMMIT", 0x0008_0000) ∷
    (codes "OPTION_NO_FOREIGN_KEY_CHECKS", 0x0400_0000) ∷
    (codes "OPTION_RELAXED_UNIQUE_CHECKS", 0x0800_0000) ∷
    []

-- the bits that have a name
abbrev pub flags2_known : ℕ
flags2_known = 0x0c08_4000

-- they are those of the table
pub flags2_union : known_bits flags2 ≡ flags2_known
unfolding known_from
flags2_union = refl

-- the bits of a set
abbrev pub flags2_bits : Flags2 → ℕ
flags2_bits flags = flags.0

-- the SQL modes: <https://mariadb.com/kb/en/query_event/>
abbrev pub sql_mode : List (List ℕ × ℕ)
sql_mode =
    (codes "MODE_REAL_AS_FLOAT", 0x1) ∷
    (codes "MODE_PIPES_AS_CONCAT", 0x2) ∷
    (codes "MODE_ANSI_QUOTES", 0x4) ∷
    (codes "MODE_IGNORE_SPACE", 0x8) ∷
    (codes "MODE_NOT_USED", 0x10) ∷
    (codes "MODE_ONLY_FULL_GROUP_BY", 0x20) ∷
    (codes "MODE_NO_UNSIGNED_SUBTRACTION", 0x40) ∷
    (codes "MODE_NO_DIR_IN_CREATE", 0x80) ∷
    (codes "MODE_POSTGRESQL", 0x100) ∷
    (codes "MODE_ORACLE", 0x200) ∷
    (codes "MODE_MSSQL", 0x400) ∷
    (codes "MODE_DB2", 0x800) ∷
    (codes "MODE_MAXDB", 0x1000) ∷
    (codes "MODE_NO_KEY_OPTIONS", 0x2000) ∷
    (codes "MODE_NO_TABLE_OPTIONS", 0x4000) ∷
    (codes "MODE_NO_FIELD_OPTIONS", 0x8000) ∷
    (codes "MODE_MYSQL323", 0x1_0000) ∷
    (codes "MODE_MYSQL40", 0x2_0000) ∷
    (codes "MODE_ANSI", 0x4_0000) ∷
    (codes "MODE_NO_AUTO_VALUE_ON_ZERO", 0x8_0000) ∷
    (codes "MODE_NO_BACKSLASH_ESCAPES", 0x10_0000) ∷
    (codes "MODE_STRICT_TRANS_TABLES", 0x20_0000) ∷
    (codes "MODE_STRICT_ALL_TABLES", 0x40_0000) ∷
    (codes "MODE_NO_ZERO_IN_DATE", 0x80_0000) ∷
    (codes "MODE_NO_ZERO_DATE", 0x100_0000) ∷
    (codes "MODE_INVALID_DATES", 0x200_0000) ∷
    (codes "MODE_ERROR_FOR_DIVISION_BY_ZERO", 0x400_0000) ∷
    (codes "MODE_TRADITIONAL", 0x800_0000) ∷
    (codes "MODE_NO_AUTO_CREATE_USER", 0x1000_0000) ∷
    (codes "MODE_HIGH_NOT_PRECEDENCE", 0x2000_0000) ∷
    (codes "MODE_NO_ENGINE_SUBSTITUTION", 0x4000_0000) ∷
    (codes "MODE_PAD_CHAR_TO_FULL_LENGTH", 0x8000_0000) ∷
    (codes "MODE_TIME_TRUNCATE_FRACTIONAL", 0x1_0000_0000) ∷
    (codes "MODE_LAST", 0x2_0000_0000) ∷
    []

-- the bits that have a name
abbrev pub sql_mode_known : ℕ
sql_mode_known = 0x3_ffff_ffff

-- they are those of the table
pub sql_mode_union : known_bits sql_mode ≡ sql_mode_known
unfolding known_from
sql_mode_union = refl

-- the bits of a set
abbrev pub sql_mode_bits : SqlMode → ℕ
sql_mode_bits flags = flags.0

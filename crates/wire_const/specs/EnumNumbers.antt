-- The enums: the number of each value, and how a number becomes a value.
use Rattle.std.specs.Prelude.{ℕ, ℤ, pos, neg_ℤ, ◌≡◌, ◌≢◌, ◌⊎◌, List, [], ◌∷◌, Result, Ok, Err}
use Rattle.wire_const.specs.declared.commands.Command.{Command}
use Rattle.wire_const.specs.declared.commands.Command.TheVariants as command
use Rattle.wire_const.specs.declared.bulk_indicator.MariadbBulkIndicator.{MariadbBulkIndicator}
use Rattle.wire_const.specs.declared.bulk_indicator.MariadbBulkIndicator.TheVariants as indicator
use Rattle.wire_const.specs.declared.session_state.SessionStateType.{SessionStateType}
use Rattle.wire_const.specs.declared.session_state.SessionStateType.TheVariants as state
use Rattle.wire_const.specs.declared.geometry.GeometryType.{GeometryType}
use Rattle.wire_const.specs.declared.geometry.GeometryType.TheVariants as geometry
use Rattle.wire_const.specs.declared.column_type.ColumnType.{ColumnType}
use Rattle.wire_const.specs.declared.column_type.ColumnType.TheVariants as kind
use Rattle.wire_const.specs.declared.item_result.ItemResult.{ItemResult}
use Rattle.wire_const.specs.declared.item_result.ItemResult.TheVariants as item

-- A number becomes the value that has it, exactly where one has; else the error holds it.
abbrev pub ConvertsNumber : {V E N : Type 0} → (V → N) → (E → N) → N → Result V E → Type 0
ConvertsNumber number_of raw_of number (Ok value) = number_of value ≡ number
ConvertsNumber {V = V} number_of raw_of number (Err unknown) =
    ((value : V) → number_of value ≢ number) × (raw_of unknown ≡ number)

-- the value is in the list
abbrev pub IsOneOf : {V : Type 0} → List V → V → Type 0
IsOneOf [] value = ⊥
IsOneOf (first ∷ rest) value = (value ≡ first) ⊎ IsOneOf rest value

-- the commands: <https://dev.mysql.com/doc/dev/mysql-server/latest/my__command_8h.html>
abbrev pub command_number : Command → ℕ
command_number command.COM_SLEEP = 0
command_number command.COM_QUIT = 1
command_number command.COM_INIT_DB = 2
command_number command.COM_QUERY = 3
command_number command.COM_FIELD_LIST = 4
command_number command.COM_CREATE_DB = 5
command_number command.COM_DROP_DB = 6
command_number command.COM_REFRESH = 7
command_number command.COM_DEPRECATED_1 = 8
command_number command.COM_STATISTICS = 9
command_number command.COM_PROCESS_INFO = 10
command_number command.COM_CONNECT = 11
command_number command.COM_PROCESS_KILL = 12
command_number command.COM_DEBUG = 13
command_number command.COM_PING = 14
command_number command.COM_TIME = 15
command_number command.COM_DELAYED_INSERT = 16
command_number command.COM_CHANGE_USER = 17
command_number command.COM_BINLOG_DUMP = 18
command_number command.COM_TABLE_DUMP = 19
command_number command.COM_CONNECT_OUT = 20
command_number command.COM_REGISTER_SLAVE = 21
command_number command.COM_STMT_PREPARE = 22
command_number command.COM_STMT_EXECUTE = 23
command_number command.COM_STMT_SEND_LONG_DATA = 24
command_number command.COM_STMT_CLOSE = 25
command_number command.COM_STMT_RESET = 26
command_number command.COM_SET_OPTION = 27
command_number command.COM_STMT_FETCH = 28
command_number command.COM_DAEMON = 29
command_number command.COM_BINLOG_DUMP_GTID = 30
command_number command.COM_RESET_CONNECTION = 31
command_number command.COM_END = 32
command_number command.COM_STMT_BULK_EXECUTE = 250

-- what stands for a parameter: <https://mariadb.com/kb/en/com_stmt_bulk_execute/>
abbrev pub mariadb_bulk_indicator_number : MariadbBulkIndicator → ℕ
mariadb_bulk_indicator_number indicator.BULK_INDICATOR_NONE = 0
mariadb_bulk_indicator_number indicator.BULK_INDICATOR_NULL = 1
mariadb_bulk_indicator_number indicator.BULK_INDICATOR_DEFAULT = 2
mariadb_bulk_indicator_number indicator.BULK_INDICATOR_IGNORE = 3

-- what changes in a session: <https://dev.mysql.com/doc/dev/mysql-server/latest/page_protocol_basic_ok_packet.html>
abbrev pub session_state_type_number : SessionStateType → ℕ
session_state_type_number state.SESSION_TRACK_SYSTEM_VARIABLES = 0
session_state_type_number state.SESSION_TRACK_SCHEMA = 1
session_state_type_number state.SESSION_TRACK_STATE_CHANGE = 2
session_state_type_number state.SESSION_TRACK_GTIDS = 3
session_state_type_number state.SESSION_TRACK_TRANSACTION_CHARACTERISTICS = 4
session_state_type_number state.SESSION_TRACK_TRANSACTION_STATE = 5

-- the kinds of geometries: <https://dev.mysql.com/doc/refman/8.0/en/gis-data-formats.html>
abbrev pub geometry_type_number : GeometryType → ℕ
geometry_type_number geometry.GEOM_GEOMETRY = 0
geometry_type_number geometry.GEOM_POINT = 1
geometry_type_number geometry.GEOM_LINESTRING = 2
geometry_type_number geometry.GEOM_POLYGON = 3
geometry_type_number geometry.GEOM_MULTIPOINT = 4
geometry_type_number geometry.GEOM_MULTILINESTRING = 5
geometry_type_number geometry.GEOM_MULTIPOLYGON = 6
geometry_type_number geometry.GEOM_GEOMETRYCOLLECTION = 7

-- the types of columns: <https://dev.mysql.com/doc/dev/mysql-server/latest/field__types_8h.html>
abbrev pub column_type_number : ColumnType → ℕ
column_type_number kind.MYSQL_TYPE_DECIMAL = 0
column_type_number kind.MYSQL_TYPE_TINY = 1
column_type_number kind.MYSQL_TYPE_SHORT = 2
column_type_number kind.MYSQL_TYPE_LONG = 3
column_type_number kind.MYSQL_TYPE_FLOAT = 4
column_type_number kind.MYSQL_TYPE_DOUBLE = 5
column_type_number kind.MYSQL_TYPE_NULL = 6
column_type_number kind.MYSQL_TYPE_TIMESTAMP = 7
column_type_number kind.MYSQL_TYPE_LONGLONG = 8
column_type_number kind.MYSQL_TYPE_INT24 = 9
column_type_number kind.MYSQL_TYPE_DATE = 10
column_type_number kind.MYSQL_TYPE_TIME = 11
column_type_number kind.MYSQL_TYPE_DATETIME = 12
column_type_number kind.MYSQL_TYPE_YEAR = 13
column_type_number kind.MYSQL_TYPE_NEWDATE = 14
column_type_number kind.MYSQL_TYPE_VARCHAR = 15
column_type_number kind.MYSQL_TYPE_BIT = 16
column_type_number kind.MYSQL_TYPE_TIMESTAMP2 = 17
column_type_number kind.MYSQL_TYPE_DATETIME2 = 18
column_type_number kind.MYSQL_TYPE_TIME2 = 19
column_type_number kind.MYSQL_TYPE_TYPED_ARRAY = 20
column_type_number kind.MYSQL_TYPE_VECTOR = 242
column_type_number kind.MYSQL_TYPE_UNKNOWN = 243
column_type_number kind.MYSQL_TYPE_JSON = 245
column_type_number kind.MYSQL_TYPE_NEWDECIMAL = 246
column_type_number kind.MYSQL_TYPE_ENUM = 247
column_type_number kind.MYSQL_TYPE_SET = 248
column_type_number kind.MYSQL_TYPE_TINY_BLOB = 249
column_type_number kind.MYSQL_TYPE_MEDIUM_BLOB = 250
column_type_number kind.MYSQL_TYPE_LONG_BLOB = 251
column_type_number kind.MYSQL_TYPE_BLOB = 252
column_type_number kind.MYSQL_TYPE_VAR_STRING = 253
column_type_number kind.MYSQL_TYPE_STRING = 254
column_type_number kind.MYSQL_TYPE_GEOMETRY = 255

-- the results of loadable functions: <https://dev.mysql.com/doc/dev/mysql-server/latest/udf__registration__types_8h.html>
abbrev pub item_result_number : ItemResult → ℤ
item_result_number item.INVALID_RESULT = neg_ℤ (pos 1)
item_result_number item.STRING_RESULT = pos 0
item_result_number item.REAL_RESULT = pos 1
item_result_number item.INT_RESULT = pos 2
item_result_number item.ROW_RESULT = pos 3
item_result_number item.DECIMAL_RESULT = pos 4

-- what `is_numeric_type` is true of
abbrev pub numeric_types : List ColumnType
numeric_types =
    kind.MYSQL_TYPE_TINY ∷ kind.MYSQL_TYPE_SHORT ∷ kind.MYSQL_TYPE_INT24 ∷ kind.MYSQL_TYPE_LONG ∷
    kind.MYSQL_TYPE_LONGLONG ∷ kind.MYSQL_TYPE_DECIMAL ∷ kind.MYSQL_TYPE_NEWDECIMAL ∷
    kind.MYSQL_TYPE_FLOAT ∷ kind.MYSQL_TYPE_DOUBLE ∷ kind.MYSQL_TYPE_YEAR ∷ []

-- what `is_character_type` is true of
abbrev pub character_types : List ColumnType
character_types =
    kind.MYSQL_TYPE_STRING ∷ kind.MYSQL_TYPE_VAR_STRING ∷ kind.MYSQL_TYPE_VARCHAR ∷
    kind.MYSQL_TYPE_BLOB ∷ []

-- what `is_enum_or_set_type` is true of
abbrev pub enum_or_set_types : List ColumnType
enum_or_set_types =
    kind.MYSQL_TYPE_ENUM ∷ kind.MYSQL_TYPE_SET ∷ []

-- The way there and back: the number of a value becomes that value, and no other.
use Rattle.std.proofs.Common.{ℕ, ◌≡◌, Result, Ok, Err, refl, sym, ap, subst, arith}
use Rattle.wire_const.specs.FlagSets.{ConvertsBits, IsKnown, status_flags_bits, capability_flags_bits, mariadb_capabilities_bits, cursor_type_bits, stmt_execute_params_flags_bits, stmt_execute_param_flags_bits, stmt_bulk_execute_flags_bits, column_flags_bits, flags2_bits, sql_mode_bits}
use Rattle.wire_const.specs.EnumNumbers.{ConvertsNumber, mariadb_bulk_indicator_number, session_state_type_number, geometry_type_number, column_type_number, item_result_number}
use Rattle.wire_const.specs.declared.flag_sets.status.StatusFlags.{StatusFlags}
use Rattle.wire_const.specs.declared.flag_sets.capability.CapabilityFlags.{CapabilityFlags}
use Rattle.wire_const.specs.declared.flag_sets.mariadb.MariadbCapabilities.{MariadbCapabilities}
use Rattle.wire_const.specs.declared.flag_sets.execute.CursorType.{CursorType}
use Rattle.wire_const.specs.declared.flag_sets.execute.StmtExecuteParamsFlags.{StmtExecuteParamsFlags}
use Rattle.wire_const.specs.declared.flag_sets.execute.StmtExecuteParamFlags.{StmtExecuteParamFlags}
use Rattle.wire_const.specs.declared.flag_sets.execute.StmtBulkExecuteFlags.{StmtBulkExecuteFlags}
use Rattle.wire_const.specs.declared.flag_sets.column.ColumnFlags.{ColumnFlags}
use Rattle.wire_const.specs.declared.flag_sets.session.Flags2.{Flags2}
use Rattle.wire_const.specs.declared.flag_sets.session.SqlMode.{SqlMode}
use Rattle.wire_const.specs.declared.bulk_indicator.MariadbBulkIndicator.{MariadbBulkIndicator}
use Rattle.wire_const.specs.declared.bulk_indicator.MariadbBulkIndicator.TheVariants as indicator
use Rattle.wire_const.specs.declared.session_state.SessionStateType.{SessionStateType}
use Rattle.wire_const.specs.declared.session_state.SessionStateType.TheVariants as state
use Rattle.wire_const.specs.declared.geometry.GeometryType.{GeometryType}
use Rattle.wire_const.specs.declared.geometry.GeometryType.TheVariants as geometry
use Rattle.wire_const.specs.declared.column_type.ColumnType.{ColumnType}
use Rattle.wire_const.specs.declared.column_type.ColumnType.TheVariants as kind
use Rattle.wire_const.specs.declared.item_result.ItemResult.{ItemResult}
use Rattle.wire_const.specs.declared.item_result.ItemResult.TheVariants as item

-- where no two values have one number, the number of a value becomes that value
pub number_back : {V E N : Type 0} (number_of : V → N) (raw_of : E → N) → ((a b : V) → number_of a ≡ number_of b → a ≡ b)
    → (value : V) (result : Result V E) → ConvertsNumber number_of raw_of (number_of value) result → result ≡ Ok value
number_back number_of raw_of apart value (Ok other) converts = ap (λ v. Ok v) (apart other value converts)
number_back number_of raw_of apart value (Err unknown) converts = absurd (converts.0 value refl)

-- where a set is its bits, the bits of a set of known ones become that set
pub bits_back : {F E : Type 0} (known : ℕ) (bits_of : F → ℕ) (raw_of : E → ℕ) → ((a b : F) → bits_of a ≡ bits_of b → a ≡ b)
    → (flags : F) (result : Result F E) → IsKnown known (bits_of flags) → ConvertsBits known bits_of raw_of (bits_of flags) result → result ≡ Ok flags
bits_back known bits_of raw_of apart flags (Ok other) within converts = ap (λ f. Ok f) (apart other flags converts.1)
bits_back known bits_of raw_of apart flags (Err unknown) within converts = absurd (converts.0 within)

-- the bits of a set that a raw number became are that number, and known
pub known_back : (known bits raw : ℕ) → IsKnown known raw × (bits ≡ raw) → (bits ≡ raw) × IsKnown known bits
known_back known bits raw converts = (converts.1, subst (IsKnown known) (sym converts.1) converts.0)

-- no two values have one number
pub mariadb_bulk_indicator_number_apart : (a b : MariadbBulkIndicator) → mariadb_bulk_indicator_number a ≡ mariadb_bulk_indicator_number b → a ≡ b
mariadb_bulk_indicator_number_apart indicator.BULK_INDICATOR_NONE indicator.BULK_INDICATOR_NONE same = refl
mariadb_bulk_indicator_number_apart indicator.BULK_INDICATOR_NULL indicator.BULK_INDICATOR_NULL same = refl
mariadb_bulk_indicator_number_apart indicator.BULK_INDICATOR_DEFAULT indicator.BULK_INDICATOR_DEFAULT same = refl
mariadb_bulk_indicator_number_apart indicator.BULK_INDICATOR_IGNORE indicator.BULK_INDICATOR_IGNORE same = refl
mariadb_bulk_indicator_number_apart a b same = absurd (omega arith)

pub session_state_type_number_apart : (a b : SessionStateType) → session_state_type_number a ≡ session_state_type_number b → a ≡ b
session_state_type_number_apart state.SESSION_TRACK_SYSTEM_VARIABLES state.SESSION_TRACK_SYSTEM_VARIABLES same = refl
session_state_type_number_apart state.SESSION_TRACK_SCHEMA state.SESSION_TRACK_SCHEMA same = refl
session_state_type_number_apart state.SESSION_TRACK_STATE_CHANGE state.SESSION_TRACK_STATE_CHANGE same = refl
session_state_type_number_apart state.SESSION_TRACK_GTIDS state.SESSION_TRACK_GTIDS same = refl
session_state_type_number_apart state.SESSION_TRACK_TRANSACTION_CHARACTERISTICS state.SESSION_TRACK_TRANSACTION_CHARACTERISTICS same = refl
session_state_type_number_apart state.SESSION_TRACK_TRANSACTION_STATE state.SESSION_TRACK_TRANSACTION_STATE same = refl
session_state_type_number_apart a b same = absurd (omega arith)

pub geometry_type_number_apart : (a b : GeometryType) → geometry_type_number a ≡ geometry_type_number b → a ≡ b
geometry_type_number_apart geometry.GEOM_GEOMETRY geometry.GEOM_GEOMETRY same = refl
geometry_type_number_apart geometry.GEOM_POINT geometry.GEOM_POINT same = refl
geometry_type_number_apart geometry.GEOM_LINESTRING geometry.GEOM_LINESTRING same = refl
geometry_type_number_apart geometry.GEOM_POLYGON geometry.GEOM_POLYGON same = refl
geometry_type_number_apart geometry.GEOM_MULTIPOINT geometry.GEOM_MULTIPOINT same = refl
geometry_type_number_apart geometry.GEOM_MULTILINESTRING geometry.GEOM_MULTILINESTRING same = refl
geometry_type_number_apart geometry.GEOM_MULTIPOLYGON geometry.GEOM_MULTIPOLYGON same = refl
geometry_type_number_apart geometry.GEOM_GEOMETRYCOLLECTION geometry.GEOM_GEOMETRYCOLLECTION same = refl
geometry_type_number_apart a b same = absurd (omega arith)

pub column_type_number_apart : (a b : ColumnType) → column_type_number a ≡ column_type_number b → a ≡ b
column_type_number_apart kind.MYSQL_TYPE_DECIMAL kind.MYSQL_TYPE_DECIMAL same = refl
column_type_number_apart kind.MYSQL_TYPE_TINY kind.MYSQL_TYPE_TINY same = refl
column_type_number_apart kind.MYSQL_TYPE_SHORT kind.MYSQL_TYPE_SHORT same = refl
column_type_number_apart kind.MYSQL_TYPE_LONG kind.MYSQL_TYPE_LONG same = refl
column_type_number_apart kind.MYSQL_TYPE_FLOAT kind.MYSQL_TYPE_FLOAT same = refl
column_type_number_apart kind.MYSQL_TYPE_DOUBLE kind.MYSQL_TYPE_DOUBLE same = refl
column_type_number_apart kind.MYSQL_TYPE_NULL kind.MYSQL_TYPE_NULL same = refl
column_type_number_apart kind.MYSQL_TYPE_TIMESTAMP kind.MYSQL_TYPE_TIMESTAMP same = refl
column_type_number_apart kind.MYSQL_TYPE_LONGLONG kind.MYSQL_TYPE_LONGLONG same = refl
column_type_number_apart kind.MYSQL_TYPE_INT24 kind.MYSQL_TYPE_INT24 same = refl
column_type_number_apart kind.MYSQL_TYPE_DATE kind.MYSQL_TYPE_DATE same = refl
column_type_number_apart kind.MYSQL_TYPE_TIME kind.MYSQL_TYPE_TIME same = refl
column_type_number_apart kind.MYSQL_TYPE_DATETIME kind.MYSQL_TYPE_DATETIME same = refl
column_type_number_apart kind.MYSQL_TYPE_YEAR kind.MYSQL_TYPE_YEAR same = refl
column_type_number_apart kind.MYSQL_TYPE_NEWDATE kind.MYSQL_TYPE_NEWDATE same = refl
column_type_number_apart kind.MYSQL_TYPE_VARCHAR kind.MYSQL_TYPE_VARCHAR same = refl
column_type_number_apart kind.MYSQL_TYPE_BIT kind.MYSQL_TYPE_BIT same = refl
column_type_number_apart kind.MYSQL_TYPE_TIMESTAMP2 kind.MYSQL_TYPE_TIMESTAMP2 same = refl
column_type_number_apart kind.MYSQL_TYPE_DATETIME2 kind.MYSQL_TYPE_DATETIME2 same = refl
column_type_number_apart kind.MYSQL_TYPE_TIME2 kind.MYSQL_TYPE_TIME2 same = refl
column_type_number_apart kind.MYSQL_TYPE_TYPED_ARRAY kind.MYSQL_TYPE_TYPED_ARRAY same = refl
column_type_number_apart kind.MYSQL_TYPE_VECTOR kind.MYSQL_TYPE_VECTOR same = refl
column_type_number_apart kind.MYSQL_TYPE_UNKNOWN kind.MYSQL_TYPE_UNKNOWN same = refl
column_type_number_apart kind.MYSQL_TYPE_JSON kind.MYSQL_TYPE_JSON same = refl
column_type_number_apart kind.MYSQL_TYPE_NEWDECIMAL kind.MYSQL_TYPE_NEWDECIMAL same = refl
column_type_number_apart kind.MYSQL_TYPE_ENUM kind.MYSQL_TYPE_ENUM same = refl
column_type_number_apart kind.MYSQL_TYPE_SET kind.MYSQL_TYPE_SET same = refl
column_type_number_apart kind.MYSQL_TYPE_TINY_BLOB kind.MYSQL_TYPE_TINY_BLOB same = refl
column_type_number_apart kind.MYSQL_TYPE_MEDIUM_BLOB kind.MYSQL_TYPE_MEDIUM_BLOB same = refl
column_type_number_apart kind.MYSQL_TYPE_LONG_BLOB kind.MYSQL_TYPE_LONG_BLOB same = refl
column_type_number_apart kind.MYSQL_TYPE_BLOB kind.MYSQL_TYPE_BLOB same = refl
column_type_number_apart kind.MYSQL_TYPE_VAR_STRING kind.MYSQL_TYPE_VAR_STRING same = refl
column_type_number_apart kind.MYSQL_TYPE_STRING kind.MYSQL_TYPE_STRING same = refl
column_type_number_apart kind.MYSQL_TYPE_GEOMETRY kind.MYSQL_TYPE_GEOMETRY same = refl
column_type_number_apart a b same = absurd (omega arith)

pub item_result_number_apart : (a b : ItemResult) → item_result_number a ≡ item_result_number b → a ≡ b
item_result_number_apart item.INVALID_RESULT item.INVALID_RESULT same = refl
item_result_number_apart item.STRING_RESULT item.STRING_RESULT same = refl
item_result_number_apart item.REAL_RESULT item.REAL_RESULT same = refl
item_result_number_apart item.INT_RESULT item.INT_RESULT same = refl
item_result_number_apart item.ROW_RESULT item.ROW_RESULT same = refl
item_result_number_apart item.DECIMAL_RESULT item.DECIMAL_RESULT same = refl
item_result_number_apart a b same = absurd (cc)

-- a set is its bits
pub status_flags_bits_apart : (a b : StatusFlags) → status_flags_bits a ≡ status_flags_bits b → a ≡ b
status_flags_bits_apart a b same = ap (λ n. record { 0 = n }) same

pub capability_flags_bits_apart : (a b : CapabilityFlags) → capability_flags_bits a ≡ capability_flags_bits b → a ≡ b
capability_flags_bits_apart a b same = ap (λ n. record { 0 = n }) same

pub mariadb_capabilities_bits_apart : (a b : MariadbCapabilities) → mariadb_capabilities_bits a ≡ mariadb_capabilities_bits b → a ≡ b
mariadb_capabilities_bits_apart a b same = ap (λ n. record { 0 = n }) same

pub cursor_type_bits_apart : (a b : CursorType) → cursor_type_bits a ≡ cursor_type_bits b → a ≡ b
cursor_type_bits_apart a b same = ap (λ n. record { 0 = n }) same

pub stmt_execute_params_flags_bits_apart : (a b : StmtExecuteParamsFlags) → stmt_execute_params_flags_bits a ≡ stmt_execute_params_flags_bits b → a ≡ b
stmt_execute_params_flags_bits_apart a b same = ap (λ n. record { 0 = n }) same

pub stmt_execute_param_flags_bits_apart : (a b : StmtExecuteParamFlags) → stmt_execute_param_flags_bits a ≡ stmt_execute_param_flags_bits b → a ≡ b
stmt_execute_param_flags_bits_apart a b same = ap (λ n. record { 0 = n }) same

pub stmt_bulk_execute_flags_bits_apart : (a b : StmtBulkExecuteFlags) → stmt_bulk_execute_flags_bits a ≡ stmt_bulk_execute_flags_bits b → a ≡ b
stmt_bulk_execute_flags_bits_apart a b same = ap (λ n. record { 0 = n }) same

pub column_flags_bits_apart : (a b : ColumnFlags) → column_flags_bits a ≡ column_flags_bits b → a ≡ b
column_flags_bits_apart a b same = ap (λ n. record { 0 = n }) same

pub flags2_bits_apart : (a b : Flags2) → flags2_bits a ≡ flags2_bits b → a ≡ b
flags2_bits_apart a b same = ap (λ n. record { 0 = n }) same

pub sql_mode_bits_apart : (a b : SqlMode) → sql_mode_bits a ≡ sql_mode_bits b → a ≡ b
sql_mode_bits_apart a b same = ap (λ n. record { 0 = n }) same

-- A row in its binary form: what is written of it, which comes back, and what is read of a column.
use Rattle.std.specs.Prelude.{ℕ, ◌≡◌, ◌+◌, List, ◌∷◌, ◌++◌, Result, Ok}
use Rattle.wire_buf.specs.declared.error.WireError.{WireError}
use Rattle.wire_buf.specs.Reading.{Reads}
use Rattle.wire_const.specs.declared.column_type.ColumnType.{ColumnType}
use Rattle.mysql_wire_statements.specs.Bitmaps.{IsSet}
use Rattle.mysql_wire_statements.specs.Values.{form_of, ReadsForm}
use Rattle.mysql_wire_statements.specs.declared.binary_row.BinaryRow.{BinaryRow}
use Rattle.mysql_wire_statements.specs.declared.binary_value.BinaryValue.{BinaryValue}
use Rattle.mysql_wire_statements.specs.declared.binary_value.BinaryValue.TheVariants.{Null}

abbrev pub row_bytes : List ℕ → List ℕ → List ℕ
row_bytes nulls values = 0x00 ∷ (nulls ++ values)

abbrev pub IsRowOf : List ℕ → List ℕ → BinaryRow → Type 0
IsRowOf nulls values row = (row.nulls.0.now ≡ nulls) × (row.values.now ≡ values)

-- the value of the column at this place: NULL where its bit is set, and nothing is eaten; else what
-- its type reads
abbrev pub ReadsColumn : List ℕ → ℕ → ColumnType → List ℕ → Result BinaryValue WireError → List ℕ
    → Type 0
ReadsColumn nulls column column_type old answer new =
    (IsSet nulls (2 + column) → (answer ≡ Ok Null) × (new ≡ old))
    × (¬ (IsSet nulls (2 + column)) → Reads (ReadsForm (form_of column_type)) old answer new)

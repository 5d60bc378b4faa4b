-- The values of a row in its binary form, read one by one.
use Rattle.std.specs.Prelude.{ℕ, ◌≡◌, ◌⊎◌, ◌-◌, true, false, if◌then◌else◌, List, [], ◌∷◌, length, map, slice_get, Option, Some, None, Result, Ok, Err}
use Rattle.std.proofs.Common.{suc}
use Rattle.std.specs.Iterator.{Count, Yields, at_most}
use Rattle.wire_const.specs.declared.column_type.ColumnType.{ColumnType}
use Rattle.mysql_wire_statements.specs.BinaryRows.{ReadsColumn}
use Rattle.mysql_wire_statements.specs.Faults.{error_of}
use Rattle.mysql_wire_statements.specs.declared.binary_fault.BinaryFault.{BinaryFault}
use Rattle.mysql_wire_statements.specs.declared.binary_value.BinaryValue.{BinaryValue}
use Rattle.mysql_wire_statements.specs.declared.binary_values.BinaryValues.{BinaryValues}

-- no column is left, or a value was refused
abbrev pub IsDone : BinaryValues → Type 0
IsDone values = (slice_get values.types.now values.column ≡ None) ⊎ (values.has_refused ≡ true)

-- the type of the next column
abbrev pub IsNext : BinaryValues → ColumnType → Type 0
IsNext values column_type = (slice_get values.types.now values.column ≡ Some column_type)
    × (values.has_refused ≡ false)

-- A value is that of its column, as `BinaryRow::value` reads it. Of what is refused nothing is
-- eaten. At the end nothing changes.
abbrev pub GivesColumn : BinaryValues → Option (Result BinaryValue BinaryFault) → BinaryValues
    → Type 0
GivesColumn old None new = IsDone old × (new ≡ old)
GivesColumn old (Some (Ok value)) new = (column_type : ColumnType) × IsNext old column_type
    × ReadsColumn old.nulls.0.now old.column column_type old.rest.0.now (Ok value) new.rest.0.now
    × (new ≡ record old { column = suc old.column; rest = new.rest })
GivesColumn old (Some (Err fault)) new = (column_type : ColumnType) × IsNext old column_type
    × ((left : List ℕ) × ReadsColumn old.nulls.0.now old.column column_type old.rest.0.now
    (Err (error_of fault)) left)
    × (new ≡ record old { has_refused = true })

-- each value has a column
abbrev pub columns_left : BinaryValues → Count
columns_left values =
    at_most (if values.has_refused then 0 else length values.types.now - values.column)

-- these values came one by one
abbrev pub GivesAll : BinaryValues → List BinaryValue → BinaryValues → Type 0
GivesAll old values new = Yields GivesColumn old (map Ok values) new

-- these are the values of as many columns from this one on, read one after another
abbrev pub ReadsColumns : List ℕ → ℕ → List ColumnType → List ℕ → List BinaryValue → List ℕ
    → Type 0
ReadsColumns nulls column types old [] new = new ≡ old
ReadsColumns nulls column [] old (value ∷ others) new = ⊥
ReadsColumns nulls column (first ∷ types) old (value ∷ others) new = (mid : List ℕ)
    × ReadsColumn nulls column first old (Ok value) mid
    × ReadsColumns nulls (suc column) types mid others new

-- The values of a row, read one by one.
use Rattle.std.specs.Prelude.{ℕ, ◌≡◌, ◌⊎◌, true, false, if◌then◌else◌, List, [], length, map, Option, Some, None, Result, Ok, Err}
use Rattle.std.specs.Iterator.{Count, Yields, at_most}
use Rattle.wire_buf.specs.declared.error.WireError.{WireError}
use Rattle.wire_buf.specs.declared.error.WireError.TheVariants.{UnexpectedEof, Other}
use Rattle.wire_buf.specs.Reading.{Reads, Through}
use Rattle.mysql_wire_queries.specs.TextValues.{value_of, ReadsValue}
use Rattle.mysql_wire_queries.specs.declared.text_row.TextValue.{TextValue}
use Rattle.mysql_wire_queries.specs.declared.text_row.TextFault.{TextFault}
use Rattle.mysql_wire_queries.specs.declared.text_row.TextFault.TheVariants as fault
use Rattle.mysql_wire_queries.specs.declared.text_values.TextValues.{TextValues}

-- the error that a refusal is
abbrev pub error_of : TextFault → WireError
error_of fault.UnexpectedEof = UnexpectedEof
error_of fault.InvalidLength = Other (record {})

-- what a reader of a `TextValue` answers
abbrev pub told : Result TextValue TextFault → Result TextValue WireError
told (Ok value) = Ok value
told (Err fault) = Err (error_of fault)

-- a `TextValue` is read
abbrev pub ReadsTextValue : List ℕ → Result TextValue WireError → ℕ → Type 0
ReadsTextValue input = Through value_of (ReadsValue input)

-- no byte is left, or a value was refused
abbrev pub IsDone : TextValues → Type 0
IsDone values = (values.rest.0.now ≡ []) ⊎ (values.has_refused ≡ true)

-- A value is what its type reads of the bytes in front, and leaves what that leaves. Of what it
-- refuses nothing is eaten. At the end nothing changes.
abbrev pub GivesValue : TextValues → Option (Result TextValue TextFault) → TextValues → Type 0
GivesValue old None new = IsDone old × (new.rest.0.now ≡ old.rest.0.now)
    × (new.has_refused ≡ old.has_refused)
GivesValue old (Some (Ok value)) new = ¬ (IsDone old) × (new.has_refused ≡ false)
    × Reads ReadsTextValue old.rest.0.now (Ok value) new.rest.0.now
GivesValue old (Some (Err fault)) new = ¬ (IsDone old) × (new.has_refused ≡ true)
    × (new.rest.0.now ≡ old.rest.0.now)
    × ((left : List ℕ) × Reads ReadsTextValue old.rest.0.now (Err (error_of fault)) left)

-- each value has a byte, so no more come than there are bytes
abbrev pub values_left : TextValues → Count
values_left values =
    at_most (if values.has_refused then 0 else length values.rest.0.now)

-- these values came one by one
abbrev pub GivesAll : TextValues → List TextValue → TextValues → Type 0
GivesAll old values new = Yields GivesValue old (map Ok values) new

-- no value follows: the bytes end, which in a row is an end of input, or the next is refused so
abbrev pub RefusesAs : TextValues → WireError → Type 0
RefusesAs values error = ((values.rest.0.now ≡ []) × (error ≡ UnexpectedEof))
    ⊎ ((fault : TextFault) × (new : TextValues) × GivesValue values (Some (Err fault)) new
    × (error ≡ error_of fault))

-- as many values were passed over, and these bytes are left
pub record PassesTo (old : TextValues) (count : ℕ) (bytes : List ℕ) : Type 0 where
  pub values : List TextValue
  pub counted : length values ≡ count
  pub left : TextValues
  pub given : GivesAll old values left
  pub left_is : left.rest.0.now ≡ bytes
  pub goes : left.has_refused ≡ old.has_refused

-- the same of what gave them
abbrev pub Passes : TextValues → ℕ → TextValues → Type 0
Passes old count new = PassesTo old count new.rest.0.now × (new.has_refused ≡ old.has_refused)

-- no value comes next: the bytes end, one was refused, or the next one is
abbrev pub NoneFollows : TextValues → Type 0
NoneFollows values = IsDone values
    ⊎ ((fault : TextFault) × ((new : TextValues) × GivesValue values (Some (Err fault)) new))

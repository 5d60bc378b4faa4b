-- Values in their binary form.
use Rattle.std.specs.Prelude.{ℕ, ◌≡◌, ◌≢◌, ◌<◌, ◌^◌, ◌⊎◌, List, [], ◌∷◌, ◌++◌, length, take, Option, Some, None, Result, Ok, Err, nat_lt, if◌then◌else◌, MatchOption}
use Rattle.wire_buf.specs.declared.error.WireError.{WireError}
use Rattle.wire_buf.specs.declared.error.WireError.TheVariants.{UnexpectedEof, InvalidData, Other}
use Rattle.wire_buf.specs.declared.error.InvalidReason.TheVariants.{UnknownValue}
use Rattle.wire_buf.specs.Lenenc.{IsLenencOrMark, lenenc_bytes}
use Rattle.wire_buf.specs.Numbers.{le_number, le_bytes}
use Rattle.wire_repr.specs.Texts.{IsText}
use Rattle.wire_buf.specs.Reading.{Answers}
use Rattle.wire_buf.specs.Spelling.{EatsSpelling}
use Rattle.wire_forms.specs.Spelled.{Leaves, NumberOrEof, TextBehind}
use Rattle.wire_const.specs.declared.column_type.ColumnType.{ColumnType}
use Rattle.wire_const.specs.declared.column_type.ColumnType.TheVariants as kind
use Rattle.mysql_wire_statements.specs.TemporalValues.{date_bytes, time_bytes, ReadsDate, ReadsTime}
use Rattle.mysql_wire_statements.specs.TemporalValuesBack.{IsDate, IsTime}
use Rattle.mysql_wire_statements.specs.declared.temporal.BinaryDate.{BinaryDate}
use Rattle.mysql_wire_statements.specs.declared.temporal.BinaryTime.{BinaryTime}
use Rattle.mysql_wire_statements.specs.declared.binary_value.BinaryValue.{BinaryValue}
use Rattle.mysql_wire_statements.specs.declared.binary_value.BinaryValue.TheVariants as value
use Rattle.mysql_wire_statements.specs.declared.binary_value.ValueForm.{ValueForm}
use Rattle.mysql_wire_statements.specs.declared.binary_value.ValueForm.TheVariants as form

-- how the values of each type are written
abbrev pub form_of : ColumnType → ValueForm
form_of kind.MYSQL_TYPE_DECIMAL = form.Text
form_of kind.MYSQL_TYPE_TINY = form.Tiny
form_of kind.MYSQL_TYPE_SHORT = form.Short
form_of kind.MYSQL_TYPE_LONG = form.Long
form_of kind.MYSQL_TYPE_FLOAT = form.Float
form_of kind.MYSQL_TYPE_DOUBLE = form.Double
form_of kind.MYSQL_TYPE_NULL = form.Null
form_of kind.MYSQL_TYPE_TIMESTAMP = form.Date
form_of kind.MYSQL_TYPE_LONGLONG = form.LongLong
form_of kind.MYSQL_TYPE_INT24 = form.Long
form_of kind.MYSQL_TYPE_DATE = form.Date
form_of kind.MYSQL_TYPE_TIME = form.Time
form_of kind.MYSQL_TYPE_DATETIME = form.Date
form_of kind.MYSQL_TYPE_YEAR = form.Short
form_of kind.MYSQL_TYPE_NEWDATE = form.Unsent
form_of kind.MYSQL_TYPE_VARCHAR = form.Text
form_of kind.MYSQL_TYPE_BIT = form.Text
form_of kind.MYSQL_TYPE_TIMESTAMP2 = form.Unsent
form_of kind.MYSQL_TYPE_DATETIME2 = form.Unsent
form_of kind.MYSQL_TYPE_TIME2 = form.Unsent
form_of kind.MYSQL_TYPE_TYPED_ARRAY = form.Unsent
form_of kind.MYSQL_TYPE_VECTOR = form.Text
form_of kind.MYSQL_TYPE_UNKNOWN = form.Unsent
form_of kind.MYSQL_TYPE_JSON = form.Text
form_of kind.MYSQL_TYPE_NEWDECIMAL = form.Text
form_of kind.MYSQL_TYPE_ENUM = form.Text
form_of kind.MYSQL_TYPE_SET = form.Text
form_of kind.MYSQL_TYPE_TINY_BLOB = form.Text
form_of kind.MYSQL_TYPE_MEDIUM_BLOB = form.Text
form_of kind.MYSQL_TYPE_LONG_BLOB = form.Text
form_of kind.MYSQL_TYPE_BLOB = form.Text
form_of kind.MYSQL_TYPE_VAR_STRING = form.Text
form_of kind.MYSQL_TYPE_STRING = form.Text
form_of kind.MYSQL_TYPE_GEOMETRY = form.Text

-- neither a date nor a time, and no text
abbrev pub IsPlain : ValueForm → Type 0
IsPlain form.Date = ⊥
IsPlain form.Time = ⊥
IsPlain form.Text = ⊥
IsPlain other = Unit {0}

-- ---- what is written

abbrev pub value_bytes : BinaryValue → List ℕ
value_bytes value.Null = []
value_bytes (value.Tiny n) = n ∷ []
value_bytes (value.Short n) = le_bytes 2 n
value_bytes (value.Long n) = le_bytes 4 n
value_bytes (value.LongLong n) = le_bytes 8 n
value_bytes (value.Float n) = le_bytes 4 n
value_bytes (value.Double n) = le_bytes 8 n
value_bytes (value.Date date) = date_bytes date
value_bytes (value.Time time) = time_bytes time
value_bytes (value.Text text) = lenenc_bytes (length text.now) ++ text.now

-- the form in which it is written
abbrev pub written_form : BinaryValue → ValueForm
written_form value.Null = form.Null
written_form (value.Tiny n) = form.Tiny
written_form (value.Short n) = form.Short
written_form (value.Long n) = form.Long
written_form (value.LongLong n) = form.LongLong
written_form (value.Float n) = form.Float
written_form (value.Double n) = form.Double
written_form (value.Date date) = form.Date
written_form (value.Time time) = form.Time
written_form (value.Text text) = form.Text

-- its numbers are those of their types
abbrev pub IsValue : BinaryValue → Type 0
IsValue value.Null = Unit {0}
IsValue (value.Tiny n) = n < 2 ^ 8
IsValue (value.Short n) = n < 2 ^ 16
IsValue (value.Long n) = n < 2 ^ 32
IsValue (value.LongLong n) = n < 2 ^ 64
IsValue (value.Float n) = n < 2 ^ 32
IsValue (value.Double n) = n < 2 ^ 64
IsValue (value.Date date) = IsDate date
IsValue (value.Time time) = IsTime time
IsValue (value.Text text) = IsText text.now

-- the same value, of texts the same bytes
abbrev pub SameValue : BinaryValue → BinaryValue → Type 0
SameValue (value.Text text) (value.Text back) = back.now ≡ text.now
SameValue (value.Text text) other = ⊥
SameValue value back = back ≡ value

-- ---- what is read

abbrev pub date_of : BinaryValue → Option BinaryDate
date_of (value.Date date) = Some date
date_of other = None

abbrev pub time_of : BinaryValue → Option BinaryTime
time_of (value.Time time) = Some time
time_of other = None

abbrev pub text_of : BinaryValue → Option (List ℕ)
text_of (value.Text text) = Some text.now
text_of other = None

-- what is said of the answer, where the value that is answered has this part
abbrev pub OnPart : {X : Type 0} → (BinaryValue → Option X)
    → (Result X WireError → ℕ → Type 0) → Result BinaryValue WireError → ℕ → Type 0
OnPart part says (Ok value) eaten = MatchOption (part value) ⊥ (λ x. says (Ok x) eaten)
OnPart part says (Err error) eaten = says (Err error) eaten

-- a number of this many bytes; fewer are an end of input, and then nothing is eaten
abbrev pub number_at : ℕ → (ℕ → BinaryValue) → List ℕ → Result BinaryValue WireError × ℕ
number_at count value input = if nat_lt (length input) count then (Err UnexpectedEof, 0)
    else (Ok (value (le_number (take count input))), count)

-- fb and ff begin no length, and nothing is eaten; else a length is read, and the text after it
abbrev pub ReadsText : List ℕ → Result (List ℕ) WireError → ℕ → Type 0
ReadsText input answer eaten =
    ((take 1 input ≡ 0xfb ∷ []) × Answers (Err (Other (record {})), 0) answer eaten)
    ⊎ ((take 1 input ≡ 0xff ∷ []) × Answers (Err (Other (record {})), 0) answer eaten)
    ⊎ ((take 1 input ≢ 0xfb ∷ []) × (take 1 input ≢ 0xff ∷ [])
    × Leaves (TextBehind (NumberOrEof IsLenencOrMark 1)) input answer eaten)

-- a value of this form
abbrev pub ReadsForm : ValueForm → List ℕ → Result BinaryValue WireError → ℕ → Type 0
ReadsForm form.Null input = Answers (Ok value.Null, 0)
ReadsForm form.Tiny input = Answers (number_at 1 value.Tiny input)
ReadsForm form.Short input = Answers (number_at 2 value.Short input)
ReadsForm form.Long input = Answers (number_at 4 value.Long input)
ReadsForm form.LongLong input = Answers (number_at 8 value.LongLong input)
ReadsForm form.Float input = Answers (number_at 4 value.Float input)
ReadsForm form.Double input = Answers (number_at 8 value.Double input)
ReadsForm form.Date input = OnPart date_of (ReadsDate input)
ReadsForm form.Time input = OnPart time_of (ReadsTime input)
ReadsForm form.Text input = OnPart text_of (ReadsText input)
ReadsForm form.Unsent input = Answers (Err (InvalidData UnknownValue), 0)

-- a length that is read at the front is spelled in the shortest form
abbrev pub HasShortLength : List ℕ → Type 0
HasShortLength input = (len : ℕ) (rest : List ℕ) → EatsSpelling IsLenencOrMark input len rest
    → input ≡ lenenc_bytes len ++ rest

-- so is that of a value of this form, if it has one
abbrev pub IsShortest : ValueForm → List ℕ → Type 0
IsShortest form.Text input = HasShortLength input
IsShortest other input = Unit {0}

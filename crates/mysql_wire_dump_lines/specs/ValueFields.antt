-- The fields of rows: their values, by their places.
use Rattle.fast_float.specs.Parse.{parse_float}
use Rattle.ryu.specs.Plain.{IsPlainNumber, word_of}
use Rattle.std.specs.Float.{Float, Format, binary32, binary64, float_is_finite}
use Rattle.std.specs.Fmt.{decimal}
use Rattle.std.specs.Prelude.{◌≡◌, ◌≢◌, ◌<◌, ◌⊎◌, ℕ, ◌+◌, Bool, true, false, from_bits, List, [], ◌∷◌, ◌++◌, codes, length, get_or, take, drop, Option, Some, None, Ok, Err}
use Rattle.wire_buf.specs.Reading.{Reads}
use Rattle.wire_buf.specs.declared.error.WireError.{WireError}
use Rattle.wire_const.specs.declared.column_type.ColumnType.{ColumnType}
use Rattle.wire_const.specs.declared.column_type.ColumnType.TheVariants.{MYSQL_TYPE_UNKNOWN}
use Rattle.wire_const.specs.EnumNumbers.{column_type_number}
use Rattle.mysql_wire_queries.specs.TextValues.{ReadsValue}
use Rattle.mysql_wire_statements.specs.Bitmaps.{IsSet}
use Rattle.mysql_wire_statements.specs.Values.{ReadsForm, form_of}
use Rattle.mysql_wire_statements.specs.declared.binary_row.BinaryRow.{BinaryRow}
use Rattle.mysql_wire_statements.specs.declared.binary_value.BinaryValue.{BinaryValue}
use Rattle.mysql_wire_statements.specs.declared.binary_value.BinaryValue.TheVariants as binary
use Rattle.std.specs.Io.KnownBytes.{Appends}
use Rattle.wire_text.specs.Parts.{IsEnd, WritesMember}
use Rattle.wire_text.specs.Fields.{Member, Null, Number, Octets, Printed, Value, Puts, Word, Words, Written}
use Rattle.mysql_wire_session.specs.Refusals.{refusal_of_wire}
use Rattle.mysql_wire_session.specs.declared.refusal.Refusal.{Refusal}
use Rattle.mysql_wire_session.specs.declared.refusal.Refusal.TheVariants.{TrailingBytes}
use Rattle.mysql_wire_dump_lines.specs.TemporalTexts.{date_text, time_text}

abbrev pub text_shown : Option (List ℕ) → Value
text_shown None = Null
text_shown (Some text) = Words text

-- a text stands in front of these bytes, and is this field; after it stand these
pub record IsTextAt (place : ℕ) (bytes : List ℕ) (member : Member) (behind : List ℕ) : Type 0
  where
    pub value : Option (List ℕ)
    pub eaten : ℕ
    pub reads : ReadsValue bytes (Ok value) eaten
    pub behind_is : behind ≡ drop eaten bytes
    pub member_is : member ≡ (decimal place, text_shown value)

-- these are the texts that stand one after another in front of these bytes, from this place of a
-- row on; after them stands the rest
abbrev pub AreTexts : ℕ → List ℕ → List Member → List ℕ → Type 0
AreTexts place bytes [] rest = rest ≡ bytes
AreTexts place bytes (member ∷ members) rest =
    (behind : List ℕ) × (IsTextAt place bytes member behind
    × AreTexts (place + 1) behind members rest)

-- the text in front of these bytes is refused
pub record IsNoText (bytes : List ℕ) (refusal : Refusal) : Type 0 where
  pub error : WireError
  pub eaten : ℕ
  pub reads : ReadsValue bytes (Err error) eaten
  pub named : refusal_of_wire error ≡ Ok refusal

-- all columns of a row were read, and no byte is left; or the next one's text is refused, or bytes
-- stand after the last
abbrev pub EndsRow : ℕ → Option Refusal → List Member → List ℕ → Type 0
EndsRow columns None members rest = (length members ≡ columns) × (rest ≡ [])
EndsRow columns (Some refusal) members rest =
    ((length members < columns) × IsNoText rest refusal)
    ⊎ ((length members ≡ columns) × (rest ≢ []) × (refusal ≡ TrailingBytes))

-- the values of a row of texts were put, up to where it was refused
pub record PutsTexts (columns : ℕ) (payload : List ℕ) (refusal : Option Refusal)
    (old new : Written) : Type 0 where
  pub members : List Member
  pub rest : List ℕ
  pub are : AreTexts 0 payload members rest
  pub ends : EndsRow columns refusal members rest
  pub puts : Puts members old new

-- the texts up to this place were put; with those after them they are those of the payload
pub record TextsSoFar (place : ℕ) (payload bytes : List ℕ) (start now : Written) : Type 0 where
  pub before : List Member
  pub count : length before ≡ place
  pub puts : Puts before start now
  pub goes : (members : List Member) (rest : List ℕ) → AreTexts place bytes members rest
      → AreTexts 0 payload (before ++ members) rest

-- a text was put, or refused
abbrev pub PutsText : ℕ → List ℕ → List ℕ → Option Refusal → Written → Written → Type 0
PutsText place bytes rest None old new =
    (member : Member) × (IsTextAt place bytes member rest × Puts (member ∷ []) old new)
PutsText place bytes rest (Some refusal) old new = IsNoText bytes refusal × (new ≡ old)

-- a text was put, of which all but an end may have been written; or refused
abbrev pub WritesText : ℕ → List ℕ → List ℕ → Option Refusal → Written → Written
    → (before now : Option (List ℕ)) → Type 0
WritesText place bytes rest None old new before now =
    (member : Member) × (IsTextAt place bytes member rest × WritesMember member old new before now)
WritesText place bytes rest (Some refusal) old new before now =
    IsNoText bytes refusal × (new ≡ old) × (now ≡ before)

-- the values of a row of texts were put, of which all but an end may have been written
pub record WritesTexts (columns : ℕ) (payload : List ℕ) (refusal : Option Refusal)
    (old new : Written) (before now : Option (List ℕ)) : Type 0 where
  pub whole : Written
  pub written : List ℕ
  pub puts : PutsTexts columns payload refusal old whole
  pub appended : Appends before now written
  pub ends : IsEnd written whole new

-- a number whose digits read back as the float, and no definition says which they are; or a word
abbrev pub IsFloatIf : Bool → Format → Float → Value → Type 0
IsFloatIf true format float shown =
    (digits : List ℕ) × (IsPlainNumber digits × ((parse_float format digits ≡ Some float)
    × (shown ≡ Printed digits)))
IsFloatIf false format float shown = shown ≡ Word (word_of float)

abbrev pub IsFloat : Format → ℕ → Value → Type 0
IsFloat format bits shown =
    IsFloatIf (float_is_finite (from_bits format bits)) format (from_bits format bits) shown

abbrev pub PutsFloat : Format → ℕ → ℕ → Written → Written → Type 0
PutsFloat format bits place old new =
    (shown : Value) × (IsFloat format bits shown × Puts ((decimal place, shown) ∷ []) old new)

-- how a value in its binary form is shown
abbrev pub IsShownAs : BinaryValue → Value → Type 0
IsShownAs binary.Null shown = shown ≡ Null
IsShownAs (binary.Tiny number) shown = shown ≡ Number number
IsShownAs (binary.Short number) shown = shown ≡ Number number
IsShownAs (binary.Long number) shown = shown ≡ Number number
IsShownAs (binary.LongLong number) shown = shown ≡ Number number
IsShownAs (binary.Float bits) shown = IsFloat binary32 bits shown
IsShownAs (binary.Double bits) shown = IsFloat binary64 bits shown
IsShownAs (binary.Date date) shown = shown ≡ Word (date_text date)
IsShownAs (binary.Time time) shown = shown ≡ Word (time_text time)
IsShownAs (binary.Text text) shown = shown ≡ Words text.now

-- a value of this form was put at this place
abbrev pub PutsShown : ℕ → BinaryValue → Written → Written → Type 0
PutsShown place value old new =
    (shown : Value) × (IsShownAs value shown × Puts ((decimal place, shown) ∷ []) old new)

-- the type of a column that is told by this number, where one is
abbrev pub IsTypeOf : ℕ → ColumnType → Type 0
IsTypeOf number type = (column_type_number type ≡ number)
    ⊎ (((other : ColumnType) → column_type_number other ≢ number) × (type ≡ MYSQL_TYPE_UNKNOWN))

-- the value of the column at this place, whose type has this number
pub record IsValueAt (nulls : List ℕ) (place number : ℕ) (bytes : List ℕ) (value : BinaryValue)
    (rest : List ℕ) : Type 0 where
  pub null : IsSet nulls (2 + place) → (value ≡ binary.Null) × (rest ≡ bytes)
  pub there : (IsSet nulls (2 + place) → ⊥) → (type : ColumnType) × (IsTypeOf number type
      × Reads (ReadsForm (form_of type)) bytes (Ok value) rest)

-- and it is this field
pub record IsColumnAt (nulls : List ℕ) (place number : ℕ) (bytes : List ℕ) (member : Member)
    (rest : List ℕ) : Type 0 where
  pub value : BinaryValue
  pub shown : Value
  pub is : IsValueAt nulls place number bytes value rest
  pub is_shown : IsShownAs value shown
  pub member_is : member ≡ (decimal place, shown)

-- the value of the column at this place, whose type has this number, is refused
pub record IsNoValueAt (nulls : List ℕ) (place number : ℕ) (bytes : List ℕ) (refusal : Refusal)
    : Type 0 where
  pub there : IsSet nulls (2 + place) → ⊥
  pub type : ColumnType
  pub is_type : IsTypeOf number type
  pub error : WireError
  pub eaten : ℕ
  pub reads : ReadsForm (form_of type) bytes (Err error) eaten
  pub named : refusal_of_wire error ≡ Ok refusal

-- it was put, or refused
abbrev pub PutsColumn : List ℕ → ℕ → ℕ → List ℕ → List ℕ → Option Refusal → Written → Written
    → Type 0
PutsColumn nulls place number bytes rest None old new =
    (member : Member) × (IsColumnAt nulls place number bytes member rest
    × Puts (member ∷ []) old new)
PutsColumn nulls place number bytes rest (Some refusal) old new =
    IsNoValueAt nulls place number bytes refusal × (new ≡ old)

-- these are the values of columns of these types, from this place of a row on
abbrev pub AreValues : List ℕ → ℕ → List ℕ → List ℕ → List Member → List ℕ → Type 0
AreValues nulls place [] bytes [] rest = rest ≡ bytes
AreValues nulls place [] bytes (member ∷ members) rest = ⊥
AreValues nulls place (number ∷ types) bytes [] rest = ⊥
AreValues nulls place (number ∷ types) bytes (member ∷ members) rest =
    (behind : List ℕ) × (IsColumnAt nulls place number bytes member behind
    × AreValues nulls (place + 1) types behind members rest)

-- bytes after the last value
abbrev pub rest_if : Option Refusal → List ℕ → List Member
rest_if None [] = []
rest_if None (byte ∷ bytes) = (codes "rest", Octets (byte ∷ bytes)) ∷ []
rest_if (Some refusal) rest = []

-- the row's bytes, where the types of its columns are not known
abbrev pub row_bytes_fields : BinaryRow → List Member
row_bytes_fields row =
    (codes "null_bitmap", Octets row.nulls.0.now) ∷ (codes "values", Octets row.values.now) ∷ []

-- all values of a row were read; or those before the one that is refused
abbrev pub AreRowValues : BinaryRow → List ℕ → Option Refusal → List Member → List ℕ → Type 0
AreRowValues row types None members rest =
    AreValues row.nulls.0.now 0 types row.values.now members rest
AreRowValues row types (Some refusal) members rest =
    (count : ℕ) × (count < length types)
    × AreValues row.nulls.0.now 0 (take count types) row.values.now members rest
    × IsNoValueAt row.nulls.0.now count (get_or types count 0) rest refusal

-- the values of a row were put, up to where it was refused, and what stands after the last
pub record PutsValues (types : List ℕ) (row : BinaryRow) (refusal : Option Refusal)
    (old new : Written) : Type 0 where
  pub members : List Member
  pub rest : List ℕ
  pub are : AreRowValues row types refusal members rest
  pub puts : Puts (members ++ rest_if refusal rest) old new

abbrev pub PutsRow : ℕ → List ℕ → BinaryRow → Option Refusal → Written → Written → Type 0
PutsRow columns types row refusal old new =
    ((length types ≡ columns) × PutsValues types row refusal old new)
    ⊎ ((length types ≢ columns) × ((refusal ≡ None) × Puts (row_bytes_fields row) old new))

-- the fields of a row: its values, or those before the one that is refused; or its bytes
abbrev pub AreRowFields : ℕ → List ℕ → BinaryRow → Option Refusal → List Member → Type 0
AreRowFields columns types row refusal members =
    ((length types ≡ columns) × ((values : List Member) × ((rest : List ℕ)
    × (AreRowValues row types refusal values rest × (members ≡ values ++ rest_if refusal rest)))))
    ⊎ ((length types ≢ columns) × ((refusal ≡ None) × (members ≡ row_bytes_fields row)))

-- Fields that are there, or not.
use Rattle.std.specs.Prelude.{List, [], ◌∷◌, ◌++◌, Option, Some, None}
use Rattle.wire_text.specs.declared.fields.Field.{Field}
use Rattle.wire_text.specs.declared.fields.Field.TheVariants as field
use Rattle.wire_text.specs.Fields.{Flags, Member, Number, Octets, Words}

-- a field, where its value is there
abbrev pub row_if : {X : Type 0} → (X → Member) → Option X → List Member
row_if row (Some value) = row value ∷ []
row_if row None = []

-- a field, where there is one
abbrev pub members_in : Field → List Member
members_in (field.Number name number) = (name.now, Number number) ∷ []
members_in (field.Flags name bits) = (name.now, Flags bits) ∷ []
members_in (field.Text name text) = (name.now, Words text.now) ∷ []
members_in (field.Bytes name bytes) = (name.now, Octets bytes.now) ∷ []
members_in field.Missing = []

-- fields in their order
abbrev pub members_of : List Field → List Member
members_of [] = []
members_of (field ∷ fields) = members_in field ++ members_of fields

-- The text of fields.
use Rattle.std.specs.Fmt.{decimal, digits}
use Rattle.std.specs.List.{flat_map, list_all}
use Rattle.std.specs.Prelude.{◌≡◌, ◌==◌, ◌&&◌, ◌<◌, ⊤, ℕ, nat_le, nat_lt, Bool, true, false, not, List, [], ◌∷◌, ◌++◌, Option, Some, None, codes, if◌then◌else◌}
use Rattle.std.specs.Str.{is_utf8}
use Rattle.hex.specs.Hex.{encode_lower}
use Rattle.json.specs.Print.{escape_letter, quoted}
use Rattle.wire_text.specs.declared.fields.FieldForm.{FieldForm}
use Rattle.wire_text.specs.declared.fields.FieldForm.TheVariants.{Hidden, Text, Json}
use Rattle.wire_text.specs.declared.members.FieldValue.{FieldValue}
use Rattle.wire_text.specs.declared.members.FieldValue.TheVariants as given
use Rattle.wire_text.specs.declared.members.MemberForm.{MemberForm}
use Rattle.wire_text.specs.declared.members.MemberForm.TheVariants as member

-- the value of a field: `Printed` is the text of a number, `Word` a word that stands in quotes as it
-- is
pub data Value : Type 0 where
  Null : Value
  Number : ℕ → Value
  Flags : ℕ → Value
  Words : List ℕ → Value
  Octets : List ℕ → Value
  Printed : List ℕ → Value
  Word : List ℕ → Value

-- a field: its name, and its value
abbrev pub Member : Type 0
Member = List ℕ × Value

abbrev pub in_quotes : List ℕ → List ℕ
in_quotes text = codes "\"" ++ text ++ codes "\""

-- bytes, of which these are the digits
abbrev pub digits_text : MemberForm → List ℕ → List ℕ
digits_text member.Text digits = codes "x'" ++ digits ++ codes "'"
digits_text member.Json digits = codes "{\"hex\":\"" ++ digits ++ codes "\"}"

-- bytes in hex digits
abbrev pub octets_text : MemberForm → List ℕ → List ℕ
octets_text form octets = digits_text form (encode_lower octets)

-- the letter of a byte's escape: `u` where that is in hex digits, 0 where there is none
abbrev pub escape_mark : ℕ → ℕ
escape_mark byte =
    if nat_lt 0 (escape_letter byte) then escape_letter byte else if nat_lt byte 32 then 117 else 0

-- a byte that needs no escape where JSON quotes it
abbrev pub needs_no_escape : ℕ → Bool
needs_no_escape byte = not (byte == 34) && not (byte == 92) && nat_le 32 byte

abbrev pub needs_escape : ℕ → Bool
needs_escape byte = not (needs_no_escape byte)

abbrev pub none_needs_escape : List ℕ → Bool
none_needs_escape = list_all needs_no_escape

-- a letter of ASCII that needs none
abbrev pub plain : ℕ → Bool
plain byte = needs_no_escape byte && nat_lt byte 128

abbrev pub all_plain : List ℕ → Bool
all_plain = list_all plain

-- letters of ASCII
abbrev pub AreLetters : List ℕ → Type 0
AreLetters [] = ⊤
AreLetters (byte ∷ bytes) = (byte < 128) × AreLetters bytes

abbrev pub in_ascii : ℕ → Bool
in_ascii byte = nat_lt byte 128

abbrev pub over_ascii : ℕ → Bool
over_ascii byte = not (in_ascii byte)

abbrev pub all_ascii : List ℕ → Bool
all_ascii = list_all in_ascii

-- the first byte of a letter of three bytes, after which any two others may follow
abbrev pub begins_three : ℕ → Bool
begins_three byte = (nat_le 225 byte && nat_le byte 239) && not (byte == 237)

-- a later byte of a letter
abbrev pub goes_on : ℕ → Bool
goes_on byte = nat_le 128 byte && nat_le byte 191

-- letters of three bytes each
abbrev pub are_wide : List ℕ → Bool
are_wide [] = true
are_wide (first ∷ []) = false
are_wide (first ∷ second ∷ []) = false
are_wide (first ∷ second ∷ third ∷ others) =
    (begins_three first && goes_on second && goes_on third) && are_wide others

-- a text as JSON quotes it, where the bytes are one
abbrev pub words_text : MemberForm → List ℕ → List ℕ
words_text form octets = if is_utf8 octets then quoted octets else octets_text form octets

abbrev pub flags_text : MemberForm → ℕ → List ℕ
flags_text member.Text bits = codes "0x" ++ digits 16 false bits
flags_text member.Json bits = decimal bits

abbrev pub value_text : MemberForm → Value → List ℕ
value_text form Null = codes "null"
value_text form (Number number) = decimal number
value_text form (Flags bits) = flags_text form bits
value_text form (Words octets) = words_text form octets
value_text form (Octets octets) = octets_text form octets
value_text form (Printed number) = number
value_text form (Word word) = in_quotes word

abbrev pub line : Member → List ℕ
line (name, value) = codes "\n  " ++ name ++ codes " " ++ value_text member.Text value

abbrev pub pair : Member → List ℕ
pair (name, value) = codes "\"" ++ name ++ codes "\":" ++ value_text member.Json value

-- the text of a packet's fields: a line for each, or an object of JSON
abbrev pub fields_text : FieldForm → List Member → List ℕ
fields_text Hidden members = []
fields_text Text members = flat_map line members
fields_text Json [] = []
fields_text Json (first ∷ others) =
    codes ",\"fields\":{" ++ pair first ++ flat_map (λ member. codes "," ++ pair member) others
    ++ codes "}"

-- ---- as they are put, one after another

-- how they are shown, the text before them, and theirs so far
pub record Written : Type 0 where
  pub form : FieldForm
  pub before : List ℕ
  pub text : List ℕ

-- one more after this text
abbrev pub with_member : MemberForm → List ℕ → Member → List ℕ
with_member member.Text text one = text ++ line one
with_member member.Json [] one = codes ",\"fields\":{" ++ pair one
with_member member.Json (byte ∷ text) one = (byte ∷ text) ++ (codes "," ++ pair one)

-- what is appended for one, the first of them or another
abbrev pub member_part : MemberForm → Bool → Member → List ℕ
member_part member.Text first one = line one
member_part member.Json true one = codes ",\"fields\":{" ++ pair one
member_part member.Json false one = codes "," ++ pair one

-- its name, and what stands between that and its value
abbrev pub name_part : MemberForm → Bool → List ℕ → List ℕ
name_part member.Text first name = codes "\n  " ++ name ++ codes " "
name_part member.Json true name = codes ",\"fields\":{\"" ++ name ++ codes "\":"
name_part member.Json false name = codes ",\"" ++ name ++ codes "\":"

-- how members are shown, where they are
abbrev pub member_form : FieldForm → Option MemberForm
member_form Hidden = None
member_form Text = Some member.Text
member_form Json = Some member.Json

-- this text, with a member more where they are shown
abbrev pub shown_after : Option MemberForm → List ℕ → Member → List ℕ
shown_after None text one = text
shown_after (Some form) text one = with_member form text one

unfoldable pub put : Written → Member → Written
put written one = record {
  form = written.form;
  before = written.before;
  text = shown_after (member_form written.form) written.text one;
}

abbrev pub puts : Written → List Member → Written
puts written [] = written
puts written (member ∷ members) = puts (put written member) members

-- just these were put
pub record Puts (members : List Member) (old new : Written) : Type 0 where
  pub are : new ≡ puts old members

abbrev pub with_end : MemberForm → List ℕ → List ℕ
with_end member.Text text = text
with_end member.Json [] = []
with_end member.Json (byte ∷ text) = (byte ∷ text) ++ codes "}"

-- what is appended after them, where there are none or some
abbrev pub end_part : MemberForm → Bool → List ℕ
end_part member.Text none = []
end_part member.Json true = []
end_part member.Json false = codes "}"

abbrev pub ended_after : Option MemberForm → List ℕ → List ℕ
ended_after None text = text
ended_after (Some form) text = with_end form text

unfoldable pub ended : Written → Written
ended written = record {
  form = written.form;
  before = written.before;
  text = ended_after (member_form written.form) written.text;
}

-- nothing was put after this text
abbrev pub nothing_after : FieldForm → List ℕ → Written
nothing_after form before = record { form = form; before = before; text = [] }

-- nothing was put
abbrev pub nothing : FieldForm → Written
nothing form = nothing_after form []

abbrev pub value_of : FieldValue → Value
value_of given.Null = Null
value_of (given.Number number) = Number number
value_of (given.Flags bits) = Flags bits
value_of (given.Text octets) = Words octets.now
value_of (given.Bytes octets) = Octets octets.now
value_of (given.Printed number) = Printed number.now
value_of (given.Word word) = Word word.now

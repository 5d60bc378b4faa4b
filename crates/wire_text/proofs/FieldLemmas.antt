-- The text of fields.
use Rattle.std.proofs.Common.{◌≡◌, ℕ, zero, suc, ap₂, drop, take-append-drop, List, [], ◌∷◌, ◌++◌, Bool, true, false, refl, ap, subst, sym, ◌∙◌, append_assoc, arith, Option, Some, None, Result, Ok, Err, OnOk, ◌+◌, ◌/◌, ◌%◌, ◌<◌, length, take, get_or}
use Rattle.std.proofs.DigitsParse.{digits-IsUtf8}
use Rattle.std.proofs.lemmas.Grind.{common_steps}
use Rattle.std.specs.Prelude.{◌==◌, ◌&&◌, codes, nat_lt, not, slice_index_or, ◌≤◌}
use Rattle.std.proofs.lemmas.Bool.{false≢true, and_from, and_left, and_parts, eq-eqb, eqb-false, eqb-true, leb-true, ltb-true, not-true}
use Rattle.json.specs.Print.{escape, escape_byte}
use Rattle.json.proofs.Printed.Strings.{escape_byte_plain}
use Rattle.std.proofs.lemmas.List.{append-nil, drop-append-le, length-append, length-drop, take-append-le, take_more}
use Rattle.std.proofs.lemmas.List.Folds.{list_all-append}
use Rattle.std.specs.List.{flat_map}
use Rattle.std.specs.Str.{IsAscii, IsUtf8, is_utf8}
use Rattle.std.specs.Fmt.{decimal}
use Rattle.std.specs.Result.{is_err, IsErr}
use Rattle.std.proofs.lemmas.Fmt.{decimal_digit, decimal_step}
use Rattle.std.specs.String.Boundary.{IsSplitPoint}
use Rattle.std.proofs.lemmas.Str.{IsCharBoundary-from_take, IsUtf8-append, IsUtf8-from_ascii, IsUtf8-from_is_utf8, is_utf8-from_IsUtf8}
use Rattle.std.proofs.lemmas.Str.Ascii.{IsAscii-cons, IsAscii-nil}
use Rattle.wire_text.specs.declared.fields.FieldForm.{FieldForm}
use Rattle.wire_text.specs.declared.fields.Field.{Field}
use Rattle.wire_text.specs.declared.fields.FieldForm.TheVariants.{Hidden, Text, Json}
use Rattle.wire_text.specs.declared.members.MemberForm.{MemberForm}
use Rattle.wire_text.specs.declared.members.MemberForm.TheVariants as member
use Rattle.wire_text.specs.Fields.{AreLetters, Member, Puts, Written, all_ascii, all_plain, none_needs_escape, end_part, ended, ended_after, fields_text, line, member_form, member_part, name_part, nothing_after, pair, plain, put, puts, needs_no_escape, shown_after, value_text, with_end, with_member, Value, Word, Words}
use Rattle.wire_text.specs.FieldTables.{members_in, members_of}
use Rattle.wire_text.specs.Parts.{is_none}

pub is_false : (test : Bool) → (test ≡ true → ⊥) → test ≡ false
is_false true never = absurd (never refl)
is_false false never = refl

pub is_utf8-false : (text : List ℕ) → (IsUtf8 text → ⊥) → is_utf8 text ≡ false
is_utf8-false text never = is_false (is_utf8 text) (λ is. never (IsUtf8-from_is_utf8 text is))

puts-hidden : (before text : List ℕ) (members : List Member)
    → puts (record { form = Hidden; before = before; text = text }) members
    ≡ record { form = Hidden; before = before; text = text }
unfolding put
puts-hidden before text [] = refl
puts-hidden before text (member ∷ members) = puts-hidden before text members

puts-lines : (before text : List ℕ) (members : List Member)
    → puts (record { form = Text; before = before; text = text }) members
    ≡ record { form = Text; before = before; text = text ++ flat_map line members }
unfolding put
puts-lines before text [] = rw append-nil refl
puts-lines before text (member ∷ members) = puts-lines before (text ++ line member) members ∙ simp append_assoc

puts-pairs : (byte : ℕ) (before text : List ℕ) (members : List Member)
    → puts (record { form = Json; before = before; text = byte ∷ text }) members
    ≡ record { form = Json; before = before; text = (byte ∷ text) ++ flat_map (λ member. 44 ∷ pair member) members }
unfolding put
puts-pairs byte before text [] = rw append-nil refl
puts-pairs byte before text (member ∷ members) =
    puts-pairs byte before (text ++ 44 ∷ pair member) members
    ∙ ap (λ (all : List ℕ). record { form = Json; before = before; text = byte ∷ all })
    (append_assoc text (44 ∷ pair member) (flat_map (λ member. 44 ∷ pair member) members))

-- the fields that were put after a text and ended are their text
pub fields_text-is : (form : FieldForm) (before : List ℕ) (members : List Member)
    → ended (puts (nothing_after form before) members)
    ≡ record { form = form; before = before; text = fields_text form members }
unfolding put ended
fields_text-is Hidden before members = rw (puts-hidden before [] members) refl
fields_text-is Text before members = rw (puts-lines before [] members) refl
fields_text-is Json before [] = refl
fields_text-is Json before (first ∷ others) = rw (puts-pairs 44 before _ others) (simp append_assoc)

pub puts_append : (written : Written) (front back : List Member)
    → puts written (front ++ back) ≡ puts (puts written front) back
puts_append written [] back = refl
puts_append written (member ∷ front) back = puts_append (put written member) front back

-- some were put, and others after them
pub puts_then : {front back : List Member} {old middle new : Written} → Puts front old middle
    → Puts back middle new → Puts (front ++ back) old new
puts_then {front = front} {back = back} {old = old} first last = record {
  are = last.are ∙ ap (λ (written : Written). puts written back) first.are
      ∙ sym (puts_append old front back);
}

pub zero-false : (n : ℕ) → (n ≡ 0 → ⊥) → (n == 0) ≡ false
zero-false n never = is_false (n == 0) (λ is. never (grind (arith, common_steps, is)))

-- the members of fields one after another
pub members_append : (front back : List Field) → members_of (front ++ back) ≡ members_of front ++ members_of back
members_append [] back = refl
members_append (field ∷ front) back =
    ap (λ (members : List Member). members_in field ++ members) (members_append front back)
    ∙ sym (append_assoc (members_in field) (members_of front) (members_of back))

-- one field more
pub members_more : (fields : List Field) (place : ℕ) (other : Field) → place < length fields
    → members_of (take (place + 1) fields) ≡ members_of (take place fields) ++ members_in (get_or fields place other)
members_more fields place other within =
    ap members_of (take_more fields place other within)
    ∙ members_append (take place fields) (get_or fields place other ∷ [])
    ∙ ap (λ (members : List Member). members_of (take place fields) ++ members) (append-nil (members_in (get_or fields place other)))

byte_stands : (byte : ℕ) → needs_no_escape byte ≡ true → escape_byte byte ≡ byte ∷ []
byte_stands byte is =
    let parts = and_parts _ _ is in
    let marks = and_parts (not (byte == 34)) _ parts.0 in
    escape_byte_plain byte
    (eqb-false byte 34 (not-true (byte == 34) marks.0))
    (eqb-false byte 92 (not-true (byte == 92) marks.1))
    (leb-true 32 byte parts.1)

-- where no byte needs an escape, JSON quotes them as they are
pub escape-none_needs_escape : (words : List ℕ) → none_needs_escape words ≡ true → escape words ≡ words
escape-none_needs_escape [] is = refl
escape-none_needs_escape (byte ∷ words) is =
    let parts = and_parts (needs_no_escape byte) _ is in
    rw (byte_stands byte parts.0, escape-none_needs_escape words parts.1) refl

-- sixteen bytes, and those after them
pub plain_parts : (rest block behind : List ℕ) → block ≡ take 16 rest → behind ≡ drop 16 rest
    → all_plain rest ≡ (all_plain block && all_plain behind)
plain_parts rest block behind block_is behind_is =
    ap all_plain (sym (take-append-drop 16 rest)) ∙ list_all-append plain (take 16 rest) (drop 16 rest)
    ∙ ap₂ (λ (a b : List ℕ). all_plain a && all_plain b) (sym block_is) (sym behind_is)

-- where the first are not plain, and where they are
pub plain_fails : (words rest block behind : List ℕ) → all_plain words ≡ all_plain rest
    → block ≡ take 16 rest → behind ≡ drop 16 rest → all_plain block ≡ false
    → false ≡ all_plain words
plain_fails words rest block behind so_far block_is behind_is fails =
    sym (so_far ∙ plain_parts rest block behind block_is behind_is ∙ and_left _ _ fails)

plain_byte : (byte : ℕ) → plain byte ≡ true → (needs_no_escape byte ≡ true) × (byte < 128)
plain_byte byte is = let parts = and_parts (needs_no_escape byte) _ is in (parts.0, ltb-true byte 128 parts.1)

-- letters of ASCII that JSON quotes as they are
pub plain_stand : (words : List ℕ) → all_plain words ≡ true → none_needs_escape words ≡ true
plain_stand [] is = refl
plain_stand (byte ∷ words) is =
    let parts = and_parts (plain byte) _ is in
    and_from _ _ (plain_byte byte parts.0).0 (plain_stand words parts.1)

ascii_at : (byte : ℕ) (words : List ℕ) → byte < 128 → IsAscii words → IsAscii (byte ∷ words)
ascii_at byte words below others zero = below
ascii_at byte words below others (suc i) = others i

plain_ascii : (words : List ℕ) → all_plain words ≡ true → IsAscii words
plain_ascii [] is = λ i. omega arith
plain_ascii (byte ∷ words) is =
    let parts = and_parts (plain byte) _ is in
    λ i. ascii_at byte words (plain_byte byte parts.0).1 (plain_ascii words parts.1) i

pub plain_utf8 : (words : List ℕ) → all_plain words ≡ true → IsUtf8 words
plain_utf8 words is = IsUtf8-from_ascii words (plain_ascii words is)

-- a text may be cut where both of its parts are texts
pub cut_place : (all : List ℕ) (n : ℕ) → IsUtf8 all → n ≤ length all → IsUtf8 (take n all) → IsSplitPoint all n
cut_place all n utf8 within front =
    let place = IsCharBoundary-from_take all n utf8 within front in
    (place.0, λ _ below. place.1 below)

-- letters of ASCII
ascii_if : (words : List ℕ) → all_ascii words ≡ true → IsAscii words
ascii_if [] is = λ i. omega arith
ascii_if (byte ∷ words) is =
    let parts = and_parts (nat_lt byte 128) _ is in
    λ i. ascii_at byte words (ltb-true byte 128 parts.0) (ascii_if words parts.1) i

pub utf8_if : (words : List ℕ) → all_ascii words ≡ true → IsUtf8 words
utf8_if words is = IsUtf8-from_ascii words (ascii_if words is)

-- numbers of two and of three digits
pub two_digits : (n : ℕ) → 10 ≤ n → n < 100 → decimal n ≡ (48 + n / 10) ∷ (48 + n % 10) ∷ []
two_digits n more less = decimal_step n more (omega (arith, less)) ∙ ap (λ (z : List ℕ). z ++ (48 + n % 10) ∷ []) (decimal_digit (n / 10) (omega (arith, less)))

pub three_digits : (n : ℕ) → 100 ≤ n → n < 1000 → decimal n ≡ (48 + n / 100) ∷ (48 + n / 10 % 10) ∷ (48 + n % 10) ∷ []
three_digits n more less =
    let high : n / 10 / 10 ≡ n / 100 = omega arith in
    decimal_step n (omega (arith, more)) (omega (arith, less))
    ∙ ap (λ (z : List ℕ). z ++ (48 + n % 10) ∷ []) (two_digits (n / 10) (omega (arith, more)) (omega (arith, less)))
    ∙ ap (λ (d : ℕ). (48 + d) ∷ (48 + n / 10 % 10) ∷ (48 + n % 10) ∷ []) high

-- the letters of a number are a text
pub decimal_utf8 : (n : ℕ) (letters : List ℕ) → decimal n ≡ letters → IsUtf8 letters
decimal_utf8 n letters are = subst IsUtf8 are (digits-IsUtf8 10 false n (omega arith) (omega arith))

letters_ascii : (bytes : List ℕ) → AreLetters bytes → IsAscii bytes
letters_ascii [] are = IsAscii-nil
letters_ascii (byte ∷ bytes) are = IsAscii-cons byte bytes are.0 (letters_ascii bytes are.1)

pub letters_utf8 : (bytes : List ℕ) → AreLetters bytes → IsUtf8 bytes
letters_utf8 bytes are = IsUtf8-from_ascii bytes (letters_ascii bytes are)

utf8_between : (front back name : List ℕ) → all_ascii front ≡ true → all_ascii back ≡ true → IsUtf8 name → IsUtf8 (front ++ (name ++ back))
utf8_between front back name front_is back_is name_is =
    IsUtf8-append front (name ++ back) (utf8_if front front_is) (IsUtf8-append name back name_is (utf8_if back back_is))

-- a name of one byte, or two, between words
pub one_between : (front back name : List ℕ) → all_ascii front ≡ true → all_ascii back ≡ true → IsUtf8 name → 1 ≤ length name → length name < 2
    → IsUtf8 (front ++ (slice_index_or name 0 0 ∷ back))
one_between front back [] front_is back_is name_is some few = absurd (omega (arith, some))
one_between front back (one ∷ []) front_is back_is name_is some few = utf8_between front back (one ∷ []) front_is back_is name_is
one_between front back (one ∷ two ∷ more) front_is back_is name_is some few = absurd (omega (arith, few))

-- a name of one byte
pub one_of : (name : List ℕ) → 1 ≤ length name → length name < 2 → slice_index_or name 0 0 ∷ [] ≡ name
one_of [] some few = absurd (omega (arith, some))
one_of (one ∷ []) some few = refl
one_of (one ∷ two ∷ more) some few = absurd (omega (arith, few))

pub two_between : (front back name : List ℕ) → all_ascii front ≡ true → all_ascii back ≡ true → IsUtf8 name → 2 ≤ length name → length name < 3
    → IsUtf8 (front ++ (slice_index_or name 0 0 ∷ slice_index_or name 1 0 ∷ back))
two_between front back [] front_is back_is name_is some few = absurd (omega (arith, some))
two_between front back (one ∷ []) front_is back_is name_is some few = absurd (omega (arith, some))
two_between front back (one ∷ two ∷ []) front_is back_is name_is some few = utf8_between front back (one ∷ two ∷ []) front_is back_is name_is
two_between front back (one ∷ two ∷ three ∷ more) front_is back_is name_is some few = absurd (omega (arith, few))

-- a name of two
two_of : (name : List ℕ) → 2 ≤ length name → length name < 3 → slice_index_or name 0 0 ∷ slice_index_or name 1 0 ∷ [] ≡ name
two_of [] some few = absurd (omega (arith, some))
two_of (one ∷ []) some few = absurd (omega (arith, some))
two_of (one ∷ two ∷ []) some few = refl
two_of (one ∷ two ∷ three ∷ more) some few = absurd (omega (arith, few))

-- what was put, between words, of the bytes of a name
pub one_put : {T E : Type 0} (result : Result T E) (front back bytes name tail old new : List ℕ) → bytes ≡ name → 1 ≤ length bytes → length bytes < 2
    → OnOk result (new ≡ old ++ ((front ++ (slice_index_or bytes 0 0 ∷ back)) ++ tail)) → OnOk result (new ≡ old ++ ((front ++ (name ++ back)) ++ tail))
one_put result front back bytes name tail old new is some few put =
    subst (λ (z : List ℕ). OnOk result (new ≡ old ++ ((front ++ (z ++ back)) ++ tail))) (one_of bytes some few ∙ is) put

pub two_put : {T E : Type 0} (result : Result T E) (front back bytes name tail old new : List ℕ) → bytes ≡ name → 2 ≤ length bytes → length bytes < 3
    → OnOk result (new ≡ old ++ ((front ++ (slice_index_or bytes 0 0 ∷ slice_index_or bytes 1 0 ∷ back)) ++ tail)) → OnOk result (new ≡ old ++ ((front ++ (name ++ back)) ++ tail))
two_put result front back bytes name tail old new is some few put =
    subst (λ (z : List ℕ). OnOk result (new ≡ old ++ ((front ++ (z ++ back)) ++ tail))) (two_of bytes some few ∙ is) put

-- a refusal says nothing of what was put
pub none_put : {T E : Type 0} (result : Result T E) (P : Type 0) → IsErr result → OnOk result P
none_put (Ok _) P is = absurd (false≢true is)
none_put (Err _) P is = tt

-- a text that needs no escape
pub standing_words : (form : MemberForm) (words : List ℕ) → IsUtf8 words → none_needs_escape words ≡ true → value_text form (Words words) ≡ value_text form (Word words)
standing_words form words utf8 stands = rw (is_utf8-from_IsUtf8 words utf8, escape-none_needs_escape words stands) refl

with_value : (form : MemberForm) (first : Bool) (name : List ℕ) (one other : Value) → value_text form one ≡ value_text form other
    → member_part form first (name, one) ≡ member_part form first (name, other)
with_value member.Text first name one other same = ap (λ (z : List ℕ). codes "\n  " ++ name ++ codes " " ++ z) same
with_value member.Json true name one other same = ap (λ (z : List ℕ). codes ",\"fields\":{" ++ (codes "\"" ++ name ++ codes "\":" ++ z)) same
with_value member.Json false name one other same = ap (λ (z : List ℕ). codes "," ++ (codes "\"" ++ name ++ codes "\":" ++ z)) same

-- stands in quotes as it is
pub standing_member : (form : MemberForm) (first : Bool) (name words : List ℕ) → IsUtf8 words → none_needs_escape words ≡ true
    → member_part form first (name, Words words) ≡ member_part form first (name, Word words)
standing_member form first name words utf8 stands = with_value form first name (Words words) (Word words) (standing_words form words utf8 stands)

-- and so do plain letters
pub plain_member : (form : MemberForm) (first : Bool) (name words : List ℕ) → all_plain words ≡ true
    → member_part form first (name, Words words) ≡ member_part form first (name, Word words)
plain_member form first name words is = standing_member form first name words (plain_utf8 words is) (plain_stand words is)

-- a name, and the value after it
pub member_named : (form : MemberForm) (first : Bool) (name : List ℕ) (value : Value)
    → member_part form first (name, value) ≡ name_part form first name ++ value_text form value
member_named member.Text first name value = simp append_assoc
member_named member.Json true name value = simp append_assoc
member_named member.Json false name value = simp append_assoc

-- a name on a line of its own, or after another member, and what was put after it
pub line_put : {T E : Type 0} (result : Result T E) (form : MemberForm) (first : Bool) (name back whole old new : List ℕ) → form ≡ member.Text
    → name_part form first name ++ back ≡ whole → OnOk result (new ≡ old ++ (codes "\n  " ++ (name ++ (32 ∷ back)))) → OnOk result (new ≡ old ++ whole)
line_put result form first name back whole old new is all put =
    subst (λ (z : List ℕ). OnOk result (new ≡ old ++ z))
    (ap (λ (z : List ℕ). codes "\n  " ++ z) (sym (append_assoc name (32 ∷ []) back)) ∙ ap (λ (f : MemberForm). name_part f first name ++ back) (sym is) ∙ all) put

pub pair_put : {T E : Type 0} (result : Result T E) (form : MemberForm) (first : Bool) (name back whole old new : List ℕ) → form ≡ member.Json → first ≡ false
    → name_part form first name ++ back ≡ whole → OnOk result (new ≡ old ++ (codes ",\"" ++ (name ++ (34 ∷ 58 ∷ back)))) → OnOk result (new ≡ old ++ whole)
pair_put result form first name back whole old new is later all put =
    subst (λ (z : List ℕ). OnOk result (new ≡ old ++ z))
    (ap (λ (z : List ℕ). codes ",\"" ++ z) (sym (append_assoc name (34 ∷ 58 ∷ []) back)) ∙ ap₂ (λ (f : MemberForm) (b : Bool). name_part f b name ++ back) (sym is) (sym later) ∙ all) put

-- the same of a name of one byte, or two, that was put by its bytes
pub line_of_one : {T E : Type 0} (result : Result T E) (form : MemberForm) (first : Bool) (bytes name back whole old new : List ℕ) → form ≡ member.Text → bytes ≡ name
    → 1 ≤ length bytes → length bytes < 2 → name_part form first name ++ back ≡ whole
    → OnOk result (new ≡ old ++ (10 ∷ 32 ∷ 32 ∷ slice_index_or bytes 0 0 ∷ 32 ∷ back)) → OnOk result (new ≡ old ++ whole)
line_of_one result form first bytes name back whole old new is bytes_are some few all put =
    line_put result form first name back whole old new is all
    (subst (λ (z : List ℕ). OnOk result (new ≡ old ++ (10 ∷ 32 ∷ 32 ∷ (z ++ (32 ∷ back))))) (one_of bytes some few ∙ bytes_are) put)

pub line_of_two : {T E : Type 0} (result : Result T E) (form : MemberForm) (first : Bool) (bytes name back whole old new : List ℕ) → form ≡ member.Text → bytes ≡ name
    → 2 ≤ length bytes → length bytes < 3 → name_part form first name ++ back ≡ whole
    → OnOk result (new ≡ old ++ (10 ∷ 32 ∷ 32 ∷ slice_index_or bytes 0 0 ∷ slice_index_or bytes 1 0 ∷ 32 ∷ back)) → OnOk result (new ≡ old ++ whole)
line_of_two result form first bytes name back whole old new is bytes_are some few all put =
    line_put result form first name back whole old new is all
    (subst (λ (z : List ℕ). OnOk result (new ≡ old ++ (10 ∷ 32 ∷ 32 ∷ (z ++ (32 ∷ back))))) (two_of bytes some few ∙ bytes_are) put)

pub pair_of_one : {T E : Type 0} (result : Result T E) (form : MemberForm) (first : Bool) (bytes name back whole old new : List ℕ) → form ≡ member.Json → first ≡ false → bytes ≡ name
    → 1 ≤ length bytes → length bytes < 2 → name_part form first name ++ back ≡ whole
    → OnOk result (new ≡ old ++ (44 ∷ 34 ∷ slice_index_or bytes 0 0 ∷ 34 ∷ 58 ∷ back)) → OnOk result (new ≡ old ++ whole)
pair_of_one result form first bytes name back whole old new is later bytes_are some few all put =
    pair_put result form first name back whole old new is later all
    (subst (λ (z : List ℕ). OnOk result (new ≡ old ++ (44 ∷ 34 ∷ (z ++ (34 ∷ 58 ∷ back))))) (one_of bytes some few ∙ bytes_are) put)

pub pair_of_two : {T E : Type 0} (result : Result T E) (form : MemberForm) (first : Bool) (bytes name back whole old new : List ℕ) → form ≡ member.Json → first ≡ false → bytes ≡ name
    → 2 ≤ length bytes → length bytes < 3 → name_part form first name ++ back ≡ whole
    → OnOk result (new ≡ old ++ (44 ∷ 34 ∷ slice_index_or bytes 0 0 ∷ slice_index_or bytes 1 0 ∷ 34 ∷ 58 ∷ back)) → OnOk result (new ≡ old ++ whole)
pair_of_two result form first bytes name back whole old new is later bytes_are some few all put =
    pair_put result form first name back whole old new is later all
    (subst (λ (z : List ℕ). OnOk result (new ≡ old ++ (44 ∷ 34 ∷ (z ++ (34 ∷ 58 ∷ back))))) (two_of bytes some few ∙ bytes_are) put)

-- the quote after a name, and words
pub line_words : {T E : Type 0} (result : Result T E) (form : MemberForm) (first : Bool) (name tail old new : List ℕ) → form ≡ member.Text
    → OnOk result (new ≡ old ++ ((codes "\n  " ++ (name ++ (32 ∷ 34 ∷ []))) ++ tail)) → OnOk result (new ≡ old ++ ((name_part form first name ++ (34 ∷ [])) ++ tail))
line_words result form first name tail old new is put =
    subst (λ (z : List ℕ). OnOk result (new ≡ old ++ (z ++ tail)))
    (ap (λ (z : List ℕ). codes "\n  " ++ z) (sym (append_assoc name (32 ∷ []) (34 ∷ []))) ∙ ap (λ (f : MemberForm). name_part f first name ++ (34 ∷ [])) (sym is)) put

pub first_words : {T E : Type 0} (result : Result T E) (form : MemberForm) (first : Bool) (name tail old new : List ℕ) → form ≡ member.Json → first ≡ true
    → OnOk result (new ≡ old ++ ((codes ",\"fields\":{\"" ++ (name ++ (34 ∷ 58 ∷ 34 ∷ []))) ++ tail)) → OnOk result (new ≡ old ++ ((name_part form first name ++ (34 ∷ [])) ++ tail))
first_words result form first name tail old new is begins put =
    subst (λ (z : List ℕ). OnOk result (new ≡ old ++ (z ++ tail)))
    (ap (λ (z : List ℕ). codes ",\"fields\":{\"" ++ z) (sym (append_assoc name (34 ∷ 58 ∷ []) (34 ∷ [])))
    ∙ ap₂ (λ (f : MemberForm) (b : Bool). name_part f b name ++ (34 ∷ [])) (sym is) (sym begins)) put

pub pair_words : {T E : Type 0} (result : Result T E) (form : MemberForm) (first : Bool) (name tail old new : List ℕ) → form ≡ member.Json → first ≡ false
    → OnOk result (new ≡ old ++ ((codes ",\"" ++ (name ++ (34 ∷ 58 ∷ 34 ∷ []))) ++ tail)) → OnOk result (new ≡ old ++ ((name_part form first name ++ (34 ∷ [])) ++ tail))
pair_words result form first name tail old new is later put =
    subst (λ (z : List ℕ). OnOk result (new ≡ old ++ (z ++ tail)))
    (ap (λ (z : List ℕ). codes ",\"" ++ z) (sym (append_assoc name (34 ∷ 58 ∷ []) (34 ∷ [])))
    ∙ ap₂ (λ (f : MemberForm) (b : Bool). name_part f b name ++ (34 ∷ [])) (sym is) (sym later)) put

-- the first name of an object, and the quote after it
pub first_front : (form : MemberForm) (first : Bool) (name : List ℕ) → form ≡ member.Json → first ≡ true
    → codes ",\"fields\":{\"" ++ name ++ codes "\":\"" ≡ name_part form first name ++ codes "\""
first_front form first name form_is first_is =
    ap (λ (z : List ℕ). codes ",\"fields\":{\"" ++ z) (sym (append_assoc name (codes "\":") (codes "\"")))
    ∙ ap₂ (λ (f : MemberForm) (b : Bool). name_part f b name ++ codes "\"") (sym form_is) (sym first_is)

-- two parts, one after the other
pub joined : {T E : Type 0} (result : Result T E) (old middle new front back whole : List ℕ) → middle ≡ old ++ front → OnOk result (new ≡ middle ++ back)
    → whole ≡ front ++ back → OnOk result (new ≡ old ++ whole)
joined (Ok _) old middle new front back whole middle_is new_is whole_is =
    new_is ∙ ap (λ (z : List ℕ). z ++ back) middle_is ∙ append_assoc old front back ∙ ap (λ (z : List ℕ). old ++ z) (sym whole_is)
joined (Err _) old middle new front back whole middle_is new_is whole_is = tt

-- ---- after a text

-- fields that begin at this place of a text
abbrev pub from_place : FieldForm → ℕ → List ℕ → Written
from_place form begin all = record { form = form; before = take begin all; text = drop begin all }

pub part_of : (form : MemberForm) (text : List ℕ) (one : Member) → text ++ member_part form (is_none text) one ≡ with_member form text one
part_of member.Text text one = refl
part_of member.Json [] one = refl
part_of member.Json (byte ∷ text) one = refl

pub end_of : (form : MemberForm) (text : List ℕ) → text ++ end_part form (is_none text) ≡ with_end form text
end_of member.Text text = append-nil text
end_of member.Json [] = refl
end_of member.Json (byte ∷ text) = refl

none_if : (text : List ℕ) (all begin : ℕ) → all ≡ length text + begin → (all == begin) ≡ is_none text
none_if [] all begin is = eq-eqb all begin (omega (arith, is))
none_if (byte ∷ text) all begin is = is_false (all == begin) (λ same. omega (arith, is, eqb-true all begin same))

-- none stand there yet where the text ends where they begin
pub none_there : (begin : ℕ) (all : List ℕ) → begin ≤ length all → (length all == begin) ≡ is_none (drop begin all)
none_there begin all within = none_if (drop begin all) (length all) begin (omega (arith, within, length-drop begin all))

grown : (form : FieldForm) (begin : ℕ) (all more new text : List ℕ) → begin ≤ length all → new ≡ all ++ more → drop begin all ++ more ≡ text
    → from_place form begin new ≡ record { form = form; before = take begin all; text = text }
grown form begin all more new text within new_is text_is =
    ap (from_place form begin) new_is
    ∙ ap₂ (λ (a b : List ℕ). record { form = form; before = a; text = b }) (take-append-le begin all more within) (drop-append-le begin all more within ∙ text_is)

-- one field more
pub put_after : (form : FieldForm) (shown : MemberForm) (begin : ℕ) (all new : List ℕ) (one : Member) (first : Bool) → member_form form ≡ Some shown → begin ≤ length all
    → first ≡ (length all == begin) → new ≡ all ++ member_part shown first one → Puts (one ∷ []) (from_place form begin all) (from_place form begin new)
unfolding put
put_after form shown begin all new one first form_is within first_is new_is =
    let test = first_is ∙ none_there begin all within in
    record {
      are = grown form begin all (member_part shown first one) new _ within new_is
          (ap (λ (t : Bool). drop begin all ++ member_part shown t one) test ∙ part_of shown (drop begin all) one ∙ sym (ap (λ (f : Option MemberForm). shown_after f (drop begin all) one) form_is));
    }

-- and their end
pub end_after : (form : FieldForm) (shown : MemberForm) (begin : ℕ) (all new : List ℕ) (none : Bool) → member_form form ≡ Some shown → begin ≤ length all
    → none ≡ (length all == begin) → new ≡ all ++ end_part shown none → from_place form begin new ≡ ended (from_place form begin all)
unfolding ended
end_after form shown begin all new none form_is within none_is new_is =
    let test = none_is ∙ none_there begin all within in
    grown form begin all (end_part shown none) new _ within new_is
    (ap (λ (t : Bool). drop begin all ++ end_part shown t) test ∙ end_of shown (drop begin all) ∙ sym (ap (λ (f : Option MemberForm). ended_after f (drop begin all)) form_is))

-- where none are shown
pub put_hidden : (form : FieldForm) (written : Written) (one : Member) → written.form ≡ form → member_form form ≡ None → Puts (one ∷ []) written written
unfolding put
put_hidden form written one is hidden = record {
  are = sym (ap (λ (f : Option MemberForm). record { form = written.form; before = written.before; text = shown_after f written.text one }) (ap member_form is ∙ hidden));
}

pub end_hidden : (form : FieldForm) (written : Written) → written.form ≡ form → member_form form ≡ None → written ≡ ended written
unfolding ended
end_hidden form written is hidden = sym (ap (λ (f : Option MemberForm). record { form = written.form; before = written.before; text = ended_after f written.text }) (ap member_form is ∙ hidden))

pub same_answer : {E : Type 0} (result : Result Bool E) (one other : Bool) → result ≡ Ok one → result ≡ Ok other → one ≡ other
same_answer result one other is also = cc

-- what stands before the fields stays, where something was appended, and where it failed nothing does
pub stays_before : {T E : Type 0} (result : Result T E) (begin : ℕ) (all new more : List ℕ) → false ≡ is_err result → OnOk result (new ≡ all ++ more)
    → (begin ≤ length all) × IsUtf8 (take begin all) → (begin ≤ length new) × IsUtf8 (take begin new)
stays_before (Ok _) begin all new more ok is before = (
  subst (λ (z : List ℕ). begin ≤ length z) (sym is) (let sum = length-append all more in let within = before.0 in omega (arith, sum, within)),
  subst IsUtf8 (sym (ap (take begin) is ∙ take-append-le begin all more before.0)) before.1,
)
stays_before (Err _) begin all new more ok is before = absurd (false≢true ok)

pub none_before : (text : List ℕ) → (0 ≤ length text) × IsUtf8 (take 0 text)
none_before text = (omega arith, ([], (refl, refl)))

-- a call that appended one
pub put_pushed : {T E : Type 0} (result : Result T E) (form : FieldForm) (shown : MemberForm) (begin len : ℕ) (all new : List ℕ) (old : Written) (one : Member)
    → old ≡ from_place form begin all → member_form form ≡ Some shown → begin ≤ length all → len ≡ length all → OnOk result (new ≡ all ++ member_part shown (len == begin) one)
    → OnOk result (Puts (one ∷ []) old (from_place form begin new))
put_pushed (Ok _) form shown begin len all new old one old_is form_is within long new_is =
    subst (λ (w : Written). Puts (one ∷ []) w (from_place form begin new)) (sym old_is)
    (put_after form shown begin all new one (len == begin) form_is within (ap (λ (n : ℕ). n == begin) long) new_is)
put_pushed (Err _) form shown begin len all new old one old_is form_is within long new_is = tt

pub end_pushed : {T E : Type 0} (result : Result T E) (form : FieldForm) (shown : MemberForm) (begin len : ℕ) (all new : List ℕ) (old : Written)
    → old ≡ from_place form begin all → member_form form ≡ Some shown → begin ≤ length all → len ≡ length all → OnOk result (new ≡ all ++ end_part shown (len == begin))
    → OnOk result (from_place form begin new ≡ ended old)
end_pushed (Ok _) form shown begin len all new old old_is form_is within long new_is =
    end_after form shown begin all new (len == begin) form_is within (ap (λ (n : ℕ). n == begin) long) new_is ∙ ap ended (sym old_is)
end_pushed (Err _) form shown begin len all new old old_is form_is within long new_is = tt

-- where fields are shown, they aren't hidden
pub shown_hidden : (form : FieldForm) (given : Option MemberForm) (shown : MemberForm) → given ≡ member_form form → given ≡ Some shown → form ≡ Hidden → ⊥
shown_hidden form given shown is some hidden =
    let none : ◌≡◌ {A = Option MemberForm} None (Some shown) = sym (ap member_form hidden) ∙ sym is ∙ some in cc

-- answers that differ
pub true_is_false : {E : Type 0} → ◌≡◌ {A = Result Bool E} (Ok true) (Ok false) → ⊥
true_is_false is = cc

pub false_is_true : {E : Type 0} → ◌≡◌ {A = Result Bool E} (Ok false) (Ok true) → ⊥
false_is_true is = cc

pub refused_is : {A E : Type 0} (error : E) (answer : A) → Err error ≡ Ok answer → ⊥
refused_is error answer is = cc

pub less_in : (len most there : ℕ) → len ≤ most → most ≤ there → len ≤ there
less_in len most there few long = omega arith

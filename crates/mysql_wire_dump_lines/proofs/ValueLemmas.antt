-- The values of rows, one more at a time.
use Rattle.std.proofs.Common.{◌≡◌, ◌≢◌, ◌<◌, ℕ, ◌+◌, true, false, List, [], ◌∷◌, ◌++◌, length, get_or, take, refl, sym, subst, ap, ◌∙◌, inl, inr, append-nil, append_assoc, length-append, arith, Option, Some, None, Result, Ok, Err}
use Rattle.std.proofs.KnownBytes.{Appends-nil, Appends-trans}
use Rattle.std.specs.Io.KnownBytes.{Appends}
use Rattle.std.specs.Fmt.{decimal}
use Rattle.wire_text.specs.Fields.{Member, Octets, Puts, Value, Written, member_form, put, puts}
use Rattle.mysql_wire_dump_lines.specs.ValueFields.{IsTextAt, TextsSoFar, AreTexts, AreValues, IsNoText, IsNoValueAt, IsShownAs, PutsColumn, PutsShown, PutsText, PutsTexts, PutsValues, WritesText, WritesTexts, rest_if}
use Rattle.mysql_wire_session.specs.declared.refusal.Refusal.{Refusal}
use Rattle.mysql_wire_session.specs.declared.refusal.Refusal.TheVariants.{TrailingBytes}
use Rattle.mysql_wire_statements.specs.declared.binary_row.BinaryRow.{BinaryRow}
use Rattle.mysql_wire_statements.specs.declared.binary_value.BinaryValue.{BinaryValue}
use Rattle.std.proofs.lemmas.List.{take_all}
use Rattle.std.proofs.lemmas.Grind.{common_steps}
use Rattle.std.specs.Prelude.{◌==◌, OnOk, codes}
use Rattle.wire_text.proofs.FieldLemmas.{put_hidden, puts_append}
use Rattle.wire_text.proofs.PartLemmas.{end_itself, nothing_written}
use Rattle.wire_text.specs.Parts.{IsEnd}

-- one more was put
puts_one : (start old new : Written) (before : List Member) (member : Member)
    → Puts before start old → Puts (member ∷ []) old new → Puts (before ++ member ∷ []) start new
puts_one start old new before member was is = record {
  are = is.are ∙ ap (λ (written : Written). put written member) was.are
      ∙ sym (puts_append start before (member ∷ []));
}

pub texts-none : (payload : List ℕ) (start : Written) → TextsSoFar 0 payload payload start start
texts-none payload start = record {
  before = [];
  count = refl;
  puts = record { are = refl };
  goes = λ members rest are. are;
}

-- a member that is put changes nothing of how fields are shown
pub one_put-form : (member : Member) (old new : Written) → Puts (member ∷ []) old new → new.form ≡ old.form
unfolding put
one_put-form member old new put = ap (λ (written : Written). written.form) put.are

pub texts-more : (place : ℕ) (payload bytes rest : List ℕ) (start old new : Written)
    → TextsSoFar place payload bytes start old → PutsText place bytes rest None old new
    → TextsSoFar (place + 1) payload rest start new
texts-more place payload bytes rest start old new so one = record {
  before = so.before ++ one.0 ∷ [];
  count = omega (arith, length-append so.before (one.0 ∷ []), so.count);
  puts = puts_one start old new so.before one.0 so.puts one.1.1;
  goes = λ members end are. rw (append_assoc so.before (one.0 ∷ []) members)
      (so.goes (one.0 ∷ members) end (rest, (one.1.0, are)));
}

-- one that is not shown changes nothing
pub texts-passed : (place : ℕ) (payload bytes rest : List ℕ) (fields : Written) (member : Member) → member_form fields.form ≡ None
    → TextsSoFar place payload bytes fields fields → IsTextAt place bytes member rest → TextsSoFar (place + 1) payload rest fields fields
texts-passed place payload bytes rest fields member hidden so at =
    texts-more place payload bytes rest fields fields fields so (member, (at, put_hidden fields.form fields member refl hidden))

pub texts-all : (place : ℕ) (payload bytes : List ℕ) (start now : Written)
    → (so : TextsSoFar place payload bytes start now) → AreTexts 0 payload so.before bytes
texts-all place payload bytes start now so =
    rw append-nil at (so.goes [] bytes refl)

-- the same of values in their binary form
pub record Values (nulls types : List ℕ) (place : ℕ) (payload bytes : List ℕ)
    (start now : Written) : Type 0 where
  pub before : List Member
  pub puts : Puts before start now
  pub goes : (others : List ℕ) (members : List Member) (rest : List ℕ)
      → AreValues nulls place others bytes members rest
      → AreValues nulls 0 (take place types ++ others) payload (before ++ members) rest

pub values-none : (nulls types payload : List ℕ) (start : Written)
    → Values nulls types 0 payload payload start start
values-none nulls types payload start = record {
  before = [];
  puts = record { are = refl };
  goes = λ others members rest are. are;
}

pub values-more : (nulls types : List ℕ) (place number : ℕ) (payload bytes rest : List ℕ)
    (start old new : Written) → take (place + 1) types ≡ take place types ++ number ∷ []
    → Values nulls types place payload bytes start old
    → PutsColumn nulls place number bytes rest None old new
    → Values nulls types (place + 1) payload rest start new
values-more nulls types place number payload bytes rest start old new more so one = record {
  before = so.before ++ one.0 ∷ [];
  puts = puts_one start old new so.before one.0 so.puts one.1.1;
  goes = λ others members end are. rw (
    more,
    append_assoc (take place types) (number ∷ []) others,
    append_assoc so.before (one.0 ∷ []) members,
  )
      (so.goes (number ∷ others) (one.0 ∷ members) end (rest, (one.1.0, are)));
}

pub values-all : (nulls types : List ℕ) (place : ℕ) (payload bytes : List ℕ)
    (start now : Written) → (so : Values nulls types place payload bytes start now)
    → AreValues nulls 0 (take place types) payload so.before bytes
values-all nulls types place payload bytes start now so =
    rw (append-nil (take place types), append-nil so.before) at (so.goes [] [] bytes refl)

-- a row of texts that was refused
pub texts-refused : (columns place : ℕ) (payload bytes : List ℕ) (start old new : Written) (refusal : Refusal)
    → TextsSoFar place payload bytes start old → place < columns → IsNoText bytes refusal × (new ≡ old)
    → PutsTexts columns payload (Some refusal) start new
texts-refused columns place payload bytes start old new refusal so below refused = record {
  members = so.before;
  rest = bytes;
  are = texts-all place payload bytes start old so;
  ends = inl (rw (← so.count) at below, refused.0);
  puts = record { are = refused.1 ∙ so.puts.are };
}

-- one after which bytes stand
pub texts-trailing : (columns : ℕ) (payload bytes : List ℕ) (start now : Written)
    → TextsSoFar columns payload bytes start now → bytes ≢ [] → PutsTexts columns payload (Some TrailingBytes) start now
texts-trailing columns payload bytes start now so some = record {
  members = so.before;
  rest = bytes;
  are = texts-all columns payload bytes start now so;
  ends = inr (so.count, some, refl);
  puts = so.puts;
}

-- and one that was read
pub texts-ended : (columns : ℕ) (payload bytes : List ℕ) (start now : Written)
    → TextsSoFar columns payload bytes start now → bytes ≡ [] → PutsTexts columns payload None start now
texts-ended columns payload bytes start now so none = record {
  members = so.before;
  rest = bytes;
  are = texts-all columns payload bytes start now so;
  ends = (so.count, none);
  puts = so.puts;
}

-- so a row ends with what is left of it
pub texts-left : (columns : ℕ) (payload bytes : List ℕ) (start now : Written) (refusal : Option Refusal)
    → TextsSoFar columns payload bytes start now → (bytes ≡ [] → refusal ≡ None) → (bytes ≢ [] → refusal ≡ Some TrailingBytes)
    → PutsTexts columns payload refusal start now
texts-left columns payload [] start now refusal so none some =
    subst (λ (r : Option Refusal). PutsTexts columns payload r start now) (sym (none refl)) (texts-ended columns payload [] start now so refl)
texts-left columns payload (byte ∷ bytes) start now refusal so none some =
    let more : byte ∷ bytes ≢ [] = λ none. cc none in
    subst (λ (r : Option Refusal). PutsTexts columns payload r start now) (sym (some more)) (texts-trailing columns payload (byte ∷ bytes) start now so more)

-- the same of values in their binary form
pub values-refused : (types : List ℕ) (place : ℕ) (row : BinaryRow) (bytes : List ℕ) (start old new : Written) (refusal : Refusal)
    → Values row.nulls.0.now types place row.values.now bytes start old → place < length types
    → IsNoValueAt row.nulls.0.now place (get_or types place 0) bytes refusal × (new ≡ old)
    → PutsValues types row (Some refusal) start new
values-refused types place row bytes start old new refusal so below refused = record {
  members = so.before;
  rest = bytes;
  are = (place, below, values-all row.nulls.0.now types place row.values.now bytes start old so, refused.0);
  puts = record { are = rw append-nil (refused.1 ∙ so.puts.are) };
}

pub values-ended : (types : List ℕ) (row : BinaryRow) (bytes : List ℕ) (start now new : Written)
    → Values row.nulls.0.now types (length types) row.values.now bytes start now → Puts (rest_if None bytes) now new → PutsValues types row None start new
values-ended types row bytes start now new so behind = record {
  members = so.before;
  rest = bytes;
  are = rw (take_all (length types) types (omega arith)) at (values-all row.nulls.0.now types (length types) row.values.now bytes start now so);
  puts = record {
    are = behind.are ∙ ap (λ (written : Written). puts written (rest_if None bytes)) so.puts.are ∙ sym (puts_append start so.before (rest_if None bytes));
  };
}

pub is_empty : (bytes : List ℕ) → (length bytes == 0) ≡ true → bytes ≡ []
is_empty [] is = refl
is_empty (byte ∷ bytes) is = absurd (grind (arith, common_steps, is))

pub is_some : (bytes : List ℕ) → (length bytes == 0) ≡ false → bytes ≢ []
is_some bytes is none = cc (is, ap (λ (z : List ℕ). length z == 0) none)

pub rest-none : (bytes : List ℕ) → (length bytes == 0) ≡ true → rest_if None bytes ≡ []
rest-none [] is = refl
rest-none (byte ∷ bytes) is = absurd (grind (arith, common_steps, is))

pub rest-there : (bytes : List ℕ) → (length bytes == 0) ≡ false
    → rest_if None bytes ≡ (codes "rest", Octets bytes) ∷ []
rest-there [] is = absurd (grind (arith, common_steps, is))
rest-there (byte ∷ bytes) is = refl

-- ---- of which all but an end may have been written

-- the texts up to this place were put, as if nothing had been written
pub record Writing (place : ℕ) (payload bytes : List ℕ) (start end : Written) (before now : Option (List ℕ)) : Type 0 where
  pub whole : Written
  pub written : List ℕ
  pub texts : TextsSoFar place payload bytes start whole
  pub appended : Appends before now written
  pub ends : IsEnd written whole end

pub writing-none : (payload : List ℕ) (start : Written) (before : Option (List ℕ)) → Writing 0 payload payload start start before before
writing-none payload start before = record {
  whole = start;
  written = [];
  texts = texts-none payload start;
  appended = Appends-nil before;
  ends = end_itself start;
}

pub writing-more : (place : ℕ) (payload bytes rest : List ℕ) (start end new : Written) (before now later : Option (List ℕ))
    → Writing place payload bytes start end before now → WritesText place bytes rest None end new now later
    → Writing (place + 1) payload rest start new before later
writing-more place payload bytes rest start end new before now later so one =
    let writes = one.1.1 in
    record {
      whole = put so.whole one.0;
      written = so.written ++ writes.written;
      texts = texts-more place payload bytes rest start so.whole (put so.whole one.0) so.texts (one.0, (one.1.0, record { are = refl }));
      appended = Appends-trans before now later so.written writes.written so.appended writes.appended;
      ends = writes.ends so.written so.whole so.ends;
    }

pub writes-refused : (columns place : ℕ) (payload bytes : List ℕ) (start end new : Written) (refusal : Refusal) (before now later : Option (List ℕ))
    → Writing place payload bytes start end before now → place < columns → IsNoText bytes refusal × (new ≡ end) × (later ≡ now)
    → WritesTexts columns payload (Some refusal) start new before later
writes-refused columns place payload bytes start end new refusal before now later so below refused = record {
  whole = so.whole;
  written = so.written;
  puts = texts-refused columns place payload bytes start so.whole so.whole refusal so.texts below (refused.0, refl);
  appended = subst (λ (left : Option (List ℕ)). Appends before left so.written) (sym refused.2) so.appended;
  ends = subst (IsEnd so.written so.whole) (sym refused.1) so.ends;
}

-- its end was reached
pub writes-ended : (columns : ℕ) (payload bytes : List ℕ) (start end : Written) (before now : Option (List ℕ))
    → Writing columns payload bytes start end before now → bytes ≡ [] → WritesTexts columns payload None start end before now
writes-ended columns payload bytes start end before now so none = record {
  whole = so.whole;
  written = so.written;
  puts = texts-ended columns payload bytes start so.whole so.texts none;
  appended = so.appended;
  ends = so.ends;
}

pub writes-trailing : (columns : ℕ) (payload bytes : List ℕ) (start end : Written) (before now : Option (List ℕ))
    → Writing columns payload bytes start end before now → bytes ≢ [] → WritesTexts columns payload (Some TrailingBytes) start end before now
writes-trailing columns payload bytes start end before now so some = record {
  whole = so.whole;
  written = so.written;
  puts = texts-trailing columns payload bytes start so.whole so.texts some;
  appended = so.appended;
  ends = so.ends;
}

-- a text was put, and nothing written
pub short_text : (place : ℕ) (bytes rest : List ℕ) (old new : Written) (before : Option (List ℕ)) → PutsText place bytes rest None old new
    → WritesText place bytes rest None old new before before
short_text place bytes rest old new before one = (one.0, (one.1.0, nothing_written one.0 old new before one.1.1))

-- a value that was put as it is shown
pub shown_put : {T E : Type 0} (result : Result T E) (place : ℕ) (value : BinaryValue) (shown : Value) (old new : Written) → IsShownAs value shown
    → OnOk result (Puts ((decimal place, shown) ∷ []) old new) → OnOk result (PutsShown place value old new)
shown_put (Ok done) place value shown old new is put = (shown, (is, put))
shown_put (Err error) place value shown old new is put = tt

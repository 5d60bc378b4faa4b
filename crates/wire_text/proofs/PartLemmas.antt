-- Fields of which a part is written before the others are put.
use Rattle.std.proofs.Common.{◌≡◌, ◌≢◌, ℕ, List, [], ◌∷◌, ◌++◌, Bool, true, false, refl, sym, ap, ap₂, subst, ◌∙◌, append-nil, append_assoc, take, drop, take-append-drop, Option, Some, None, Result, Ok, Err, OnOk, length, ◌≤◌}
use Rattle.std.proofs.KnownBytes.{Appends-nil, Appends-trans}
use Rattle.std.specs.Io.KnownBytes.{Appends}
use Rattle.std.specs.Prelude.{◌==◌}
use Rattle.hex.specs.Hex.{encode_with, lower_digits}
use Rattle.wire_text.proofs.DigitLemmas.{digits_more}
use Rattle.wire_text.proofs.EscapeLemmas.{escape_append}
use Rattle.wire_text.proofs.FieldLemmas.{from_place, none_there, part_of, end_of, put_hidden}
use Rattle.wire_text.specs.declared.fields.FieldForm.{FieldForm}
use Rattle.wire_text.specs.declared.long.PartForm.{PartForm}
use Rattle.wire_text.specs.declared.long.PartForm.TheVariants.{Escaped, Digits}
use Rattle.wire_text.specs.declared.members.MemberForm.{MemberForm}
use Rattle.wire_text.specs.declared.members.MemberForm.TheVariants as member
use Rattle.wire_text.specs.Fields.{Member, Puts, Written, end_part, ended, ended_after, member_form, member_part, put, shown_after}
use Rattle.wire_text.specs.Parts.{IsEnd, WritesMember, WritesSome, is_none, part_text}

-- one part after another
part_append : (form : PartForm) (first second : List ℕ) → part_text form (first ++ second) ≡ part_text form first ++ part_text form second
part_append Escaped first second = escape_append first second
part_append Digits first second = digits_more lower_digits first second

part_none : (form : PartForm) → part_text form [] ≡ []
unfolding encode_with
part_none Escaped = refl
part_none Digits = refl

-- what is done of some bytes was written, and this is left of them
abbrev pub PartsWritten : PartForm → List ℕ → List ℕ → Option (List ℕ) → Option (List ℕ) → Type 0
PartsWritten form bytes rest before now = (done : List ℕ) × (done ++ rest ≡ bytes) × Appends before now (part_text form done)

pub parts_none : (form : PartForm) (bytes : List ℕ) (before : Option (List ℕ)) → PartsWritten form bytes bytes before before
parts_none form bytes before = ([], refl, subst (Appends before before) (sym (part_none form)) (Appends-nil before))

pub parts_more : (form : PartForm) (n : ℕ) (bytes rest part behind text : List ℕ) (before middle now : Option (List ℕ))
    → PartsWritten form bytes rest before middle → part ≡ take n rest → behind ≡ drop n rest → text ≡ part_text form part
    → Appends middle now text → PartsWritten form bytes behind before now
parts_more form n bytes rest part behind text before middle now so_far part_is behind_is text_is written = (
  so_far.0 ++ part,
  append_assoc so_far.0 part behind
      ∙ ap (λ (z : List ℕ). so_far.0 ++ z) (ap₂ (λ (a b : List ℕ). a ++ b) part_is behind_is ∙ take-append-drop n rest) ∙ so_far.1,
  subst (Appends before now) (ap (λ (z : List ℕ). part_text form so_far.0 ++ z) text_is ∙ sym (part_append form so_far.0 part))
      (Appends-trans before middle now (part_text form so_far.0) text so_far.2 written),
)

pub parts_all : (form : PartForm) (bytes rest : List ℕ) (before now : Option (List ℕ)) → PartsWritten form bytes rest before now → rest ≡ []
    → Appends before now (part_text form bytes)
parts_all form bytes rest before now so_far none =
    subst (λ (z : List ℕ). Appends before now (part_text form z)) (sym (append-nil so_far.0) ∙ ap (λ (z : List ℕ). so_far.0 ++ z) (sym none) ∙ so_far.1) so_far.2

-- words before a text, it, and words behind it
pub between : (text before body after pushed : List ℕ) (old now : Option (List ℕ)) → pushed ≡ text ++ before → Appends old now (pushed ++ body) → after ≢ []
    → WritesSome (before ++ body ++ after) text after old now
between text before body after pushed old now pushed_is written some = record {
  written = pushed ++ body;
  appended = written;
  are = ap (λ (z : List ℕ). (z ++ body) ++ after) pushed_is ∙ simp append_assoc;
  some = some;
}

-- a name before it
pub named_before : (name more text pushed left : List ℕ) (old now : Option (List ℕ)) → pushed ≡ text ++ name → WritesSome more pushed left old now
    → WritesSome (name ++ more) text left old now
named_before name more text pushed left old now pushed_is writes = record {
  written = writes.written;
  appended = writes.appended;
  are = writes.are ∙ ap (λ (z : List ℕ). z ++ more) pushed_is ∙ append_assoc text name more;
  some = writes.some;
}

-- ---- the end of fields

some_left : (left : List ℕ) → left ≢ [] → is_none left ≡ false
some_left [] some = absurd (some refl)
some_left (byte ∷ left) some = refl

some_member : (form : MemberForm) (first : Bool) (text : List ℕ) (one : Member) → is_none (text ++ member_part form first one) ≡ false
some_member form first (byte ∷ text) one = refl
some_member member.Text first [] one = refl
some_member member.Json true [] one = refl
some_member member.Json false [] one = refl

-- one more after this text
with_one : (form : FieldForm) (shown : MemberForm) (whole : Written) (one : Member) → whole.form ≡ form → member_form form ≡ Some shown
    → put whole one ≡ record { form = whole.form; before = whole.before; text = whole.text ++ member_part shown (is_none whole.text) one }
unfolding put
with_one form shown whole one is form_is =
    ap (λ (z : List ℕ). record { form = whole.form; before = whole.before; text = z })
    (ap (λ (f : Option MemberForm). shown_after f whole.text one) (ap member_form is ∙ form_is) ∙ sym (part_of shown whole.text one))

-- a field was put, and all was written but an end
pub end_written : (form : FieldForm) (shown : MemberForm) (begin : ℕ) (all new : List ℕ) (one : Member) (old : Written) (before now : Option (List ℕ))
    → old ≡ from_place form begin all → member_form form ≡ Some shown → begin ≤ length all
    → WritesSome (member_part shown (length all == begin) one) all new before now
    → WritesMember one old (from_place form 0 new) before now
end_written form shown begin all new one old before now old_is form_is within writes = record {
  written = writes.written;
  appended = writes.appended;
  ends = λ earlier whole is.
      let first : (length all == begin) ≡ is_none whole.text = none_there begin all within ∙ ap (λ (w : Written). is_none w.text) (sym old_is) ∙ is.none in
      let form_of : whole.form ≡ form = sym is.form ∙ ap (λ (w : Written). w.form) old_is in
      let held : earlier ++ all ≡ whole.before ++ whole.text =
      ap (λ (z : List ℕ). earlier ++ z) (sym (take-append-drop begin all) ∙ ap (λ (w : Written). w.before ++ w.text) (sym old_is)) ∙ is.bytes in
      let part = member_part shown (is_none whole.text) one in
      subst (λ (w : Written). IsEnd (earlier ++ writes.written) w (from_place form 0 new)) (sym (with_one form shown whole one form_of form_is)) (record {
        form = sym form_of;
        bytes = append_assoc earlier writes.written new
            ∙ ap (λ (z : List ℕ). earlier ++ z) (writes.are ∙ ap (λ (t : Bool). all ++ member_part shown t one) first)
            ∙ sym (append_assoc earlier all part) ∙ ap (λ (z : List ℕ). z ++ part) held ∙ append_assoc whole.before whole.text part;
        none = some_left new writes.some ∙ sym (some_member shown (is_none whole.text) whole.text one);
      });
}

-- none is shown
pub none_written : (form : FieldForm) (one : Member) (old : Written) (before : Option (List ℕ)) → old.form ≡ form → member_form form ≡ None
    → WritesMember one old old before before
none_written form one old before is hidden = record {
  written = [];
  appended = Appends-nil before;
  ends = λ earlier whole ends.
      let same = put_hidden form whole one (sym ends.form ∙ is) hidden in
      subst (λ (w : Written). IsEnd (earlier ++ []) w old) same.are
      (subst (λ (z : List ℕ). IsEnd z whole old) (sym (append-nil earlier)) ends);
}

-- a call that wrote all but an end
pub written_if : {T E : Type 0} (result : Result T E) (form : FieldForm) (shown : MemberForm) (begin len : ℕ) (all new : List ℕ) (one : Member) (old : Written) (before now : Option (List ℕ))
    → old ≡ from_place form begin all → member_form form ≡ Some shown → begin ≤ length all → len ≡ length all
    → OnOk result (WritesSome (member_part shown (len == begin) one) all new before now)
    → OnOk result (WritesMember one old (from_place form 0 new) before now)
written_if (Ok _) form shown begin len all new one old before now old_is form_is within long writes =
    end_written form shown begin all new one old before now old_is form_is within
    (subst (λ (n : ℕ). WritesSome (member_part shown (n == begin) one) all new before now) long writes)
written_if (Err _) form shown begin len all new one old before now old_is form_is within long writes = tt

-- one more after an end
put_end : (form : Option MemberForm) (earlier : List ℕ) (whole old : Written) (one : Member) → member_form old.form ≡ form → IsEnd earlier whole old
    → IsEnd earlier (put whole one) (put old one)
put_end None earlier whole old one form_is is =
    subst (λ (w : Written). IsEnd earlier w (put old one)) (put_hidden old.form whole one (sym is.form) form_is).are
    (subst (IsEnd earlier whole) (put_hidden old.form old one refl form_is).are is)
put_end (Some shown) earlier whole old one form_is is =
    let part = member_part shown (is_none whole.text) one in
    let first = ap (λ (t : Bool). member_part shown t one) is.none in
    subst (λ (w : Written). IsEnd earlier w (put old one)) (sym (with_one old.form shown whole one (sym is.form) form_is))
    (subst (IsEnd earlier (record { form = whole.form; before = whole.before; text = whole.text ++ part })) (sym (with_one old.form shown old one refl form_is)) (record {
      form = is.form;
      bytes = ap (λ (z : List ℕ). earlier ++ (old.before ++ (old.text ++ z))) first
          ∙ ap (λ (z : List ℕ). earlier ++ z) (sym (append_assoc old.before old.text part))
          ∙ sym (append_assoc earlier (old.before ++ old.text) part)
          ∙ ap (λ (z : List ℕ). z ++ part) is.bytes ∙ append_assoc whole.before whole.text part;
      none = some_member shown (is_none old.text) old.text one ∙ sym (some_member shown (is_none whole.text) whole.text one);
    }))

pub end_put : (earlier : List ℕ) (whole old new : Written) (one : Member) → IsEnd earlier whole old → Puts (one ∷ []) old new
    → IsEnd earlier (put whole one) new
end_put earlier whole old new one is puts =
    subst (IsEnd earlier (put whole one)) (sym puts.are) (put_end (member_form old.form) earlier whole old one refl is)

-- and the end of all
ended_end : (form : Option MemberForm) (earlier : List ℕ) (whole old : Written) → member_form old.form ≡ form → IsEnd earlier whole old
    → earlier ++ ((ended old).before ++ (ended old).text) ≡ (ended whole).before ++ (ended whole).text
unfolding ended
ended_end None earlier whole old form_is is =
    ap (λ (f : Option MemberForm). earlier ++ (old.before ++ ended_after f old.text)) form_is ∙ is.bytes
    ∙ sym (ap (λ (f : Option MemberForm). whole.before ++ ended_after f whole.text) (ap member_form (sym is.form) ∙ form_is))
ended_end (Some shown) earlier whole old form_is is =
    let part = end_part shown (is_none whole.text) in
    ap (λ (f : Option MemberForm). earlier ++ (old.before ++ ended_after f old.text)) form_is
    ∙ ap (λ (z : List ℕ). earlier ++ (old.before ++ z)) (sym (end_of shown old.text) ∙ ap (λ (t : Bool). old.text ++ end_part shown t) is.none)
    ∙ ap (λ (z : List ℕ). earlier ++ z) (sym (append_assoc old.before old.text part))
    ∙ sym (append_assoc earlier (old.before ++ old.text) part)
    ∙ ap (λ (z : List ℕ). z ++ part) is.bytes ∙ append_assoc whole.before whole.text part
    ∙ ap (λ (z : List ℕ). whole.before ++ z) (end_of shown whole.text)
    ∙ sym (ap (λ (f : Option MemberForm). whole.before ++ ended_after f whole.text) (ap member_form (sym is.form) ∙ form_is))

pub end_ended : (earlier : List ℕ) (whole old new : Written) → IsEnd earlier whole old → new ≡ ended old
    → earlier ++ (new.before ++ new.text) ≡ (ended whole).before ++ (ended whole).text
end_ended earlier whole old new is new_is =
    ap (λ (w : Written). earlier ++ (w.before ++ w.text)) new_is ∙ ended_end (member_form old.form) earlier whole old refl is

-- nothing was written
pub end_itself : (written : Written) → IsEnd [] written written
end_itself written = record { form = refl; bytes = refl; none = refl }

-- a field was put, and nothing written
pub nothing_written : (one : Member) (old new : Written) (before : Option (List ℕ)) → Puts (one ∷ []) old new → WritesMember one old new before before
nothing_written one old new before puts = record {
  written = [];
  appended = Appends-nil before;
  ends = λ earlier whole ends.
      subst (λ (z : List ℕ). IsEnd z (put whole one) new) (sym (append-nil earlier)) (end_put earlier whole old new one ends puts);
}

-- Values of a row that came one by one.
use Rattle.std.proofs.Common.{◌≡◌, ◌+◌, ℕ, List, [], ◌∷◌, drop, length, refl, subst, ap, ◌∙◌, sym, arith, None, Some, Ok, Err}
use Rattle.std.specs.Fmt.{decimal}
use Rattle.wire_text.specs.Fields.{Written, member_form}
use Rattle.mysql_wire_queries.specs.RowValues.{GivesAll, GivesValue, PassesTo, error_of}
use Rattle.mysql_wire_queries.specs.TextValues.{ReadsValue, value_of}
use Rattle.mysql_wire_queries.specs.declared.text_row.TextFault.{TextFault}
use Rattle.mysql_wire_queries.specs.declared.text_row.TextValue.{TextValue}
use Rattle.mysql_wire_queries.specs.declared.text_values.TextValues.{TextValues}
use Rattle.mysql_wire_session.specs.Refusals.{refusal_of_wire}
use Rattle.mysql_wire_session.specs.declared.refusal.Refusal.{Refusal}
use Rattle.mysql_wire_dump_lines.specs.ValueFields.{IsNoText, IsTextAt, PutsTexts, TextsSoFar, text_shown}
use Rattle.mysql_wire_dump_lines.proofs.ValueLemmas.{texts-ended, texts-none, texts-passed}

-- a value that came is a text of the row
pub given_text : (place : ℕ) (bytes : List ℕ) (old new : TextValues) (value : TextValue) → old.rest.0.now ≡ bytes
    → GivesValue old (Some (Ok value)) new
    → IsTextAt place bytes (decimal place, text_shown (value_of value)) new.rest.0.now
given_text place bytes old new value is (goes_on, stands, (eaten, fits, left, read)) = record {
  value = value_of value;
  eaten = eaten;
  reads = subst (λ z. ReadsValue z (Ok (value_of value)) eaten) is read;
  behind_is = left ∙ ap (drop eaten) is;
  member_is = refl;
}

-- one that was refused is none
pub given_refusal : (bytes : List ℕ) (old new : TextValues) (fault : TextFault) (refusal : Refusal) → old.rest.0.now ≡ bytes
    → GivesValue old (Some (Err fault)) new → refusal_of_wire (error_of fault) ≡ Ok refusal → IsNoText bytes refusal
given_refusal bytes old new fault refusal is (goes_on, stands, stays, (left, (eaten, fits, left_is, read))) named = record {
  error = error_of fault;
  eaten = eaten;
  reads = subst (λ z. ReadsValue z (Err (error_of fault)) eaten) is read;
  named = named;
}

-- of values that came nothing was put, where fields are hidden
given_hidden : (values : List TextValue) (place : ℕ) (payload : List ℕ) (old new : TextValues) (fields : Written) → member_form fields.form ≡ None
    → TextsSoFar place payload old.rest.0.now fields fields → GivesAll old values new
    → TextsSoFar (place + length values) payload new.rest.0.now fields fields
given_hidden [] place payload old new fields hidden so same =
    let whole : place ≡ place + 0 = omega arith in
    subst (λ (n : ℕ). TextsSoFar n payload new.rest.0.now fields fields) whole
    (subst (λ (values : TextValues). TextsSoFar place payload values.rest.0.now fields fields) same so)
given_hidden (value ∷ others) place payload old new fields hidden so (mid, gives, more) =
    let text = given_text place old.rest.0.now old mid value refl gives in
    let one = texts-passed place payload old.rest.0.now mid.rest.0.now fields (decimal place, text_shown (value_of value)) hidden so text in
    let places : place + 1 + length others ≡ place + length (value ∷ others) = omega arith in
    subst (λ (n : ℕ). TextsSoFar n payload new.rest.0.now fields fields) places
    (given_hidden others (place + 1) payload mid new fields hidden one more)

pub row_passed : (columns : ℕ) (payload : List ℕ) (old : TextValues) (left : List ℕ) → old.rest.0.now ≡ payload → PassesTo old columns left → left ≡ []
    → (fields : Written) → member_form fields.form ≡ None → PutsTexts columns payload None fields fields
row_passed columns payload old left begins passed none fields hidden =
    let first = subst (λ (z : List ℕ). TextsSoFar 0 payload z fields fields) (sym begins) (texts-none payload fields) in
    let so = given_hidden passed.values 0 payload old passed.left fields hidden first passed.given in
    let all : 0 + length passed.values ≡ columns = omega (arith, passed.counted) in
    texts-ended columns payload passed.left.rest.0.now fields fields
    (subst (λ (n : ℕ). TextsSoFar n payload passed.left.rest.0.now fields fields) all so) (passed.left_is ∙ none)

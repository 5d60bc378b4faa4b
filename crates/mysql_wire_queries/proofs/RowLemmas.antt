-- The values of a row, one by one, and all at once.
use Rattle.std.specs.Prelude.{ℕ, ◌≡◌, ◌≤◌, ◌<◌, ◌+◌, ◌⊎◌, true, false, List, [], ◌∷◌, length, drop, Option, Some, None, Result, Ok, Err}
use Rattle.std.proofs.Common.{zero, suc, refl, sym, ap, subst, ◌∙◌, arith, inl, inr}
use Rattle.std.proofs.lemmas.List.{length-append, length-drop, drop-drop}
use Rattle.wire_buf.specs.declared.error.WireError.{WireError}
use Rattle.wire_buf.specs.declared.error.WireError.TheVariants.{UnexpectedEof, Other, OutOfMemory}
use Rattle.wire_buf.specs.Lenenc.{IsLenenc, IsLenencOrMark}
use Rattle.wire_buf.specs.Reading.{Reads}
use Rattle.wire_buf.specs.Spelling.{SpellsNothing}
use Rattle.wire_forms.specs.Spelled.{Leaves, NumberOrEof, TextBehind}
use Rattle.wire_values.specs.Elements.{ReadsEach}
use Rattle.mysql_wire_queries.specs.TextValues.{value_of, ReadsValue}
use Rattle.mysql_wire_queries.specs.RowValues.{error_of, GivesAll, GivesValue, IsDone, ReadsTextValue, RefusesAs}
use Rattle.mysql_wire_queries.specs.declared.text_row.TextValue.{TextValue}
use Rattle.mysql_wire_queries.specs.declared.text_row.TextFault.{TextFault}
use Rattle.mysql_wire_queries.specs.declared.text_row.TextFault.TheVariants as fault
use Rattle.mysql_wire_queries.specs.declared.text_values.TextValues.{TextValues}

-- ---- one value

-- a spelling has a byte
lenenc_some : (n : ℕ) (bytes : List ℕ) → IsLenenc n bytes → 1 ≤ length bytes
lenenc_some n bytes (inl (is, below)) = omega (arith, ap length is)
lenenc_some n bytes (inr (inl (rest, is, _, _))) = omega (arith, ap length is)
lenenc_some n bytes (inr (inr (inl (rest, is, _, _)))) = omega (arith, ap length is)
lenenc_some n bytes (inr (inr (inr (rest, is, _, _)))) = omega (arith, ap length is)

spelled_some : (n : ℕ) (bytes : List ℕ) → IsLenencOrMark n bytes → 1 ≤ length bytes
spelled_some n bytes (inl spells) = lenenc_some n bytes spells
spelled_some n bytes (inr (none, inl is)) = omega (arith, ap length is)
spelled_some n bytes (inr (none, inr is)) = omega (arith, ap length is)

-- a text is there, so its length was eaten
text_some : (text input : List ℕ) (eaten : ℕ)
    → Leaves (TextBehind (NumberOrEof IsLenencOrMark 1)) input (Ok text) eaten → 1 ≤ eaten
text_some text input eaten (fits, (mid, (spelling, spells, is), at)) =
    omega (
      arith,
      fits,
      spelled_some (length text) spelling spells,
      ap length is,
      length-append spelling mid,
      ap length at,
      length-append text (drop eaten input),
      length-drop eaten input,
    )

value_some : (value : Option (List ℕ)) (input : List ℕ) (eaten : ℕ)
    → ReadsValue input (Ok value) eaten → 1 ≤ eaten
value_some value input eaten (inl (_, (_, all))) = omega (arith, all)
value_some value input eaten (inr (inl (_, (answered, _)))) =
    let failed : ◌≡◌ {A = Result (Option (List ℕ)) WireError} (Ok value) (Err (Other (record {}))) =
    answered in
    absurd (cc failed)
value_some None input eaten (inr (inr (_, _, read))) = absurd read
value_some (Some text) input eaten (inr (inr (_, _, read))) = text_some text input eaten read

-- a value that is read has a byte
pub shorter : (old new : List ℕ) (value : TextValue) → Reads ReadsTextValue old (Ok value) new
    → length new < length old
shorter old new value (eaten, fits, left, read) =
    omega (
      arith,
      fits,
      value_some (value_of value) old eaten read,
      ap length left,
      length-drop eaten old,
    )

-- no spelling is in front of nothing
nothing_spelled : SpellsNothing IsLenencOrMark []
nothing_spelled n rest (spelling, spells, is) =
    absurd (omega (
      arith,
      spelled_some n spelling spells,
      ap length is,
      length-append spelling rest,
    ))

-- where no byte is left, that is an end of input
ends_early : ReadsValue [] (Err UnexpectedEof) 0
ends_early =
    inr (inr ((λ at. cc at), (λ at. cc at), (omega arith, inl (refl, (nothing_spelled, refl)))))

-- what is refused is one of the refusals
fault_of : (input : List ℕ) (error : WireError) (eaten : ℕ) → ReadsValue input (Err error) eaten
    → (why : TextFault) × (error ≡ error_of why) × (eaten ≤ length input)
fault_of input error eaten (inl (_, (answered, _))) =
    let came : ◌≡◌ {A = Result (Option (List ℕ)) WireError} (Err error) (Ok None) = answered in
    absurd (cc came)
fault_of input error eaten (inr (inl (_, (answered, none)))) =
    let same : ◌≡◌ {A = Result (Option (List ℕ)) WireError} (Err error) (Err (Other (record {}))) =
    answered in
    (fault.InvalidLength, cc same, omega (arith, none))
fault_of input error eaten (inr (inr (_, _, (fits, inl (is, _))))) =
    (fault.UnexpectedEof, is, fits)
fault_of input error eaten (inr (inr (_, _, (fits, inr (len, _, _, is))))) =
    (fault.UnexpectedEof, is, fits)

early_fault : (error : WireError) (eaten : ℕ) → ReadsValue [] (Err error) eaten
    → error ≡ UnexpectedEof
early_fault error eaten (inl (at, _)) = absurd (cc at)
early_fault error eaten (inr (inl (at, _))) = absurd (cc at)
early_fault error eaten (inr (inr (_, _, (fits, inl (is, _))))) = is
early_fault error eaten (inr (inr (_, _, (fits, inr (len, _, _, is))))) = is

-- ---- all of them

-- the values that came are read so
pub given_each : (values : List TextValue) (old new : TextValues) → GivesAll old values new
    → (eaten : ℕ) × (new.rest.0.now ≡ drop eaten old.rest.0.now)
    × ReadsEach (Unit {0}) ReadsTextValue (length values) old.rest.0.now (Ok values) eaten
given_each [] old new same =
    (0, ap (λ values. values.rest.0.now) (sym same), (refl, refl))
given_each (value ∷ others) old new (mid, (_, _, (taken, fits, left, read)), more) =
    let (after, rest, each) = given_each others mid new more in
    let there : new.rest.0.now ≡ drop (taken + after) old.rest.0.now =
    rest ∙ ap (drop after) left ∙ drop-drop after taken old.rest.0.now in
    let others_read = subst (λ input. ReadsEach (Unit {0}) ReadsTextValue (length others) input
    (Ok others) after) left each in
    (taken + after, there, inr (inr (value, taken, after, Ok others, fits, read, others_read, refl, refl)))

-- a refusal after fewer values is a refusal of all
pub failed_each : (before : List TextValue) (count : ℕ) (old left : TextValues) (error : WireError)
    (gone : ℕ) → GivesAll old before left → ReadsTextValue left.rest.0.now (Err error) gone
    → length before < count
    → (eaten : ℕ) × ReadsEach (Unit {0}) ReadsTextValue count old.rest.0.now (Err error) eaten
failed_each before zero old left error gone given read few = absurd (omega (arith, few))
failed_each [] (suc count) old left error gone same read few =
    let there : ReadsTextValue old.rest.0.now (Err error) gone =
    subst (λ values. ReadsTextValue values.rest.0.now (Err error) gone) (sym same) read in
    (gone, inr (inl (error, refl, there)))
failed_each (value ∷ others) (suc count) old left error gone
    (mid, (_, _, (taken, fits, at, first)), more) read few =
    let (after, each) = failed_each others count mid left error gone more read (omega (arith, few)) in
    let others_read = subst (λ input. ReadsEach (Unit {0}) ReadsTextValue count input (Err error)
    after) at each in
    (taken + after, inr (inr (value, taken, after, Err error, fits, first, others_read, refl, refl)))

-- what is left after a value of this many bytes
abbrev pub behind_value : TextValues → ℕ → TextValues
behind_value old taken =
    record old { rest = record old.rest { 0 = record old.rest.0 { now = drop taken old.rest.0.now } } }

-- a value that is read comes next
pub step_read : (old : TextValues) → old.has_refused ≡ false → (value : TextValue) (taken : ℕ)
    → taken ≤ length old.rest.0.now → ReadsTextValue old.rest.0.now (Ok value) taken
    → GivesValue old (Some (Ok value)) (behind_value old taken)
step_read old begun value taken fits read =
    let some = value_some (value_of value) old.rest.0.now taken read in
    let goes_on : ¬ (IsDone old) = λ done. elim done [
      | inl nothing ↦ absurd (omega (arith, some, fits, ap length nothing))
      | inr refused ↦ cc (refused, begun)
    ] in
    (goes_on, begun, (taken, fits, refl, read))

-- values that are read come one by one
pub read_each : (count : ℕ) (old : TextValues) → old.has_refused ≡ false → (values : List TextValue)
    (eaten : ℕ) (answer : Result (List TextValue) WireError) → answer ≡ Ok values
    → ReadsEach (Unit {0}) ReadsTextValue count old.rest.0.now answer eaten
    → (new : TextValues) × GivesAll old values new × (length values ≡ count)
    × (new.rest.0.now ≡ drop eaten old.rest.0.now)
read_each zero old begun values eaten answer is (answered, none) =
    let same : values ≡ [] = cc (is, answered) in
    let whole : old.rest.0.now ≡ drop eaten old.rest.0.now =
    sym (ap (λ count. drop count old.rest.0.now) none) in
    (old, subst (λ values. GivesAll old values old) (sym same) refl, ap length same, whole)
read_each (suc count) old begun values eaten answer is (inl (_, failed, _)) =
    absurd (cc (is, failed))
read_each (suc count) old begun values eaten answer is (inr (inl (_, failed, _))) =
    absurd (cc (is, failed))
read_each (suc count) old begun values eaten answer is
    (inr (inr (value, taken, after, Err error, fits, read, more, answered, all))) =
    absurd (cc (is, answered))
read_each (suc count) old begun values eaten answer is
    (inr (inr (value, taken, after, Ok others, fits, read, more, answered, all))) =
    let same : values ≡ value ∷ others = cc (is, answered) in
    let mid : TextValues = behind_value old taken in
    let (new, given, counted, left) = read_each count mid begun others after (Ok others) refl more in
    let there : new.rest.0.now ≡ drop eaten old.rest.0.now =
    left ∙ drop-drop after taken old.rest.0.now
    ∙ sym (ap (λ count. drop count old.rest.0.now) all) in
    let all_given : GivesAll old (value ∷ others) new =
    (mid, step_read old begun value taken fits read, given) in (
      new,
      subst (λ values. GivesAll old values new) (sym same) all_given,
      ap length same ∙ ap suc counted,
      there,
    )

-- how a row is refused: for want of memory, or after some of its values
pub why_each : (count : ℕ) (old : TextValues) → old.has_refused ≡ false → (error : WireError)
    (eaten : ℕ) (answer : Result (List TextValue) WireError) → answer ≡ Err error
    → ReadsEach (Unit {0}) ReadsTextValue count old.rest.0.now answer eaten
    → (error ≡ OutOfMemory) ⊎ ((before : List TextValue) × (left : TextValues)
    × (length before < count) × GivesAll old before left × (left.has_refused ≡ false) × (gone : ℕ)
    × ReadsTextValue left.rest.0.now (Err error) gone)
why_each zero old begun error eaten answer is (answered, none) = absurd (cc (is, answered))
why_each (suc count) old begun error eaten answer is (inl (_, refused, _)) =
    inl (cc (is, refused))
why_each (suc count) old begun error eaten answer is (inr (inl (why, refused, read))) =
    let same : why ≡ error = cc (is, refused) in
    let refused_here = subst (λ why. ReadsTextValue old.rest.0.now (Err why) eaten) same read in
    inr ([], old, omega arith, refl, begun, eaten, refused_here)
why_each (suc count) old begun error eaten answer is
    (inr (inr (value, taken, after, Ok others, fits, read, more, answered, all))) =
    absurd (cc (is, answered))
why_each (suc count) old begun error eaten answer is
    (inr (inr (value, taken, after, Err why, fits, read, more, answered, all))) =
    let same : why ≡ error = cc (is, answered) in
    let mid : TextValues = behind_value old taken in
    elim (why_each count mid begun why after (Err why) refl more) [
      | inl memory ↦ inl (sym same ∙ memory)
      | inr (before, left, few, given, standing, gone, refused) ↦
          inr (
            value ∷ before,
            left,
            omega (arith, few),
            (mid, step_read old begun value taken fits read, given),
            standing,
            gone,
            subst (λ why. ReadsTextValue left.rest.0.now (Err why) gone) same refused,
          )
    ]

-- ---- refusals

pub refused_is : (left : TextValues) (error : WireError) → RefusesAs left error
    → (gone : ℕ) × ReadsTextValue left.rest.0.now (Err error) gone
refused_is left error (inl (nothing, is)) = (
  0,
  subst (λ input. ReadsTextValue input (Err error) 0) (sym nothing)
      (subst (λ error. ReadsValue [] (Err error) 0) (sym is) ends_early),
)
refused_is left error (inr (why, new, (_, _, _, (rest, (gone, _, _, read))), is)) =
    (gone, subst (λ error. ReadsTextValue left.rest.0.now (Err error) gone) (sym is) read)

refuses_bytes : (left : TextValues) (input : List ℕ) → left.rest.0.now ≡ input
    → left.has_refused ≡ false → (error : WireError) (gone : ℕ)
    → ReadsTextValue input (Err error) gone → RefusesAs left error
refuses_bytes left [] at begun error gone read = inl (at, early_fault error gone read)
refuses_bytes left (byte ∷ rest) at begun error gone read =
    let (why, is, fits) = fault_of (byte ∷ rest) error gone read in
    let goes_on : ¬ (IsDone left) = λ done. elim done [
      | inl nothing ↦ cc (nothing, at)
      | inr refused ↦ cc (refused, begun)
    ] in
    let told : Reads ReadsTextValue left.rest.0.now (Err (error_of why))
    (drop gone left.rest.0.now) =
    subst (λ input. Reads ReadsTextValue input (Err (error_of why)) (drop gone input)) (sym at)
    (gone, fits, refl, subst (λ error. ReadsTextValue (byte ∷ rest) (Err error) gone) is read) in
    inr (
      why,
      record left { has_refused = true },
      (goes_on, refl, refl, (drop gone left.rest.0.now, told)),
      is,
    )

pub refuses : (left : TextValues) → left.has_refused ≡ false → (error : WireError) (gone : ℕ)
    → ReadsTextValue left.rest.0.now (Err error) gone → RefusesAs left error
refuses left begun error gone read =
    refuses_bytes left left.rest.0.now refl begun error gone read

-- Numbers and texts of variable length, by what stood in a buffer before and what is left.
use Rattle.std.specs.Prelude.{ℕ, ◌≡◌, ◌≤◌, ◌<◌, List, ◌++◌, length, drop, Some, None, Result, Ok, Err, ◌⊎◌}
use Rattle.std.proofs.Common.{refl, sym, ap, subst, ◌∙◌, arith, inl, inr}
use Rattle.std.proofs.lemmas.List.{drop_at, length-append, length-drop, append_assoc, drop_all}
use Rattle.wire_buf.specs.declared.error.WireError.{WireError}
use Rattle.wire_buf.specs.declared.error.WireError.TheVariants.{UnexpectedEof}
use Rattle.std.proofs.lemmas.Bool.{cases_lt}
use Rattle.wire_buf.specs.Reading.{Reads, Answers}
use Rattle.wire_buf.specs.Spelling.{ReadsNumber}
use Rattle.wire_buf.specs.SpellingLemmas.{IsPrefixFree, ReadsNumber-same, same_parts}

-- The relation `tells` is of the bytes before, the answer and the bytes left. So it is of the count
-- of those that are eaten.
abbrev pub Leaves : {X : Type 0} → (List ℕ → Result X WireError → List ℕ → Type 0) → List ℕ
    → Result X WireError → ℕ → Type 0
Leaves tells input answer eaten = (eaten ≤ length input) × tells input answer (drop eaten input)

-- as `ReadsNumber`, where no number is an end of input
abbrev pub NumberOrEof : (ℕ → List ℕ → Type 0) → ℕ → List ℕ → Result ℕ WireError → List ℕ → Type 0
NumberOrEof spells lost old (Ok n) new = ReadsNumber spells lost old (Some n) new
NumberOrEof spells lost old (Err error) new = (error ≡ UnexpectedEof)
    × ReadsNumber spells lost old None new

-- A length is read as `tells` says, and then this many bytes, which are the text. Where fewer are
-- left, the length alone is eaten.
abbrev pub TextBehind : (List ℕ → Result ℕ WireError → List ℕ → Type 0) → List ℕ
    → Result (List ℕ) WireError → List ℕ → Type 0
TextBehind tells old (Ok text) new = (mid : List ℕ) × tells old (Ok (length text)) mid
    × (mid ≡ text ++ new)
TextBehind tells old (Err error) new =
    tells old (Err error) new
    ⊎ ((len : ℕ) × tells old (Ok len) new × (length new < len) × (error ≡ UnexpectedEof))

-- what is written of such a text, where the length is spelled like this
abbrev pub text_behind : (ℕ → List ℕ) → List ℕ → List ℕ
text_behind spell text = spell (length text) ++ text

-- ---- lemmas

-- what is left are the last of the bytes
pub Reads-left : {X : Type 0} (tells : List ℕ → Result X WireError → List ℕ → Type 0) (old : List ℕ)
    (answer : Result X WireError) (new front : List ℕ)
    → old ≡ front ++ new → tells old answer new → Reads (Leaves tells) old answer new
Reads-left tells old answer new front whole told =
    let there : length front ≤ length old =
    omega (arith, ap length whole, length-append front new) in
    let left : new ≡ drop (length front) old =
    sym (ap (drop (length front)) whole ∙ drop_at front new (length front) refl) in
    (length front, there, left, (there, subst (tells old answer) left told))

-- a relation that answers this to these bytes, whatever follows them, and eats them
abbrev pub TellsBack : {X : Type 0} → (List ℕ → Result X WireError → List ℕ → Type 0) → List ℕ → X
    → Type 0
TellsBack {X} tells bytes x = (rest : List ℕ) (answer : Result X WireError) (new : List ℕ)
    → tells (bytes ++ rest) answer new → (answer ≡ Ok x) × (new ≡ rest)

pub Leaves-back : {X : Type 0} (tells : List ℕ → Result X WireError → List ℕ → Type 0)
    (bytes : List ℕ) (x : X) → TellsBack tells bytes x
    → (rest : List ℕ) (answer : Result X WireError) (eaten : ℕ)
    → Leaves tells (bytes ++ rest) answer eaten → Answers (Ok x, length bytes) answer eaten
Leaves-back tells bytes x back rest answer eaten (there, told) =
    let (is, left) = back rest answer (drop eaten (bytes ++ rest)) told in
    let count : eaten ≡ length bytes =
    omega (
      arith,
      there,
      ap length left,
      length-drop eaten (bytes ++ rest),
      length-append bytes rest,
    ) in
    (is, count)

-- a spelling of a number, in a format in which no other begins the same bytes
pub NumberOrEof-back : (spells : ℕ → List ℕ → Type 0) → IsPrefixFree spells
    → (lost n : ℕ) (bytes : List ℕ) → spells n bytes → TellsBack (NumberOrEof spells lost) bytes n
NumberOrEof-back spells free lost n bytes is rest (Ok m) new told =
    let same = ReadsNumber-same spells free lost (bytes ++ rest) (Some m) (Some n) new rest told
    (bytes, is, refl) in
    let value : m ≡ n = cc same.0 in
    (ap Ok value, same.1)
NumberOrEof-back spells free lost n bytes is rest (Err error) new (_, told) =
    absurd (told.0 n rest (bytes, is, refl))

-- a text after its length
pub TextBehind-back : (tells : List ℕ → Result ℕ WireError → List ℕ → Type 0)
    (spelling text : List ℕ) → TellsBack tells spelling (length text)
    → TellsBack (TextBehind tells) (spelling ++ text) text
TextBehind-back tells spelling text back rest (Ok read) new (mid, told, parts) =
    let (is, left) = back (text ++ rest) (Ok (length read)) mid
    (subst (λ b. tells b (Ok (length read)) mid) (append_assoc spelling text rest) told) in
    let as_long : length read ≡ length text = cc is in
    let same = same_parts read text new rest (sym parts ∙ left) as_long in
    (ap Ok same.0, same.1)
TextBehind-back tells spelling text back rest (Err error) new (inl told) =
    let (is, _) = back (text ++ rest) (Err error) new
    (subst (λ b. tells b (Err error) new) (append_assoc spelling text rest) told) in
    let answered : ◌≡◌ {A = Result ℕ WireError} (Err error) (Ok (length text)) = is in
    cc answered
TextBehind-back tells spelling text back rest (Err error) new (inr (len, told, short, _)) =
    let (is, left) = back (text ++ rest) (Ok len) new
    (subst (λ b. tells b (Ok len) new) (append_assoc spelling text rest) told) in
    let as_long : len ≡ length text = cc is in
    absurd (omega (arith, short, as_long, ap length left, length-append text rest))

-- a reader that tells this of a number has read it so, with the front eaten or this many bytes
NumberOrEof-left_err : (spells : ℕ → List ℕ → Type 0) (lost : ℕ) (old : List ℕ) (error : WireError)
    (new : List ℕ) → lost ≤ length old
    → NumberOrEof spells lost old (Err error) new
    → Reads (Leaves (NumberOrEof spells lost)) old (Err error) new
NumberOrEof-left_err spells lost old error new there told =
    (lost, there, told.1.1, (there, (told.0, (told.1.0, refl))))

NumberOrEof-left_none : (spells : ℕ → List ℕ → Type 0) (lost : ℕ) (old : List ℕ) (error : WireError)
    (new : List ℕ) → length old ≤ lost
    → NumberOrEof spells lost old (Err error) new
    → Reads (Leaves (NumberOrEof spells lost)) old (Err error) new
NumberOrEof-left_none spells lost old error new short told =
    let all : drop lost old ≡ drop (length old) old =
    drop_all lost old short ∙ sym (drop_all (length old) old (omega arith)) in
    (length old, omega arith, told.1.1 ∙ all, (omega arith, (told.0, (told.1.0, sym all))))

pub NumberOrEof-left : (spells : ℕ → List ℕ → Type 0) (lost : ℕ) (old : List ℕ)
    (answer : Result ℕ WireError) (new : List ℕ)
    → NumberOrEof spells lost old answer new
    → Reads (Leaves (NumberOrEof spells lost)) old answer new
NumberOrEof-left spells lost old (Ok n) new told =
    Reads-left (NumberOrEof spells lost) old (Ok n) new told.0 told.2 told
NumberOrEof-left spells lost old (Err error) new told = elim (cases_lt (length old) lost) [
  | inl short ↦ NumberOrEof-left_none spells lost old error new (omega (arith, short)) told
  | inr there ↦ NumberOrEof-left_err spells lost old error new there told
]

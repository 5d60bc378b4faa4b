-- What stands on the wire for a parameter of a query, and that it is read back.
use Rattle.std.specs.Prelude.{ℕ, ◌<◌, ◌^◌, ◌≡◌, List, [], ◌++◌, length, Some, Result, ◌⊎◌}
use Rattle.std.specs.Cow.{cow_slice_items}
use Rattle.std.specs.List.{All}
use Rattle.std.specs.declared.borrow.CowSlice.{CowSlice}
use Rattle.mysql_wire.specs.ElementLaws.{AllKept}
use Rattle.mysql_wire.specs.WireError.{WireError}
use Rattle.mysql_wire.specs.Law.{ComesBack, ReadsFixed, Parses-back, Through-back, size-is}
use Rattle.mysql_wire.specs.Lenenc.{IsLenencOrMark, lenenc_bytes}
use Rattle.mysql_wire.specs.NumberLemmas.{length-le_bytes}
use Rattle.mysql_wire.specs.Numbers.{le_bytes, le_number}
use Rattle.mysql_wire.specs.PrefixedTexts.{lenenc_text-back}
use Rattle.mysql_wire.specs.RawNumbers.{le_bytes-back}
use Rattle.mysql_wire.specs.RawTexts.{IsText, IsBorrowedText, Borrows, Borrows-back}
use Rattle.mysql_wire.specs.Reading.{Parses, Through}
use Rattle.mysql_wire.specs.Rows.{ReadsBoth, both-back}
use Rattle.mysql_wire.specs.Spelled.{Leaves, NumberOrEof, TextBehind}
use Rattle.mysql_wire_examples.specs.declared.parameters.Parameter.{Parameter}

abbrev name_bytes : List ℕ → List ℕ
name_bytes name = lenenc_bytes (length name) ++ name

-- two bytes of type and flags, and the name after its length
abbrev pub parameter_bytes : Parameter → List ℕ
parameter_bytes parameter =
    le_bytes 2 parameter.type_and_flags.0 ++ name_bytes (cow_slice_items parameter.name.0)

-- both are values of their types
abbrev pub IsParameter : Parameter → Type 0
IsParameter parameter =
    (parameter.type_and_flags.0 < 2 ^ 16) × IsText (cow_slice_items parameter.name.0)

-- the same parameter, with its name borrowed
abbrev pub SameParameter : Parameter → Parameter → Type 0
SameParameter parameter back =
    (back.type_and_flags.0 ≡ parameter.type_and_flags.0)
    × IsBorrowedText back.name.0 (cow_slice_items parameter.name.0)

-- a list of this many parameters
abbrev pub AreParameters : ℕ → List Parameter → Type 0
AreParameters count parameters = All IsParameter parameters × (count ≡ length parameters)
    × (length parameters < 2 ^ 64)

-- the same parameters, in a list that is read
abbrev pub SameParameters : {Z : Type 0} → List Parameter → CowSlice Parameter Z → Type 0
SameParameters parameters back = AllKept SameParameter parameters (cow_slice_items back)

-- two bytes are read, and then a text after its length
abbrev pub ReadsParameter : List ℕ → Result Parameter WireError → ℕ → Type 0
ReadsParameter = ReadsBoth (λ parameter. parameter.type_and_flags) (λ parameter. parameter.name)
    (Parses (Some 2) (λ input. Through (λ number. number.0) (ReadsFixed 2 le_number input)))
    (λ input. Borrows (λ text. text.0) (Leaves (TextBehind (NumberOrEof IsLenencOrMark 1)) input))

-- ---- lemmas

number-back : {X : Type 0} (number : X → ℕ) (n : ℕ) (rest : List ℕ) → n < 2 ^ 16
    → (answer : Result X WireError) (eaten : ℕ)
    → Parses (Some 2) (λ input. Through number (ReadsFixed 2 le_number input))
    (le_bytes 2 n ++ rest) answer eaten
    → ComesBack (λ field. number field ≡ n) ⊥ (length (le_bytes 2 n)) answer eaten
number-back number n rest fits =
    let bytes = le_bytes 2 n in
    Parses-back (Some 2) (λ input. Through number (ReadsFixed 2 le_number input))
    (λ field. number field ≡ n) ⊥ bytes rest
    (λ size stated. size-is 2 size (length bytes) stated (length-le_bytes 2 n))
    (Through-back number (ReadsFixed 2 le_number (bytes ++ [])) n (length bytes)
    (le_bytes-back 2 n [] fits))

-- what was written of a parameter is read back
pub parameter-back : (parameter : Parameter) (rest : List ℕ) → IsParameter parameter
    → (answer : Result Parameter WireError) (eaten : ℕ)
    → ReadsParameter (parameter_bytes parameter ++ rest) answer eaten
    → ComesBack (SameParameter parameter) (⊥ ⊎ ⊥) (length (parameter_bytes parameter)) answer eaten
parameter-back parameter rest is =
    let n = parameter.type_and_flags.0 in
    let name = cow_slice_items parameter.name.0 in
    both-back (λ back. back.type_and_flags) (λ back. back.name)
    (Parses (Some 2) (λ input. Through (λ number. number.0) (ReadsFixed 2 le_number input)))
    (λ input. Borrows (λ text. text.0) (Leaves (TextBehind (NumberOrEof IsLenencOrMark 1)) input))
    (λ number. number.0 ≡ n) (λ text. IsBorrowedText text.0 name) ⊥ ⊥ (le_bytes 2 n)
    (name_bytes name) rest
    (number-back (λ number. number.0) n (name_bytes name ++ rest) is.0)
    (Borrows-back (λ text. text.0)
    (Leaves (TextBehind (NumberOrEof IsLenencOrMark 1)) (name_bytes name ++ rest)) name
    (length (name_bytes name)) (lenenc_text-back name rest is.1))

-- What is read from the front of a buffer.
use Rattle.std.specs.Prelude.{ℕ, ◌≡◌, ◌≤◌, ◌<◌, List, length, take, drop, Option, Some, None, MatchOption, Result, Ok, Err, ◌⊎◌, nat_lt, if◌then◌else◌}
use Rattle.wire_buf.specs.declared.error.WireError.{WireError}
use Rattle.wire_buf.specs.declared.error.WireError.TheVariants.{UnexpectedEof}

-- the first count bytes are eaten, and the answer is their value
abbrev pub Eats : {X : Type 0} → ℕ → (List ℕ → X) → List ℕ → X → List ℕ → Type 0
Eats count value old answer new = (answer ≡ value (take count old)) × (new ≡ drop count old)

-- the same where there are this many bytes; otherwise there is no answer, and nothing is eaten
abbrev pub EatsIfThere : {X : Type 0} → ℕ → (List ℕ → X) → List ℕ → Option X → List ℕ → Type 0
EatsIfThere count value old None new = (length old < count) × (new ≡ old)
EatsIfThere count value old (Some answer) new = (count ≤ length old)
    × (answer ≡ value (take count old)) × (new ≡ drop count old)

-- the same where the bytes themselves are handed out, as the text of the answer
abbrev pub TakesIfThere : {X : Type 0} → (X → List ℕ) → ℕ → List ℕ → Option X → List ℕ → Type 0
TakesIfThere text count old answer new = MatchOption answer ((length old < count) × (new ≡ old))
    (λ front. (count ≤ length old) × (text front ≡ take count old) × (new ≡ drop count old))

-- there are as many bytes as the size says, where it says a number
abbrev pub HasBytes : Option ℕ → List ℕ → Type 0
HasBytes None bytes = Unit {0}
HasBytes (Some count) bytes = count ≤ length bytes

-- A type's relation `reads` is of the bytes that its reader sees, its answer, and the count of the
-- bytes that it eats. Here it holds of what stood before the call and what is left.
abbrev pub Reads : {X : Type 0} → (List ℕ → Result X WireError → ℕ → Type 0) → List ℕ
    → Result X WireError → List ℕ → Type 0
Reads reads old answer new = (eaten : ℕ) × (eaten ≤ length old) × (new ≡ drop eaten old)
    × reads old answer eaten

-- What `parse` makes of a type's relation. Under a size of count bytes, fewer are an end of input,
-- and none is eaten; otherwise the reader sees these bytes alone, and they are eaten whatever it
-- answers.
abbrev pub Parses : {X : Type 0} → Option ℕ → (List ℕ → Result X WireError → ℕ → Type 0) → List ℕ
    → Result X WireError → ℕ → Type 0
Parses None reads input answer eaten = reads input answer eaten
Parses (Some count) reads input answer eaten =
    ((length input < count) × (answer ≡ Err UnexpectedEof) × (eaten ≡ 0))
    ⊎ ((count ≤ length input) × (eaten ≡ count) × (looked_at : ℕ)
    × reads (take count input) answer looked_at)

-- the first count bytes, which are eaten; fewer are an end of input, and none is eaten
abbrev pub front_at : ℕ → List ℕ → Result (List ℕ) WireError × ℕ
front_at count input =
    if nat_lt (length input) count then (Err UnexpectedEof, 0) else (Ok (take count input), count)

-- the answer and the count of eaten bytes are these
abbrev pub Answers : {X : Type 0} → Result X WireError × ℕ → Result X WireError → ℕ → Type 0
Answers outcome answer eaten = (answer ≡ outcome.0) × (eaten ≡ outcome.1)

-- What is said of an answer, where the value that is answered wraps another as its part.
abbrev pub Through : {X Y : Type 0} → (Y → X) → (Result X WireError → ℕ → Type 0)
    → Result Y WireError → ℕ → Type 0
Through part says (Ok value) eaten = says (Ok (part value)) eaten
Through part says (Err error) eaten = says (Err error) eaten

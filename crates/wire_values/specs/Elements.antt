-- Values that are read one after another.
use Rattle.std.specs.Prelude.{ℕ, zero, suc, ◌≡◌, ◌≤◌, ◌<◌, ◌+◌, ◌*◌, ◌⊎◌, List, [], ◌∷◌, ◌++◌, length, take, drop, Option, Some, None, Result, Ok, Err}
use Rattle.wire_buf.specs.Reading.{Reads}
use Rattle.wire_buf.specs.declared.error.WireError.{WireError}
use Rattle.wire_buf.specs.declared.error.WireError.TheVariants.{UnexpectedEof, OutOfMemory}

-- items in front of those that are answered
abbrev pub behind : {X : Type 0} → List X → Result (List X) WireError → Result (List X) WireError
behind front (Ok items) = Ok (front ++ items)
behind front (Err error) = Err error

-- Values are read one after another, as many as the count says. Where room may be missing, it may
-- be refused before each.
abbrev pub ReadsEach : {X : Type 0} → Type 0 → (List ℕ → Result X WireError → ℕ → Type 0) → ℕ
    → List ℕ → Result (List X) WireError → ℕ → Type 0
ReadsEach {X = X} short reads zero input answer eaten = (answer ≡ Ok []) × (eaten ≡ 0)
ReadsEach {X = X} short reads (suc count) input answer eaten =
    (short × (answer ≡ Err OutOfMemory) × (eaten ≡ 0))
    ⊎ ((error : WireError) × (answer ≡ Err error) × reads input (Err error) eaten)
    ⊎ ((value : X) × (taken : ℕ) × (after : ℕ) × (others : Result (List X) WireError)
    × (taken ≤ length input) × reads input (Ok value) taken
    × ReadsEach short reads count (drop taken input) others after
    × (answer ≡ behind (value ∷ []) others) × (eaten ≡ taken + after))

-- As many values as the count says are read, whose size is this: those of a size from a block of
-- their own, for which there are bytes before room is taken, and others one after another, room
-- being taken where it is missing.
abbrev pub ReadsAll : {X : Type 0} → Option ℕ → (List ℕ → Result X WireError → ℕ → Type 0) → ℕ
    → List ℕ → Result (List X) WireError → ℕ → Type 0
ReadsAll None reads count input answer eaten = ReadsEach (Unit {0}) reads count input answer eaten
ReadsAll (Some size) reads count input answer eaten =
    ((size ≡ 0) × ReadsEach (Unit {0}) reads count input answer eaten)
    ⊎ ((1 ≤ size) × (length input < size * count) × (answer ≡ Err UnexpectedEof) × (eaten ≡ 0))
    ⊎ ((1 ≤ size) × (size * count ≤ length input) × (answer ≡ Err OutOfMemory) × (eaten ≡ 0))
    ⊎ ((1 ≤ size) × (size * count ≤ length input) × (eaten ≡ size * count) × (taken : ℕ)
    × ReadsEach ⊥ reads count (take (size * count) input) answer taken)

-- an answer in a `Vec`, seen as its items
abbrev pub Gives : {V X : Type 0} → (V → List X) → (Result (List X) WireError → ℕ → Type 0)
    → Result V WireError → ℕ → Type 0
Gives items reads (Ok values) eaten = reads (Ok (items values)) eaten
Gives items reads (Err error) eaten = reads (Err error) eaten

-- what was read and is left, in a `Vec`
abbrev pub ReadsInto : {V X : Type 0} → (V → List X)
    → (List ℕ → Result (List X) WireError → ℕ → Type 0) → List ℕ → Result V WireError → List ℕ
    → Type 0
ReadsInto items reads old answer new = Reads (λ input. Gives items (reads input)) old answer new

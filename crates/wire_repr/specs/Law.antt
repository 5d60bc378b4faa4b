-- What it says that a written value is read back.
use Rattle.std.specs.Prelude.{ℕ, ◌≡◌, List, [], ◌++◌, length, take, drop, Option, Some, None, Result, Ok, Err}
use Rattle.std.proofs.Common.{inl, inr, refl, sym, ap, subst, ◌∙◌, arith}
use Rattle.std.proofs.lemmas.List.{take_at, drop_at, append-nil, length-append}
use Rattle.wire_buf.specs.declared.error.WireError.{WireError}
use Rattle.wire_buf.specs.declared.error.WireError.TheVariants.{OutOfMemory}
use Rattle.wire_buf.specs.declared.io.ParseBuf.{ParseBuf}
use Rattle.wire_buf.specs.Reading.{Reads, Parses, Answers, Through}

-- The answer is a value that is kept, and all bytes of the written one are eaten. Where reading
-- takes memory, the answer may also be that it was refused.
abbrev pub ComesBack : {X : Type 0} → (X → Type 0) → Type 0 → ℕ → Result X WireError → ℕ → Type 0
ComesBack kept takes_memory len (Ok value) eaten = kept value × (eaten ≡ len)
ComesBack kept takes_memory len (Err error) eaten = (error ≡ OutOfMemory) × takes_memory

-- The same of a buffer that held the written value and the rest: the rest is left.
abbrev pub LeavesRest : {X : Type 0} → (X → Type 0) → Type 0 → List ℕ → Result X WireError → List ℕ
    → Type 0
LeavesRest kept takes_memory rest (Ok value) new = kept value × (new ≡ rest)
LeavesRest kept takes_memory rest (Err error) new = (error ≡ OutOfMemory) × takes_memory

-- The same of the buffer before and after: it held these bytes and the rest.
abbrev pub LeavesRestOf : {X : Type 0} → List ℕ → List ℕ → (X → Type 0) → Type 0
    → Result X WireError → ParseBuf → ParseBuf → Type 0
LeavesRestOf bytes rest kept takes_memory answer old new =
    old.0.now ≡ bytes ++ rest → LeavesRest kept takes_memory rest answer new.0.now

-- The same of each buffer that begins with the written bytes, whatever stands after them.
abbrev pub ComesBackFrom : {X : Type 0} → List ℕ → (X → Type 0) → Type 0 → List ℕ
    → Result X WireError → List ℕ → Type 0
ComesBackFrom bytes kept takes_memory old answer new =
    (rest : List ℕ) → old ≡ bytes ++ rest → LeavesRest kept takes_memory rest answer new

-- And of one that holds nothing else, where reading takes no memory.
abbrev pub ComesBackAlone : {X : Type 0} → List ℕ → (X → Type 0) → List ℕ → Result X WireError
    → List ℕ → Type 0
ComesBackAlone bytes kept old answer new =
    old ≡ bytes ++ [] → LeavesRest kept ⊥ [] answer new

-- What a reader sees of the bytes after a value, where `parse` calls it: nothing, if its type has
-- a size.
abbrev pub seen : Option ℕ → List ℕ → List ℕ
seen None rest = rest
seen (Some size) rest = []

-- a value is good under the context before the rest, of which a reader sees so much
abbrev pub GoodBefore : {C X : Type 0} → Option ℕ → (C → X → List ℕ → Type 0) → List ℕ → C → X
    → Type 0
GoodBefore size good rest ctx value = good ctx value (seen size rest)

-- the first count bytes are eaten, and the answer is their value
abbrev pub ReadsFixed : {X : Type 0} → ℕ → (List ℕ → X) → List ℕ → Result X WireError → ℕ → Type 0
ReadsFixed count value input = Answers (Ok (value (take count input)), count)

-- by `parse`: of a value that wraps such another as its part
abbrev pub ParsesFixed : {X Y : Type 0} → (Y → X) → ℕ → (List ℕ → X) → List ℕ → Result Y WireError
    → List ℕ → Type 0
ParsesFixed part count value =
    Reads (Parses (Some count) (λ input. Through part (ReadsFixed count value input)))

-- ---- lemmas

-- what wraps a number comes back, where the number does
pub Through-back : {X Y : Type 0} (part : Y → X) (says : Result X WireError → ℕ → Type 0) (x : X)
    (len : ℕ)
    → ((answer : Result X WireError) (eaten : ℕ) → says answer eaten
    → Answers (Ok x, len) answer eaten)
    → (answer : Result Y WireError) (eaten : ℕ) → Through part says answer eaten
    → ComesBack (λ y. part y ≡ x) ⊥ len answer eaten
Through-back {X} part says x len law (Ok y) eaten read =
    let back = law (Ok (part y)) eaten read in
    let answered : ◌≡◌ {A = Result X WireError} (Ok (part y)) (Ok x) = back.0 in
    let same : part y ≡ x = cc answered in
    (same, back.1)
Through-back {X} part says x len law (Err error) eaten read =
    let answered : ◌≡◌ {A = Result X WireError} (Err error) (Ok x) =
    (law (Err error) eaten read).0 in
    cc answered

-- bytes of a known length, whatever follows them
pub ReadsFixed-back : {X : Type 0} (count : ℕ) (value : List ℕ → X) (bytes rest : List ℕ) (x : X)
    → length bytes ≡ count → value bytes ≡ x
    → (answer : Result X WireError) (eaten : ℕ)
    → ReadsFixed count value (bytes ++ rest) answer eaten
    → Answers (Ok x, length bytes) answer eaten
ReadsFixed-back count value bytes rest x len is answer eaten (answered, ate) =
    (answered ∙ ap Ok (ap value (take_at bytes rest count len) ∙ is), ate ∙ sym len)

-- the size that is stated is the length
pub size-is : (count size len : ℕ) → Some count ≡ Some size → len ≡ count → len ≡ size
size-is count size len stated is = (cc)

-- what is eaten is as long as this
ComesBack-at : {X : Type 0} (kept : X → Type 0) (takes_memory : Type 0) (len looked_at eaten : ℕ)
    (answer : Result X WireError)
    → eaten ≡ len → ComesBack kept takes_memory len answer looked_at
    → ComesBack kept takes_memory len answer eaten
ComesBack-at kept takes_memory len looked_at eaten (Ok value) is back = (back.0, is)
ComesBack-at kept takes_memory len looked_at eaten (Err error) is back = back

-- by `parse`
pub Parses-back : {X : Type 0} (stated : Option ℕ)
    (reads : List ℕ → Result X WireError → ℕ → Type 0) (kept : X → Type 0) (takes_memory : Type 0)
    (bytes rest : List ℕ)
    → ((size : ℕ) → stated ≡ Some size → length bytes ≡ size)
    → ((answer : Result X WireError) (eaten : ℕ) → reads (bytes ++ seen stated rest) answer eaten
    → ComesBack kept takes_memory (length bytes) answer eaten)
    → (answer : Result X WireError) (eaten : ℕ) → Parses stated reads (bytes ++ rest) answer eaten
    → ComesBack kept takes_memory (length bytes) answer eaten
Parses-back None reads kept takes_memory bytes rest of_size law answer eaten read =
    law answer eaten read
Parses-back (Some size) reads kept takes_memory bytes rest of_size law answer eaten (inl short) =
    let len : length bytes ≡ size = of_size size refl in
    absurd (omega (arith, short.0, length-append bytes rest))
Parses-back (Some size) reads kept takes_memory bytes rest of_size law answer eaten
    (inr (enough, all, looked_at, read)) =
    let len : length bytes ≡ size = of_size size refl in
    let alone : take size (bytes ++ rest) ≡ bytes ++ [] =
    take_at bytes rest size len ∙ sym (append-nil bytes) in
    let back = law answer looked_at (subst (λ input. reads input answer looked_at) alone read) in
    ComesBack-at kept takes_memory (length bytes) looked_at eaten answer (all ∙ sym len) back

-- and the rest is left
pub parse-back : {X : Type 0} (stated : Option ℕ) (reads : List ℕ → Result X WireError → ℕ → Type 0)
    (kept : X → Type 0) (takes_memory : Type 0) (bytes rest old new : List ℕ)
    → ((size : ℕ) → stated ≡ Some size → length bytes ≡ size)
    → ((answer : Result X WireError) (eaten : ℕ) → reads (bytes ++ seen stated rest) answer eaten
    → ComesBack kept takes_memory (length bytes) answer eaten)
    → old ≡ bytes ++ rest → (answer : Result X WireError)
    → Reads (Parses stated reads) old answer new → LeavesRest kept takes_memory rest answer new
parse-back stated reads kept takes_memory bytes rest old new of_size law is (Ok value)
    (eaten, there, left, read) =
    let back = Parses-back stated reads kept takes_memory bytes rest of_size law (Ok value) eaten
    (subst (λ input. Parses stated reads input (Ok value) eaten) is read) in
    (back.0, left ∙ ap (drop eaten) is ∙ drop_at bytes rest eaten (sym back.1))
parse-back stated reads kept takes_memory bytes rest old new of_size law is (Err error)
    (eaten, there, left, read) =
    Parses-back stated reads kept takes_memory bytes rest of_size law (Err error) eaten
    (subst (λ input. Parses stated reads input (Err error) eaten) is read)

-- an array
pub array-back : (count : ℕ) (bytes rest : List ℕ) → length bytes ≡ count
    → (answer : Result (List ℕ) WireError) (eaten : ℕ)
    → Answers (Ok (take count (bytes ++ rest)), count) answer eaten
    → ComesBack (λ back. back ≡ bytes) ⊥ (length bytes) answer eaten
array-back count bytes rest len (Ok back) eaten read =
    let same : back ≡ take count (bytes ++ rest) = cc read.0 in
    (same ∙ take_at bytes rest count len, read.1 ∙ sym len)
array-back count bytes rest len (Err error) eaten read =
    let answered : ◌≡◌ {A = Result (List ℕ) WireError} (Err error) (Ok (take count (bytes ++ rest)))
    = read.0 in
    cc answered

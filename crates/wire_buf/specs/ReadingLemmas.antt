-- What follows of bytes that were read, for who reads one field after another.
use Rattle.std.proofs.Common.{ℕ, ◌≡◌, ◌≤◌, ◌+◌, ◌⊎◌, List, length, take, drop, Result, Ok, Err, Some, inl, inr, ap, ◌∙◌}
use Rattle.std.proofs.lemmas.List.{drop-drop}
use Rattle.wire_buf.specs.declared.error.WireError.{WireError}
use Rattle.wire_buf.specs.declared.error.WireError.TheVariants.{UnexpectedEof}
use Rattle.wire_buf.specs.Reading.{Reads, Parses}

-- a value that `parse` answers of a type with a size: this many bytes were there, they are eaten, and
-- they alone were read
pub parsed_fixed : {X : Type 0} (reads : List ℕ → Result X WireError → ℕ → Type 0) (size : ℕ)
    (old new : List ℕ) (value : X) → Reads (Parses (Some size) reads) old (Ok value) new
    → (size ≤ length old) × (new ≡ drop size old)
    × (looked_at : ℕ) × reads (take size old) (Ok value) looked_at
parsed_fixed reads size old new value (eaten, there, left, inl (short, answered, none)) =
    cc answered
parsed_fixed reads size old new value (eaten, there, left, inr (enough, all, looked_at, read)) =
    (enough, left ∙ ap (λ count. drop count old) all, looked_at, read)

-- what such a value leaves, where its type's relation need not be named
pub eaten_size : {X Short : Type 0} {LooksAt : ℕ → Type 0} (size : ℕ) (old new : List ℕ) (value : X)
    → (eaten : ℕ) × (eaten ≤ length old) × (new ≡ drop eaten old)
    × ((Short × ◌≡◌ {A = Result X WireError} (Ok value) (Err UnexpectedEof) × (eaten ≡ 0))
    ⊎ ((size ≤ length old) × (eaten ≡ size) × (looked_at : ℕ) × LooksAt looked_at))
    → new ≡ drop size old
eaten_size size old new value (eaten, there, left, inl (short, answered, none)) = cc answered
eaten_size size old new value (eaten, there, left, inr (enough, all, looked_at, read)) =
    left ∙ ap (λ count. drop count old) all

-- the first bytes of all of them are eaten
pub eats_first : (count : ℕ) (all old new : List ℕ) → old ≡ all → new ≡ drop count old
    → new ≡ drop count all
eats_first count all old new was left = left ∙ ap (drop count) was

-- more are eaten, after those that were
pub eats_on : (at count : ℕ) (all old new : List ℕ) → old ≡ drop at all → new ≡ drop count old
    → new ≡ drop (at + count) all
eats_on at count all old new was left = left ∙ ap (drop count) was ∙ drop-drop count at all

-- the value of the bytes after those that were eaten
pub value_at : {X : Type 0} (at count : ℕ) (value : List ℕ → X) (all old : List ℕ) (x : X)
    → old ≡ drop at all → x ≡ value (take count old) → x ≡ value (take count (drop at all))
value_at at count value all old x was is = is ∙ ap (λ bytes. value (take count bytes)) was

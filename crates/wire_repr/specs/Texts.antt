-- Texts that are read borrowed.
use Rattle.std.proofs.Common.{ℕ, ◌≡◌, ◌<◌, ◌^◌, List, length, Result, Ok, Err}
use Rattle.std.specs.declared.borrow.CowSlice.{CowSlice}
use Rattle.std.specs.declared.borrow.CowSlice.TheVariants as slice
use Rattle.wire_buf.specs.declared.error.WireError.{WireError}
use Rattle.wire_buf.specs.Numbers.{IsBytes}
use Rattle.wire_buf.specs.Reading.{Answers}
use Rattle.wire_repr.specs.Law.{ComesBack}

-- a text in memory: its items are bytes, and there aren't more than memory has
abbrev pub IsText : List ℕ → Type 0
IsText text = IsBytes text × (length text < 2 ^ 64)

-- the text is borrowed, and this one
abbrev pub IsBorrowedText : {Z : Type 0} → CowSlice ℕ Z → List ℕ → Type 0
IsBorrowedText (slice.Borrowed r) text = r.now ≡ text
IsBorrowedText (slice.Owned v) text = ⊥

-- the items are owned
abbrev pub IsOwned : {X Z : Type 0} → CowSlice X Z → Type 0
IsOwned (slice.Borrowed r) = ⊥
IsOwned (slice.Owned v) = Unit {0}

-- the items are borrowed
abbrev pub IsNotOwned : {X Z : Type 0} → CowSlice X Z → Type 0
IsNotOwned (slice.Borrowed r) = Unit {0}
IsNotOwned (slice.Owned v) = ⊥

-- a borrowed text of which this is said
abbrev pub BorrowsIn : {Z : Type 0} → CowSlice ℕ Z → (Result (List ℕ) WireError → ℕ → Type 0) → ℕ
    → Type 0
BorrowsIn (slice.Borrowed r) says eaten = says (Ok r.now) eaten
BorrowsIn (slice.Owned v) says eaten = ⊥

-- What is said of the answer, where the text is borrowed and part of the value that is answered.
abbrev pub Borrows : {Y Z : Type 0} → (Y → CowSlice ℕ Z) → (Result (List ℕ) WireError → ℕ → Type 0)
    → Result Y WireError → ℕ → Type 0
Borrows part says (Ok value) eaten = BorrowsIn (part value) says eaten
Borrows part says (Err error) eaten = says (Err error) eaten

-- ---- lemmas

BorrowsIn-back : {Z : Type 0} (c : CowSlice ℕ Z) (says : Result (List ℕ) WireError → ℕ → Type 0)
    (text : List ℕ) (len : ℕ)
    → ((answer : Result (List ℕ) WireError) (eaten : ℕ) → says answer eaten
    → Answers (Ok text, len) answer eaten)
    → (eaten : ℕ) → BorrowsIn c says eaten → IsBorrowedText c text × (eaten ≡ len)
BorrowsIn-back (slice.Borrowed r) says text len law eaten read =
    let back = law (Ok r.now) eaten read in
    let same : r.now ≡ text = cc back.0 in
    (same, back.1)
BorrowsIn-back (slice.Owned v) says text len law eaten read = absurd read

-- what wraps a text comes back, where the text does
pub Borrows-back : {Y Z : Type 0} (part : Y → CowSlice ℕ Z)
    (says : Result (List ℕ) WireError → ℕ → Type 0) (text : List ℕ) (len : ℕ)
    → ((answer : Result (List ℕ) WireError) (eaten : ℕ) → says answer eaten
    → Answers (Ok text, len) answer eaten)
    → (answer : Result Y WireError) (eaten : ℕ) → Borrows part says answer eaten
    → ComesBack (λ y. IsBorrowedText (part y) text) ⊥ len answer eaten
Borrows-back part says text len law (Ok y) eaten read =
    BorrowsIn-back (part y) says text len law eaten read
Borrows-back part says text len law (Err error) eaten read =
    let answered : ◌≡◌ {A = Result (List ℕ) WireError} (Err error) (Ok text) =
    (law (Err error) eaten read).0 in
    cc answered

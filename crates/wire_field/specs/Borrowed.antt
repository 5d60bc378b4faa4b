-- Bytes of a length that the context says, which are lent.
use Rattle.std.proofs.Common.{ℕ, ◌≡◌, ◌≤◌, List, ◌++◌, length, Result, Ok, subst, sym, refl, arith}
use Rattle.std.proofs.lemmas.List.{take_at, length-append}
use Rattle.std.proofs.lemmas.Bool.{le-ltb}
use Rattle.std.specs.declared.borrow.CowSlice.{CowSlice}
use Rattle.wire_buf.specs.declared.error.WireError.{WireError}
use Rattle.wire_buf.specs.Reading.{Answers, Through, front_at}
use Rattle.wire_repr.specs.Law.{ComesBack, Through-back}
use Rattle.wire_repr.specs.Texts.{IsBorrowedText, Borrows, Borrows-back}

-- ---- lemmas

front_at-back : (count : ℕ) (bytes rest : List ℕ) → count ≡ length bytes
    → front_at count (bytes ++ rest) ≡ (Ok bytes, length bytes)
front_at-back count bytes rest is =
    let there : count ≤ length (bytes ++ rest) = omega (arith, is, length-append bytes rest) in
    rw (le-ltb (length (bytes ++ rest)) count there, take_at bytes rest count (sym is), is) refl

-- the bytes are what is answered
front-answers : (count : ℕ) (bytes rest : List ℕ) → count ≡ length bytes
    → (answer : Result (List ℕ) WireError) (eaten : ℕ)
    → Answers (front_at count (bytes ++ rest)) answer eaten
    → Answers (Ok bytes, length bytes) answer eaten
front-answers count bytes rest is answer eaten read =
    subst (λ outcome. Answers outcome answer eaten) (front_at-back count bytes rest is) read

-- what wraps them comes back
pub front-through : {Y : Type 0} (part : Y → List ℕ) (count : ℕ) (bytes rest : List ℕ)
    → count ≡ length bytes → (answer : Result Y WireError) (eaten : ℕ)
    → Through part (Answers (front_at count (bytes ++ rest))) answer eaten
    → ComesBack (λ back. part back ≡ bytes) ⊥ (length bytes) answer eaten
front-through part count bytes rest is =
    Through-back part (Answers (front_at count (bytes ++ rest))) bytes (length bytes)
    (front-answers count bytes rest is)

-- what borrows them comes back
pub front-borrows : {Y Z : Type 0} (part : Y → CowSlice ℕ Z) (count : ℕ) (bytes rest : List ℕ)
    → count ≡ length bytes → (answer : Result Y WireError) (eaten : ℕ)
    → Borrows part (Answers (front_at count (bytes ++ rest))) answer eaten
    → ComesBack (λ back. IsBorrowedText (part back) bytes) ⊥ (length bytes) answer eaten
front-borrows part count bytes rest is =
    Borrows-back part (Answers (front_at count (bytes ++ rest))) bytes (length bytes)
    (front-answers count bytes rest is)

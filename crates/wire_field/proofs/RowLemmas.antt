-- Two values read one after the other, and one of two, from the bytes before to those that are left.
use Rattle.std.proofs.Common.{ℕ, ◌≡◌, ◌+◌, ◌-◌, List, length, drop, Result, Ok, Err, inl, inr, refl, sym, ap, subst, ◌∙◌, arith}
use Rattle.std.proofs.lemmas.List.{drop-drop, length-drop}
use Rattle.wire_buf.specs.declared.error.WireError.{WireError}
use Rattle.wire_buf.specs.Reading.{Reads}
use Rattle.wire_field.specs.Rows.{ReadsBoth, ReadsEither}
use Rattle.wire_field.specs.declared.row.Either.{Either}
use Rattle.wire_field.specs.declared.row.Either.TheVariants.{Left, Right}

pub both-read : {A B Y : Type 0} (first : Y → A) (second : Y → B)
    (reads_first : List ℕ → Result A WireError → ℕ → Type 0)
    (reads_second : List ℕ → Result B WireError → ℕ → Type 0) (old mid new : List ℕ) (both : Y)
    → Reads reads_first old (Ok (first both)) mid → Reads reads_second mid (Ok (second both)) new
    → Reads (ReadsBoth first second reads_first reads_second) old (Ok both) new
both-read first second reads_first reads_second old mid new both (taken, fits, at, read)
    (after, room, is, read_after) =
    let len : length mid ≡ length old - taken = ap length at ∙ length-drop taken old in
    let there : new ≡ drop (taken + after) old =
    is ∙ ap (drop after) at ∙ drop-drop after taken old in (
      taken + after,
      omega (arith, fits, room, len),
      there,
      (
        taken,
        after,
        fits,
        read,
        subst (λ input. reads_second input (Ok (second both)) after) at read_after,
        refl,
      ),
    )

pub first-failed : {A B Y : Type 0} (first : Y → A) (second : Y → B)
    (reads_first : List ℕ → Result A WireError → ℕ → Type 0)
    (reads_second : List ℕ → Result B WireError → ℕ → Type 0) (old new : List ℕ)
    (error : WireError) → Reads reads_first old (Err error) new
    → Reads (ReadsBoth first second reads_first reads_second) old (Err error) new
first-failed first second reads_first reads_second old new error (taken, fits, at, read) =
    (taken, fits, at, inl read)

pub second-failed : {A B Y : Type 0} (first : Y → A) (second : Y → B)
    (reads_first : List ℕ → Result A WireError → ℕ → Type 0)
    (reads_second : List ℕ → Result B WireError → ℕ → Type 0) (old mid new : List ℕ) (before : A)
    (error : WireError) → Reads reads_first old (Ok before) mid
    → Reads reads_second mid (Err error) new
    → Reads (ReadsBoth first second reads_first reads_second) old (Err error) new
second-failed first second reads_first reads_second old mid new before error
    (taken, fits, at, read) (after, room, is, read_after) =
    let len : length mid ≡ length old - taken = ap length at ∙ length-drop taken old in
    let there : new ≡ drop (taken + after) old =
    is ∙ ap (drop after) at ∙ drop-drop after taken old in (
      taken + after,
      omega (arith, fits, room, len),
      there,
      inr (
        before,
        taken,
        after,
        fits,
        read,
        subst (λ input. reads_second input (Err error) after) at read_after,
        refl,
      ),
    )

pub left-read : {C D A B : Type 0} (reads_left : C → List ℕ → Result A WireError → ℕ → Type 0)
    (reads_right : D → List ℕ → Result B WireError → ℕ → Type 0) (whole : Either C D) (ctx : C)
    (old new : List ℕ) (value : A) → whole ≡ Left ctx
    → Reads (reads_left ctx) old (Ok value) new
    → Reads (ReadsEither reads_left reads_right whole) old (Ok (Left value)) new
left-read {A = A} {B = B} reads_left reads_right whole ctx old new value is read =
    subst (λ side. Reads {X = Either A B} (ReadsEither reads_left reads_right side) old (Ok (Left value)) new) (sym is)
    read

pub left-failed : {C D A B : Type 0}
    (reads_left : C → List ℕ → Result A WireError → ℕ → Type 0)
    (reads_right : D → List ℕ → Result B WireError → ℕ → Type 0) (whole : Either C D) (ctx : C)
    (old new : List ℕ) (error : WireError) → whole ≡ Left ctx
    → Reads (reads_left ctx) old (Err error) new
    → Reads (ReadsEither reads_left reads_right whole) old (Err error) new
left-failed {A = A} {B = B} reads_left reads_right whole ctx old new error is read =
    subst (λ side. Reads {X = Either A B} (ReadsEither reads_left reads_right side) old (Err error) new) (sym is) read

pub right-read : {C D A B : Type 0} (reads_left : C → List ℕ → Result A WireError → ℕ → Type 0)
    (reads_right : D → List ℕ → Result B WireError → ℕ → Type 0) (whole : Either C D) (ctx : D)
    (old new : List ℕ) (value : B) → whole ≡ Right ctx
    → Reads (reads_right ctx) old (Ok value) new
    → Reads (ReadsEither reads_left reads_right whole) old (Ok (Right value)) new
right-read {A = A} {B = B} reads_left reads_right whole ctx old new value is read =
    subst (λ side. Reads {X = Either A B} (ReadsEither reads_left reads_right side) old (Ok (Right value)) new) (sym is)
    read

pub right-failed : {C D A B : Type 0}
    (reads_left : C → List ℕ → Result A WireError → ℕ → Type 0)
    (reads_right : D → List ℕ → Result B WireError → ℕ → Type 0) (whole : Either C D) (ctx : D)
    (old new : List ℕ) (error : WireError) → whole ≡ Right ctx
    → Reads (reads_right ctx) old (Err error) new
    → Reads (ReadsEither reads_left reads_right whole) old (Err error) new
right-failed {A = A} {B = B} reads_left reads_right whole ctx old new error is read =
    subst (λ side. Reads {X = Either A B} (ReadsEither reads_left reads_right side) old (Err error) new) (sym is) read

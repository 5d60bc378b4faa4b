-- A value that a number converts to, from the bytes before to those that are left.
use Rattle.std.proofs.Common.{ℕ, ◌≡◌, List, Result, Ok, Err, inr, refl, sym, subst}
use Rattle.wire_buf.specs.declared.error.WireError.{WireError}
use Rattle.wire_buf.specs.declared.error.WireError.TheVariants.{InvalidData}
use Rattle.wire_buf.specs.declared.error.InvalidReason.TheVariants.{UnknownValue}
use Rattle.wire_buf.specs.Reading.{Reads}
use Rattle.wire_field.specs.Converted.{ReadsConverted}

pub converted-read : {P T E Y : Type 0} (part : Y → T) (converts : P → Result T E → Type 0)
    (reads : List ℕ → Result P WireError → ℕ → Type 0) (old new : List ℕ) (number : P) (value : T)
    (wrapped : Y) → part wrapped ≡ value → Reads reads old (Ok number) new
    → converts number (Ok value)
    → Reads (λ input. ReadsConverted part converts (reads input)) old (Ok wrapped) new
converted-read part converts reads old new number value wrapped is (eaten, fits, at, read)
    converted =
    (eaten, fits, at, (number, read, subst (λ v. converts number (Ok v)) (sym is) converted))

pub converted-unknown : {P T E Y : Type 0} (part : Y → T) (converts : P → Result T E → Type 0)
    (reads : List ℕ → Result P WireError → ℕ → Type 0) (old new : List ℕ) (number : P)
    (refusal : E) → Reads reads old (Ok number) new → converts number (Err refusal)
    → Reads (λ input. ReadsConverted part converts (reads input)) old
    (Err (InvalidData UnknownValue)) new
converted-unknown part converts reads old new number refusal (eaten, fits, at, read) converted =
    (eaten, fits, at, inr (number, refusal, read, converted, refl))

-- A list after its count, as a part of the value that is answered.
use Rattle.std.proofs.Common.{ℕ, ◌≡◌, ◌+◌, List, drop, Result, Ok, Err, sym, subst}
use Rattle.std.specs.declared.borrow.CowSlice.{CowSlice}
use Rattle.std.specs.Cow.{cow_slice_items}
use Rattle.wire_buf.specs.declared.error.WireError.{WireError}
use Rattle.wire_buf.specs.Reading.{Reads}
use Rattle.wire_repr.specs.Texts.{IsOwned}
use Rattle.wire_list.specs.Counted.{ReadsCounted}

part-is : {X Z V : Type 0} (seq : V → CowSlice X Z) (outcome : Result ℕ WireError × ℕ)
    (each : ℕ → List ℕ → Result (List X) WireError → ℕ → Type 0) (input : List ℕ)
    (items : CowSlice X Z) (value : V) (eaten : ℕ) → seq value ≡ items
    → ReadsCounted {V = CowSlice X Z} (λ all. all) outcome each input (Ok items) eaten
    → ReadsCounted seq outcome each input (Ok value) eaten
part-is seq (Ok number, width) each input items value eaten is read =
    subst (λ whole. IsOwned whole × ((taken : ℕ)
    × each number (drop width input) (Ok (cow_slice_items whole)) taken
    × (eaten ≡ width + taken))) (sym is) read
part-is seq (Err why, width) each input items value eaten is read = absurd read

part-refused : {X Z V : Type 0} (seq : V → CowSlice X Z) (outcome : Result ℕ WireError × ℕ)
    (each : ℕ → List ℕ → Result (List X) WireError → ℕ → Type 0) (input : List ℕ)
    (error : WireError) (eaten : ℕ)
    → ReadsCounted {V = CowSlice X Z} (λ all. all) outcome each input (Err error) eaten
    → ReadsCounted seq outcome each input (Err error) eaten
part-refused seq (Ok number, width) each input error eaten read = read
part-refused seq (Err why, width) each input error eaten read = read

pub counted-part : {X Z V : Type 0} (seq : V → CowSlice X Z)
    (counted : List ℕ → Result ℕ WireError × ℕ)
    (each : ℕ → List ℕ → Result (List X) WireError → ℕ → Type 0) (old new : List ℕ)
    (items : CowSlice X Z) (value : V) → seq value ≡ items
    → Reads (λ input. ReadsCounted {V = CowSlice X Z} (λ all. all) (counted input) each input) old
    (Ok items) new
    → Reads (λ input. ReadsCounted seq (counted input) each input) old (Ok value) new
counted-part seq counted each old new items value is (eaten, fits, at, read) =
    (eaten, fits, at, part-is seq (counted old) each old items value eaten is read)

pub counted-refused : {X Z V : Type 0} (seq : V → CowSlice X Z)
    (counted : List ℕ → Result ℕ WireError × ℕ)
    (each : ℕ → List ℕ → Result (List X) WireError → ℕ → Type 0) (old new : List ℕ)
    (error : WireError)
    → Reads (λ input. ReadsCounted {V = CowSlice X Z} (λ all. all) (counted input) each input) old
    (Err error) new
    → Reads (λ input. ReadsCounted seq (counted input) each input) old (Err error) new
counted-refused seq counted each old new error (eaten, fits, at, read) =
    (eaten, fits, at, part-refused seq (counted old) each old error eaten read)

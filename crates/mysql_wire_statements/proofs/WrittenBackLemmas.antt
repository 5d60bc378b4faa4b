-- What was read, where it is written as it stood.
use Rattle.std.specs.Prelude.{ℕ, ◌≡◌, List, ◌++◌, take, Result, Ok, Err, IfOk}
use Rattle.std.proofs.Common.{ap, ◌∙◌}
use Rattle.std.proofs.lemmas.List.{take-append-drop}
use Rattle.wire_buf.specs.declared.error.WireError.{WireError}
use Rattle.wire_buf.specs.Reading.{Reads}

-- with what is left after it, what is written of the answer is what stood there
pub again_of : {X : Type 0} (reads : List ℕ → Result X WireError → ℕ → Type 0) (bytes : X → List ℕ)
    (shortest : Type 0) (old new : List ℕ) (answer : Result X WireError)
    → Reads reads old answer new
    → ((value : X) (eaten : ℕ) → shortest → reads old (Ok value) eaten
    → bytes value ≡ take eaten old)
    → IfOk answer (λ value. shortest → bytes value ++ new ≡ old)
again_of reads bytes shortest old new (Ok value) (eaten, there, left, read) law = λ short.
    ap (λ front. front ++ new) (law value eaten short read)
    ∙ (ap (λ rest. take eaten old ++ rest) left ∙ take-append-drop eaten old)
again_of reads bytes shortest old new (Err error) read law = tt

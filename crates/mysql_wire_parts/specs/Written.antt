-- What is read is written again.
use Rattle.std.specs.Prelude.{ℕ, ◌≡◌, List, take, Result, Ok}
use Rattle.wire_buf.specs.Numbers.{IsBytes}
use Rattle.wire_buf.specs.declared.error.WireError.{WireError}
use Rattle.mysql_wire_parts.specs.Shortest.{IsWrittenBack}

-- what is read of bytes is written as just those that were eaten
abbrev pub WritesSame : {X : Type 0} → (List ℕ → Result X WireError → ℕ → Type 0)
    → (X → List ℕ) → Type 0
WritesSame {X = X} reads bytes =
    (input : List ℕ) (value : X) (eaten : ℕ) → IsBytes input → reads input (Ok value) eaten
    → bytes value ≡ take eaten input

-- and in no more bytes, as just these where they spell each length in the shortest form
abbrev pub WritesBack : {X : Type 0} → (List ℕ → Result X WireError → ℕ → Type 0)
    → (X → List ℕ) → Type 0
WritesBack {X = X} reads bytes =
    (input : List ℕ) (value : X) (eaten : ℕ) → IsBytes input → reads input (Ok value) eaten
    → IsWrittenBack (bytes value) (take eaten input)

-- A value at the front of a payload.
use Rattle.std.specs.Prelude.{ℕ, List, Result, Ok, Err}
use Rattle.wire_buf.specs.declared.error.WireError.{WireError}
use Rattle.wire_buf.specs.declared.io.ParseBuf.{ParseBuf}
use Rattle.wire_buf.specs.Reading.{Reads}

-- what was read of a payload, and what it left
abbrev pub ReadsPayload : {X : Type 0} → (List ℕ → Result X WireError → ℕ → Type 0) → List ℕ
    → Result (X × ParseBuf) WireError → Type 0
ReadsPayload reads payload (Ok taken) = Reads reads payload (Ok taken.0) taken.1.0.now
ReadsPayload reads payload (Err error) = (left : List ℕ) × Reads reads payload (Err error) left

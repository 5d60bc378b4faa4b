-- What answers a statement that is to be prepared.
use Rattle.std.specs.Prelude.{ℕ, ◌≡◌, ◌≢◌, ◌⊎◌, List, [], ◌∷◌, take, Result, Ok, Err}
use Rattle.wire_buf.specs.declared.error.WireError.{WireError}
use Rattle.wire_buf.specs.declared.error.WireError.TheVariants.{UnexpectedEof, InvalidData}
use Rattle.wire_buf.specs.declared.error.InvalidReason.TheVariants.{UnknownValue}
use Rattle.wire_buf.specs.Reading.{Answers}
use Rattle.mysql_wire_statements.specs.declared.com_stmt_prepare_ok.ComStmtPrepareOk.{ComStmtPrepareOk}
use Rattle.mysql_wire_packets.specs.declared.err_packet.ErrPacket.{ErrPacket}
use Rattle.mysql_wire_statements.specs.declared.prepare_answer.PrepareAnswer.{PrepareAnswer}
use Rattle.mysql_wire_statements.specs.declared.prepare_answer.PrepareAnswer.TheVariants.{Prepared, Failed}

-- what one makes of the answer, by its packet
abbrev pub by_answer : {X : Type 0} → (ComStmtPrepareOk → X) → (ErrPacket → X) → PrepareAnswer → X
by_answer of_ok of_err (Prepared ok) = of_ok ok
by_answer of_ok of_err (Failed err) = of_err err

-- what is said of one of the packets, said of the answer
abbrev pub OnPrepared : (Result ComStmtPrepareOk WireError → ℕ → Type 0)
    → Result PrepareAnswer WireError → ℕ → Type 0
OnPrepared says (Ok (Prepared ok)) eaten = says (Ok ok) eaten
OnPrepared says (Ok (Failed err)) eaten = ⊥
OnPrepared says (Err error) eaten = says (Err error) eaten

abbrev pub OnFailed : (Result ErrPacket WireError → ℕ → Type 0) → Result PrepareAnswer WireError
    → ℕ → Type 0
OnFailed says (Ok (Prepared ok)) eaten = ⊥
OnFailed says (Ok (Failed err)) eaten = says (Ok err) eaten
OnFailed says (Err error) eaten = says (Err error) eaten

-- The packet whose header stands there is read. Another header is refused, and so is an end of
-- input; then nothing is eaten.
abbrev pub ReadsAnswer : (List ℕ → Result ComStmtPrepareOk WireError → ℕ → Type 0)
    → (List ℕ → Result ErrPacket WireError → ℕ → Type 0)
    → List ℕ → Result PrepareAnswer WireError → ℕ → Type 0
ReadsAnswer reads_ok reads_err input answer eaten =
    ((take 1 input ≡ []) × Answers (Err UnexpectedEof, 0) answer eaten)
    ⊎ ((take 1 input ≡ 0x00 ∷ []) × OnPrepared (reads_ok input) answer eaten)
    ⊎ ((take 1 input ≡ 0xff ∷ []) × OnFailed (reads_err input) answer eaten)
    ⊎ ((take 1 input ≢ []) × (take 1 input ≢ 0x00 ∷ []) × (take 1 input ≢ 0xff ∷ [])
    × Answers (Err (InvalidData UnknownValue), 0) answer eaten)

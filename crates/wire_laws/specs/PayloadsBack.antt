-- What comes back of a value at the front of a payload.
use Rattle.std.specs.Prelude.{ℕ, ◌≡◌, List, [], ◌++◌, length, Option, None, Some, Result, Ok, Err}
use Rattle.std.proofs.Common.{subst, sym, append-nil}
use Rattle.wire_buf.specs.declared.error.WireError.{WireError}
use Rattle.wire_buf.specs.declared.error.WireError.TheVariants.{OutOfMemory}
use Rattle.wire_buf.specs.declared.io.ParseBuf.{ParseBuf}
use Rattle.wire_values.specs.Payloads.{ReadsPayload}
use Rattle.wire_buf.specs.Reading.{Parses}
use Rattle.wire_codec.specs.Delivery.{Ending, Delivers}
use Rattle.wire_codec.specs.Framing.{id_after, stream}
use Rattle.wire_repr.specs.Law.{ComesBack, LeavesRest, seen, Parses-back, parse-back}

-- The value is one that is kept, and the rest is left. Where reading takes memory, the answer may
-- also be that it was refused.
abbrev pub LeavesAfter : {X : Type 0} → (X → Type 0) → Type 0 → List ℕ
    → Result (X × ParseBuf) WireError → Type 0
LeavesAfter kept takes_memory rest (Ok taken) =
    LeavesRest kept takes_memory rest (Ok taken.0) taken.1.0.now
LeavesAfter kept takes_memory rest (Err error) = (error ≡ OutOfMemory) × takes_memory

-- the same where the payload is these bytes and the rest
abbrev pub LeavesBehind : {X : Type 0} → List ℕ → List ℕ → (X → Type 0) → Type 0 → List ℕ
    → Result (X × ParseBuf) WireError → Type 0
LeavesBehind bytes rest kept takes_memory payload result =
    payload ≡ bytes ++ rest → LeavesAfter kept takes_memory rest result

-- whatever the answer to these bytes is, a value that is kept comes back of them, and all are eaten
abbrev pub ReadsBack : {X : Type 0} → (List ℕ → Result X WireError → ℕ → Type 0) → List ℕ
    → (X → Type 0) → Type 0 → Type 0
ReadsBack {X = X} reads bytes kept takes_memory =
    (answer : Result X WireError) (eaten : ℕ) → reads bytes answer eaten
    → ComesBack kept takes_memory (length bytes) answer eaten

-- of the stream of these payloads, with more after it, they are delivered first, and then what is
-- delivered of the more
abbrev pub DeliversFirst : ℕ → ℕ → List (List ℕ) → Type 0
DeliversFirst first_id limit payloads =
    (more : List ℕ) (delivered : List (List ℕ)) (ending : Ending) (unfinished rest : List ℕ)
    → Delivers [] (stream first_id payloads ++ more) first_id limit delivered ending unfinished rest
    → (others : List (List ℕ)) × (delivered ≡ payloads ++ others)
    × Delivers [] more (id_after first_id payloads) limit others ending unfinished rest

-- ---- lemmas

-- what was read of a payload that begins with a value
pub payload-back : {X : Type 0} (stated : Option ℕ)
    (reads : List ℕ → Result X WireError → ℕ → Type 0) (kept : X → Type 0) (takes_memory : Type 0)
    (bytes rest payload : List ℕ)
    → ((size : ℕ) → stated ≡ Some size → length bytes ≡ size)
    → ((answer : Result X WireError) (eaten : ℕ) → reads (bytes ++ seen stated rest) answer eaten
    → ComesBack kept takes_memory (length bytes) answer eaten)
    → payload ≡ bytes ++ rest → (result : Result (X × ParseBuf) WireError)
    → ReadsPayload (Parses stated reads) payload result
    → LeavesAfter kept takes_memory rest result
payload-back stated reads kept takes_memory bytes rest payload of_size law is (Ok taken) read =
    parse-back stated reads kept takes_memory bytes rest payload taken.1.0.now of_size law is
    (Ok taken.0) read
payload-back stated reads kept takes_memory bytes rest payload of_size law is (Err error)
    (left, read) =
    parse-back stated reads kept takes_memory bytes rest payload left of_size law is (Err error)
    read

-- what was read of a payload that is a value's bytes
pub alone-back : {X : Type 0} (stated : Option ℕ) (reads : List ℕ → Result X WireError → ℕ → Type 0)
    (kept : X → Type 0) (takes_memory : Type 0) (bytes : List ℕ)
    → ((size : ℕ) → stated ≡ Some size → length bytes ≡ size)
    → ((answer : Result X WireError) (eaten : ℕ) → reads (bytes ++ []) answer eaten
    → ComesBack kept takes_memory (length bytes) answer eaten)
    → (answer : Result X WireError) (eaten : ℕ) → Parses stated reads bytes answer eaten
    → ComesBack kept takes_memory (length bytes) answer eaten
alone-back None reads kept takes_memory bytes of_size law answer eaten read =
    Parses-back None reads kept takes_memory bytes [] of_size law answer eaten
    (subst (λ input. Parses None reads input answer eaten) (sym (append-nil bytes)) read)
alone-back (Some size) reads kept takes_memory bytes of_size law answer eaten read =
    Parses-back (Some size) reads kept takes_memory bytes [] of_size law answer eaten
    (subst (λ input. Parses (Some size) reads input answer eaten) (sym (append-nil bytes)) read)

-- What stands on the wire for two commands, and that it is read back.
use Rattle.std.specs.Prelude.{ℕ, ◌≡◌, ◌+◌, ◌<◌, ◌^◌, ◌==◌, List, ◌∷◌, ◌++◌, [], length, drop, take, Result, Ok, Err, if◌then◌else◌}
use Rattle.std.proofs.Common.{ap, ◌∙◌, arith, subst, append-nil, suc}
use Rattle.mysql_wire.specs.WireError.{WireError}
use Rattle.mysql_wire.specs.WireError.TheVariants.{InvalidData, UnexpectedEof}
use Rattle.mysql_wire.specs.InvalidReason.TheVariants.{ConstMismatch}
use Rattle.mysql_wire.specs.Numbers.{le_bytes, le_number}
use Rattle.mysql_wire.specs.NumberLemmas.{length-le_bytes, le_number-le_bytes_fits}
use Rattle.mysql_wire.specs.Reading.{Answers}

-- COM_STMT_CLOSE: its byte, and the statement's id
abbrev pub close_bytes : ℕ → List ℕ
close_bytes id = 0x19 ∷ le_bytes 4 id

-- what is answered to five bytes, and how many of them are eaten
abbrev pub close_at : List ℕ → Result ℕ WireError × ℕ
close_at input =
    if le_number (take 1 input) == 0x19 then (Ok (le_number (take 4 (drop 1 input))), 5)
    else (Err (InvalidData ConstMismatch), 1)

-- COM_INIT_DB: its byte, and the schema's name
abbrev pub init_db_bytes : List ℕ → List ℕ
init_db_bytes schema = 2 ∷ schema

-- what is answered to a payload, and how many bytes are eaten
abbrev pub init_db_at : List ℕ → Result (List ℕ) WireError × ℕ
init_db_at [] = (Err UnexpectedEof, 0)
init_db_at (byte ∷ rest) =
    if byte == 2 then (Ok rest, 1 + length rest)
    else (Err (InvalidData ConstMismatch), 1)

-- ---- lemmas

pub length-close_bytes : (id : ℕ) → length (close_bytes id) ≡ 5
length-close_bytes id = ap suc (length-le_bytes 4 id)

close_at-back : (id : ℕ) (rest : List ℕ) → id < 2 ^ 32
    → close_at (close_bytes id ++ rest) ≡ (Ok id, length (close_bytes id))
close_at-back id rest fits = ap (λ n. (Ok n, 5)) (le_number-le_bytes_fits 4 id fits)

pub close_bytes-back : (id : ℕ) (rest : List ℕ) → id < 2 ^ 32
    → (answer : Result ℕ WireError) (eaten : ℕ)
    → Answers (close_at (close_bytes id ++ rest)) answer eaten
    → Answers (Ok id, length (close_bytes id)) answer eaten
close_bytes-back id rest fits answer eaten read =
    subst (λ outcome. Answers outcome answer eaten) (close_at-back id rest fits) read

pub init_db_bytes-back : (schema rest : List ℕ) → rest ≡ []
    → (answer : Result (List ℕ) WireError) (eaten : ℕ)
    → Answers (init_db_at (init_db_bytes schema ++ rest)) answer eaten
    → Answers (Ok schema, length (init_db_bytes schema)) answer eaten
init_db_bytes-back schema rest none answer eaten read =
    let whole : schema ++ rest ≡ schema = ap (λ more. schema ++ more) none ∙ append-nil schema in
    let count : 1 + length schema ≡ length (init_db_bytes schema) = omega arith in
    (read.0 ∙ ap Ok whole, read.1 ∙ ap (λ bytes. 1 + length bytes) whole ∙ count)

-- The parameters of a statement that is executed.
use Rattle.std.specs.Prelude.{ℕ, ◌≡◌, ◌<◌, ◌^◌, nat_lt, List, [], ◌∷◌, ◌++◌, length, Option, Some, None}
use Rattle.std.proofs.Common.{refl}
use Rattle.wire_buf.specs.Numbers.{le_bytes}
use Rattle.mysql_wire_parts.specs.Optional.{BothIf, IsThere, OnIf, bytes_if}
use Rattle.mysql_wire_statements.specs.Bitmaps.{bitmap_len}
use Rattle.mysql_wire_statements.specs.Params.{types_of, types_bytes, HaveTypes}
use Rattle.mysql_wire_statements.specs.declared.com_stmt_execute.ComStmtExecute.{ComStmtExecute}
use Rattle.mysql_wire_statements.specs.declared.params.StmtParams.{StmtParams}

-- the bitmap, the types, and the values
abbrev pub params_bytes : StmtParams → List ℕ
params_bytes params = params.nulls.0.now
    ++ (types_bytes (types_of params.types) ++ params.values.now)

-- there are bits and types for this many
abbrev pub AreParams : ℕ → StmtParams → Type 0
AreParams count params = (bitmap_len 0 count ≡ length params.nulls.0.now)
    × HaveTypes count (types_of params.types)

-- the same bytes
abbrev pub SameParams : StmtParams → StmtParams → Type 0
SameParams params back = (back.nulls.0.now ≡ params.nulls.0.now)
    × (types_of back.types ≡ types_of params.types) × (back.values.now ≡ params.values.now)

-- what is written of an execution
abbrev pub execute_bytes : ComStmtExecute → List ℕ
execute_bytes command = 0x17 ∷ (le_bytes 4 command.statement_id
    ++ (command.flags.0 ∷ (le_bytes 4 command.iteration_count
    ++ bytes_if params_bytes command.params)))

-- its numbers are those of their types
abbrev pub HasNumbers : ComStmtExecute → Type 0
HasNumbers command = (command.statement_id < 2 ^ 32) × (command.flags.0 < 2 ^ 8)
    × (command.iteration_count < 2 ^ 32)

-- and it has parameters where the statement has some, and bits and types for this many
abbrev pub IsExecution : ℕ → ComStmtExecute → Type 0
IsExecution num_params command = HasNumbers command
    × IsThere (nat_lt 0 num_params) command.params × OnIf (AreParams num_params) command.params

-- the same statement, executed in the same way with the same bytes
abbrev pub SameExecution : ComStmtExecute → ComStmtExecute → Type 0
SameExecution command back = (back.statement_id ≡ command.statement_id)
    × (back.flags.0 ≡ command.flags.0)
    × (back.iteration_count ≡ command.iteration_count)
    × BothIf SameParams command.params back.params

-- ---- lemmas

-- parameters before nothing
pub params_good : (count : ℕ) (params : Option StmtParams) → OnIf (AreParams count) params
    → OnIf (λ params. AreParams count params × ◌≡◌ {A = List ℕ} [] []) params
params_good count (Some params) are = (are, refl)
params_good count None are = tt

-- The commands about a statement: what is written of each, and which comes back.
use Rattle.std.specs.Prelude.{ℕ, ◌≡◌, List, ◌∷◌, ◌++◌}
use Rattle.wire_buf.specs.Numbers.{le_bytes}
use Rattle.mysql_wire_statements.specs.declared.com_stmt_fetch.ComStmtFetch.{ComStmtFetch}
use Rattle.mysql_wire_statements.specs.declared.com_stmt_send_long_data.ComStmtSendLongData.{ComStmtSendLongData}

-- a part of a parameter's value, of the statement with this id
abbrev pub long_data_bytes : ℕ → ℕ → List ℕ → List ℕ
long_data_bytes id param part = 0x18 ∷ (le_bytes 4 id ++ (le_bytes 2 param ++ part))

abbrev pub IsLongData : ℕ → ℕ → List ℕ → ComStmtSendLongData → Type 0
IsLongData id param part command = (command.statement_id ≡ id) × (command.param_id ≡ param)
    × (command.data.now ≡ part)

-- this many of its rows
abbrev pub fetch_bytes : ℕ → ℕ → List ℕ
fetch_bytes id rows = 0x1c ∷ (le_bytes 4 id ++ le_bytes 4 rows)

abbrev pub IsFetch : ℕ → ℕ → ComStmtFetch → Type 0
IsFetch id rows command = (command.statement_id ≡ id) × (command.num_rows ≡ rows)

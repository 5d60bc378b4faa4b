use Rattle.std.specs.Prelude.{◌≡◌, List, length}
use Rattle.mysql_wire_queries.specs.declared.text_row.TextValue.{TextValue}
use Rattle.connection_examples.specs.Rows.{BeginsWith}
use Rattle.connection_examples.proofs.rows.text_at.Given as goal

abbrev pub invariant-values : goal.invariant-values
invariant-values l =
    (before : List TextValue) × (length before ≡ l._at) × BeginsWith l.payload before l.values

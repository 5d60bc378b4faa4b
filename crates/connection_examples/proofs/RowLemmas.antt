-- Values of a row, one more at a time.
use Rattle.std.specs.Prelude.{List, [], ◌∷◌, ◌++◌, Some, Ok}
use Rattle.std.proofs.Common.{refl, sym, subst}
use Rattle.mysql_wire_queries.specs.RowValues.{GivesAll, GivesValue}
use Rattle.mysql_wire_queries.specs.declared.text_row.TextValue.{TextValue}
use Rattle.mysql_wire_queries.specs.declared.text_values.TextValues.{TextValues}

-- a value that comes next is the last of those that came
pub given_more : (before : List TextValue) (all left new : TextValues) (value : TextValue)
    → GivesAll all before left → GivesValue left (Some (Ok value)) new
    → GivesAll all (before ++ value ∷ []) new
given_more [] all left new value same next =
    (new, subst (λ values. GivesValue values (Some (Ok value)) new) (sym same) next, refl)
given_more (first ∷ others) all left new value (mid, came, more) next =
    (mid, came, given_more others mid left new value more next)

-- Values of a row, one after another.
use Rattle.std.proofs.Common.{ℕ, ◌+◌, ◌<◌, List, [], ◌∷◌, ◌++◌, length, take, sym, subst, refl}
use Rattle.std.proofs.lemmas.List.{take_more_set}
use Rattle.std.proofs.Math.ListN.{set}
use Rattle.mysql_wire_c_calls.specs.declared.fields.Span.{Span}
use Rattle.mysql_wire_c_calls.specs.Rows.{ReadsRow, ReadsValue}

-- one value more is read
pub row_then : (texts : List Span) (bytes : List ℕ) (at mid end : ℕ) (text : Span) → ReadsRow bytes at texts mid → ReadsValue bytes mid text end
    → ReadsRow bytes at (texts ++ text ∷ []) end
row_then [] bytes at mid end text is value = (end, subst (λ (n : ℕ). ReadsValue bytes n text end) is value, refl)
row_then (first ∷ texts) bytes at mid end text (next, stands, rest) value = (next, stands, row_then texts bytes next mid end text rest value)

-- the same, as it is written to its place
pub row_step : (texts : List Span) (bytes : List ℕ) (at mid end count : ℕ) (text : Span) → count < length texts → ReadsRow bytes at (take count texts) mid → ReadsValue bytes mid text end
    → ReadsRow bytes at (take (count + 1) (set texts count text)) end
row_step texts bytes at mid end count text inside so_far value =
    subst (λ (z : List Span). ReadsRow bytes at z end) (sym (take_more_set texts count text inside))
    (row_then (take count texts) bytes at mid end text so_far value)

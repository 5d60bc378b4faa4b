-- The definition of a column.
use Rattle.std.specs.Prelude.{◌≡◌, ℕ, List, ◌++◌, ◌⊎◌, Result, Ok, Err}
use Rattle.std.proofs.Common.{inl, inr}
use Rattle.wire_buf.specs.declared.error.WireError.{WireError}
use Rattle.wire_field.specs.Rows.{ReadsBoth, both-back}
use Rattle.wire_field.specs.declared.row.Both.{Both}
use Rattle.wire_forms.specs.declared.lenenc.LenEnc.{LenEnc}
use Rattle.mysql_wire_parts.specs.Fields.{Constant, Optional, Text}
use Rattle.mysql_wire_parts.specs.Optional.{field}
use Rattle.mysql_wire_parts.specs.InOrder.{Back}
use Rattle.wire_repr.specs.Law.{ComesBack}
use Rattle.mysql_wire_queries.specs.declared.column_definition.ColumnDefinition41.{ColumnDefinition41}
use Rattle.mysql_wire_queries.specs.declared.column_definition.Pair.{Pair}

-- its names, in order
abbrev pub Names : Type 0
Names = Both Pair (Both Pair Pair)

-- and its numbers, after their length
abbrev pub Numbers : Type 0
Numbers = Both (Both (Constant 0x0c) (Both ℕ ℕ)) (Both (Both ℕ ℕ) (Both ℕ (List ℕ)))

-- its fields, in order
abbrev pub column_fields : ColumnDefinition41 → Both Names (Both (Optional (Text LenEnc)) Numbers)
column_fields column = (
  (
    (column.catalog, column.schema),
    ((column.table, column.org_table), (column.name, column.org_name)),
  ),
  (
    field (λ text. text) _ column.extended_metadata,
    (
      (_, (column.character_set, column.column_length)),
      ((column.column_type.0, column.flags.0), (column.decimals, column.reserved)),
    ),
  ),
)

-- these bytes were put after what stood there, or where memory is refused a part of them may be
abbrev pub PutsAfter : {X Y : Type 0} → Result X Y → List ℕ → List ℕ → List ℕ → Type 0
PutsAfter (Ok _) old new bytes = new ≡ old ++ bytes
PutsAfter (Err _) old new bytes = (part : List ℕ) × (new ≡ old ++ part)

-- ---- lemmas

-- without the premise of memory
no_memory : {X : Type 0} (kept : X → Type 0) (len : ℕ) (answer : Result X WireError) (eaten : ℕ)
    → ComesBack kept (⊥ ⊎ ⊥) len answer eaten → ComesBack kept ⊥ len answer eaten
no_memory kept len (Ok value) eaten back = back
no_memory kept len (Err error) eaten (is, inl none) = absurd none
no_memory kept len (Err error) eaten (is, inr none) = absurd none

-- two texts come back
pub pair : {reads_a reads_b : List ℕ → Result (Text LenEnc) WireError → ℕ → Type 0}
    {kept_a kept_b : Text LenEnc → Type 0} {bytes_a bytes_b rest : List ℕ}
    → Back reads_a kept_a bytes_a (bytes_b ++ rest) → Back reads_b kept_b bytes_b rest
    → Back (ReadsBoth {Y = Pair} (λ pair. pair.0) (λ pair. pair.1) reads_a reads_b)
    (λ back. kept_a back.0 × kept_b back.1) (bytes_a ++ bytes_b) rest
pair {reads_a = reads_a} {reads_b = reads_b} {kept_a = kept_a} {kept_b = kept_b}
    {bytes_a = bytes_a} {bytes_b = bytes_b} {rest = rest} back_a back_b = record {
      law = λ answer eaten read. no_memory _ _ answer eaten (both-back {Y = Pair}
          (λ pair. pair.0) (λ pair. pair.1) reads_a reads_b kept_a kept_b ⊥ ⊥ bytes_a bytes_b rest
          back_a.law back_b.law answer eaten read);
    }

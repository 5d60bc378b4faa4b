-- The values of a row's columns, one by one, and all together.
use Rattle.std.specs.Prelude.{ℕ, ◌≡◌, false, List, [], ◌∷◌, drop, slice_get, Some}
use Rattle.std.proofs.Common.{zero, suc, refl, sym, ap, subst}
use Rattle.mysql_wire_statements.specs.RowColumns.{GivesAll, ReadsColumns}
use Rattle.mysql_wire_statements.specs.declared.binary_value.BinaryValue.{BinaryValue}
use Rattle.mysql_wire_statements.specs.declared.binary_values.BinaryValues.{BinaryValues}
use Rattle.wire_const.specs.declared.column_type.ColumnType.{ColumnType}

-- an element is the first of those from its place on
drop_from : {X : Type 0} (xs : List X) (i : ℕ) (x : X) → slice_get xs i ≡ Some x
    → drop i xs ≡ x ∷ drop (suc i) xs
drop_from [] i x at = absurd (cc at)
drop_from (first ∷ others) zero x at = ap (λ first. first ∷ others) (cc at)
drop_from (first ∷ others) (suc i) x at = drop_from others i x at

get_from : {X : Type 0} (xs : List X) (i : ℕ) (x : X) (more : List X) → drop i xs ≡ x ∷ more
    → (slice_get xs i ≡ Some x) × (more ≡ drop (suc i) xs)
get_from [] zero x more at = absurd (cc at)
get_from [] (suc i) x more at = absurd (cc at)
get_from (first ∷ others) zero x more at = (ap Some (cc at), cc at)
get_from (first ∷ others) (suc i) x more at = get_from others i x more at

pub given_columns : (came : List BinaryValue) (values left : BinaryValues)
    → GivesAll values came left
    → ReadsColumns values.nulls.0.now values.column (drop values.column values.types.now)
    values.rest.0.now came left.rest.0.now
given_columns [] values left same = ap (λ values. values.rest.0.now) (sym same)
given_columns (value ∷ others) values left (mid, (column_type, (at, _), read, is), more) =
    let later = subst (λ m. ReadsColumns m.nulls.0.now m.column (drop m.column m.types.now)
    mid.rest.0.now others left.rest.0.now) is (given_columns others mid left more) in
    subst (λ types. ReadsColumns values.nulls.0.now values.column types values.rest.0.now
    (value ∷ others) left.rest.0.now)
    (sym (drop_from values.types.now values.column column_type at))
    (mid.rest.0.now, read, later)

read_from : (came : List BinaryValue) (values : BinaryValues) (types : List ColumnType)
    → drop values.column values.types.now ≡ types → values.has_refused ≡ false → (rest : List ℕ)
    → ReadsColumns values.nulls.0.now values.column types values.rest.0.now came rest
    → (left : BinaryValues) × GivesAll values came left × (left.rest.0.now ≡ rest)
read_from [] values types at begun rest read = (values, refl, sym read)
read_from (value ∷ others) values [] at begun rest read = absurd read
read_from (value ∷ others) values (first ∷ types) at begun rest (mid, read, more) =
    let (here, later) = get_from values.types.now values.column first types at in
    let next : BinaryValues = record values {
      column = suc values.column;
      rest = record values.rest { 0 = record values.rest.0 { now = mid } };
    } in
    let (left, given, is) = read_from others next types (sym later) begun rest more in
    (left, (next, (first, (here, begun), read, refl), given), is)

pub read_columns : (came : List BinaryValue) (values : BinaryValues) → values.has_refused ≡ false
    → (rest : List ℕ)
    → ReadsColumns values.nulls.0.now values.column (drop values.column values.types.now)
    values.rest.0.now came rest
    → (left : BinaryValues) × GivesAll values came left × (left.rest.0.now ≡ rest)
read_columns came values begun rest read =
    read_from came values (drop values.column values.types.now) refl begun rest read

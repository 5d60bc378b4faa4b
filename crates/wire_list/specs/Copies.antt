-- Copies of lists, whose values are cloned where they have to be.
use Rattle.std.specs.Prelude.{◌≡◌, List, [], ◌∷◌, ◌++◌}
use Rattle.std.specs.Cow.{cow_slice_items}
use Rattle.std.specs.List.{AllZip}
use Rattle.std.specs.declared.borrow.CowSlice.{CowSlice}
use Rattle.std.specs.declared.borrow.CowSlice.TheVariants as slice
use Rattle.wire_repr.specs.Texts.{IsOwned}

-- a copy of a list: borrowed values are borrowed again, and owned ones are cloned
abbrev pub IsCopy : {X Z : Type 0} → (X → X → Type 0) → CowSlice X Z → CowSlice X Z → Type 0
IsCopy is_clone (slice.Borrowed r) (slice.Borrowed s) = s.now ≡ r.now
IsCopy is_clone (slice.Borrowed r) (slice.Owned w) = ⊥
IsCopy is_clone (slice.Owned v) (slice.Borrowed s) = ⊥
IsCopy is_clone (slice.Owned v) (slice.Owned w) = AllZip is_clone v.items w.items

-- what a list has once it owns its values: clones of borrowed ones, and owned ones as they are
abbrev pub OwnsAs : {X Z : Type 0} → (X → X → Type 0) → CowSlice X Z → List X → Type 0
OwnsAs is_clone (slice.Borrowed r) items = AllZip is_clone r.now items
OwnsAs is_clone (slice.Owned v) items = items ≡ v.items

-- the list owns its values, and one more after them
abbrev pub GainsValue : {X Z : Type 0} → (X → X → Type 0) → CowSlice X Z → X → CowSlice X Z → Type 0
GainsValue {X = X} is_clone old value new = IsOwned new
    × ((items : List X) × OwnsAs is_clone old items × (cow_slice_items new ≡ items ++ value ∷ []))

-- the same values, owned or borrowed as they were
abbrev pub SameList : {X Z : Type 0} → CowSlice X Z → CowSlice X Z → Type 0
SameList (slice.Borrowed r) (slice.Borrowed s) = s.now ≡ r.now
SameList (slice.Borrowed r) (slice.Owned w) = ⊥
SameList (slice.Owned v) (slice.Borrowed s) = ⊥
SameList (slice.Owned v) (slice.Owned w) = w.items ≡ v.items

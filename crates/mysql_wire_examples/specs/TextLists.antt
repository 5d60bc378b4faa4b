-- The texts of a list.
use Rattle.std.specs.Prelude.{ℕ, ◌≡◌, List, [], ◌∷◌, ◌++◌, map}
use Rattle.std.specs.Cow.{cow_slice_items}
use Rattle.std.specs.declared.borrow.CowSlice.{CowSlice}
use Rattle.mysql_wire.specs.RawBytes.{RawBytes}

abbrev pub texts_of : {R A C Z : Type 0} → CowSlice (RawBytes R A C) Z → List (List ℕ)
texts_of list = map (λ text. cow_slice_items text.0) (cow_slice_items list)

-- the second list has this text after those of the first
abbrev pub GainsText : {R A C Z : Type 0} → CowSlice (RawBytes R A C) Z → List ℕ
    → CowSlice (RawBytes R A C) Z → Type 0
GainsText old text new = texts_of new ≡ texts_of old ++ text ∷ []

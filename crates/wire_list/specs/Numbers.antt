-- Numbers in a list, each in its representation.
use Rattle.std.specs.Prelude.{ℕ, ◌≡◌, List, ◌++◌, length, Option, Result}
use Rattle.std.specs.Cow.{cow_slice_items}
use Rattle.std.specs.List.{flat_map, All}
use Rattle.wire_buf.specs.Numbers.{le_bytes}
use Rattle.wire_buf.specs.Reading.{Parses, Through}
use Rattle.wire_buf.specs.declared.error.WireError.{WireError}
use Rattle.wire_repr.specs.Law.{ComesBackFrom}
use Rattle.wire_repr.specs.declared.int.RawInt.{RawInt}
use Rattle.wire_values.specs.Elements.{ReadsAll}
use Rattle.wire_list.specs.ElementLaws.{AllKept}
use Rattle.wire_list.specs.declared.seq.Seq.{Seq}

-- this many are read, one after another
abbrev pub ReadsNumbers : {R P : Type 0} → Option ℕ
    → (List ℕ → Result P WireError → ℕ → Type 0) → ℕ → List ℕ
    → Result (List (RawInt R P)) WireError → ℕ → Type 0
ReadsNumbers size reads =
    ReadsAll size (Parses size (λ input. Through (λ int. int.0) (reads input)))

-- each is one of its type
abbrev pub AreNumbers : {R P : Type 0} → (P → Type 0) → List (RawInt R P) → Type 0
AreNumbers is_value ints = All (λ int. is_value int.0) ints

-- what is written of them
abbrev pub numbers_bytes : {R P : Type 0} → (P → List ℕ) → List (RawInt R P) → List ℕ
numbers_bytes bytes ints = flat_map (λ int. bytes int.0) ints

-- and of their count before them
abbrev pub counted_bytes : {R P : Type 0} → ℕ → (P → List ℕ) → List (RawInt R P) → List ℕ
counted_bytes width bytes ints = le_bytes width (length ints) ++ numbers_bytes bytes ints

-- where a buffer begins with these bytes, what is kept of each number comes back; memory for the
-- list may be refused
abbrev pub NumbersFrom : {R P C A : Type 0} → List ℕ → (P → P) → List (RawInt R P) → List ℕ
    → Result (Seq (RawInt R P) C A) WireError → List ℕ → Type 0
NumbersFrom bytes kept ints = ComesBackFrom bytes
    (λ back. AllKept (λ int back. back.0 ≡ kept int.0) ints (cow_slice_items back.0)) (Unit {0})

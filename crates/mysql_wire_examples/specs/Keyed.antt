-- What a map has at a number or a text, whatever holds it.
use Rattle.std.specs.Prelude.{ℕ, List, Option, nat_eq}
use Rattle.std.specs.BTreeMap as tree
use Rattle.std.specs.BTreeMap.{BTreeMap}
use Rattle.std.specs.Cmp.Lexicographic.{slice_cmp}
use Rattle.std.specs.HashMap as hash
use Rattle.std.specs.HashMap.{HashMap}
use Rattle.std.specs.Cow.{cow_slice_items}
use Rattle.std.specs.Ordering.{nat_cmp}
use Rattle.mysql_wire.specs.RawBytes.{RawBytes}
use Rattle.mysql_wire.specs.RawInt.{RawInt}

-- the value at the number, where each key holds one
abbrev pub at_number : {K X S : Type 0} → (K → ℕ) → HashMap K X S → ℕ → Option X
at_number number_of map number = hash.get_by (λ key. nat_eq number (number_of key)) map

-- the value at the text, where each key holds one
abbrev pub at_text : {K X : Type 0} → (K → List ℕ) → BTreeMap K X → List ℕ → Option X
at_text text_of map text = tree.get_by (λ key. slice_cmp nat_cmp text (text_of key)) map

-- the same where the keys are numbers, or texts, of the wire
abbrev pub at_int : {R X S : Type 0} → HashMap (RawInt R ℕ) X S → ℕ → Option X
at_int map number = at_number (λ key. key.0) map number

abbrev pub at_bytes : {R A C X : Type 0} → BTreeMap (RawBytes R A C) X → List ℕ → Option X
at_bytes map text = at_text (λ key. cow_slice_items key.0) map text

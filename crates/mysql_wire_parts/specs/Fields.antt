-- The types of fields.
use Rattle.std.specs.Prelude.{ℕ}
use Rattle.std.specs.Global.{Global}
use Rattle.wire_field.specs.declared.row.Either.{Either}
use Rattle.wire_forms.specs.declared.constant.ConstU8.{ConstU8}
use Rattle.wire_forms.specs.declared.constant.Skip.{Skip}
use Rattle.wire_values.specs.declared.text.RawBytes.{RawBytes}

-- a text by this representation
abbrev pub Text : Type 0 → Type 0
Text repr = RawBytes repr Global (Unit {0})

-- one that may be missing, and then has no bytes
abbrev pub Optional : Type 0 → Type 0
Optional A = Either A (Skip 0)

-- a byte that is always the same
abbrev pub Constant : ℕ → Type 0
Constant byte = ConstU8 (Unit {0}) byte

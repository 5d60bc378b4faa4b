-- Texts that a zero ends.
use Rattle.std.specs.Prelude.{ℕ, Bool, ◌==◌}

-- the byte is the zero that ends a text
abbrev pub is_zero : ℕ → Bool
is_zero byte = byte == 0

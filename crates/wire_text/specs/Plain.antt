-- Which bytes are no plain letters, as bits.
use Rattle.std.specs.Prelude.{ℕ, Bool, not, List, map}
use Rattle.wire_text.specs.Fields.{plain}
use lib.Lanes.{mask_l}

-- a byte that is none
abbrev pub is_other : ℕ → Bool
is_other byte = not (plain byte)

-- a bit for each byte, set where it is none; that of the first is the lowest
abbrev pub others_mask : List ℕ → ℕ
others_mask bytes = mask_l (map is_other bytes)

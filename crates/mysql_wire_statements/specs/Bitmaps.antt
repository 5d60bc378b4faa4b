-- Bitmaps: bit 0 is the least significant of the first byte.
use Rattle.std.specs.Prelude.{ℕ, ◌≡◌, ◌<◌, ◌+◌, ◌^◌, ◌/◌, ◌%◌, List, length, slice_index}

-- how many bytes hold this many bits that come after the first ones
abbrev pub bitmap_len : ℕ → ℕ → ℕ
bitmap_len first count = (first + count + 7) / 8

-- the bit is there, and set
abbrev pub IsSet : List ℕ → ℕ → Type 0
IsSet bytes bit = (bit / 8 < length bytes)
    × (slice_index bytes (bit / 8) / 2 ^ (bit % 8) % 2 ≡ 1)

-- Lines that are written in parts.
use Rattle.std.specs.Io.KnownBytes.{Appends}
use Rattle.std.specs.Prelude.{◌≡◌, ℕ, List, ◌++◌, Option}

-- a text was held, and another one went after it; then this much of both was written, and the rest
-- is held
abbrev pub Goes : List ℕ → List ℕ → List ℕ → Option (List ℕ) → Option (List ℕ) → Type 0
Goes held text left before after =
    (written : List ℕ) × Appends before after written × (written ++ left ≡ held ++ text)

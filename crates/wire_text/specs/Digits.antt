-- Digits that are appended part by part.
use Rattle.std.specs.Prelude.{◌≡◌, ℕ, ◌++◌, List}
use Rattle.hex.specs.Hex.{encode_lower}

-- what is done of some bytes, and what is left of them
abbrev pub Pushed : List ℕ → List ℕ → List ℕ → List ℕ → Type 0
Pushed bytes rest held text = (done : List ℕ) × (done ++ rest ≡ bytes) × (text ≡ held ++ encode_lower done)

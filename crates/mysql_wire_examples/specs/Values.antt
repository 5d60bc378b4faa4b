-- Values that are packets.
use Rattle.std.specs.Prelude.{ℕ, List, [], All}

-- each of these values comes back of a packet of its own
abbrev pub StandAlone : {X : Type 0} → (Unit {0} → X → List ℕ → Type 0) → List X → Type 0
StandAlone good values = All (λ value. good tt value []) values

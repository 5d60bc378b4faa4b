-- What a codec makes of the bytes that come.
use Rattle.std.specs.Prelude.{◌≡◌, ℕ, List, [], ◌++◌, Vec}
use Rattle.mysql_wire.specs.Delivery.{Delivers, Waiting}
use Rattle.mysql_wire.specs.Runs.{payloads}

-- packets were put after those that were there, and this holds of their payloads
abbrev pub GainsPackets : {A : Type 0} → List (Vec ℕ A) → List (Vec ℕ A) → (List (List ℕ) → Type 0)
    → Type 0
GainsPackets old new P = (gained : List (List ℕ)) × (payloads new ≡ payloads old ++ gained) × P gained

-- a stream that begins with the chunk of this id has delivered these payloads under this limit, and
-- waits for more
abbrev pub DeliversSoFar : List ℕ → ℕ → ℕ → List (List ℕ) → Type 0
DeliversSoFar input first_id limit payloads =
    (unfinished : List ℕ) × (rest : List ℕ)
    × Delivers [] input first_id limit payloads Waiting unfinished rest

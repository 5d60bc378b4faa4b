use Rattle.std.proofs.Common.{◌≡◌, ℕ, ◌-◌, ◌≤◌, List, length, take}
use Rattle.std.specs.List.{flat_map}
use Rattle.mysql_wire_c_calls.specs.Decoding.{FedInTurn}
use Rattle.mysql_wire_c_calls.proofs.connection.fill.Given as goal

abbrev pub invariant-pieces : goal.invariant-pieces
invariant-pieces l = record {
  bound : l.used ≤ length l.fn.bytes;
  so_far : (pieces : List (List ℕ)) × (flat_map (λ (piece : List ℕ). piece) pieces ≡ take l.used l.fn.bytes)
      × FedInTurn pieces l.fn.connection.side l.connection.side;
}

abbrev pub decreases-pieces : goal.decreases-pieces
decreases-pieces l = length l.fn.bytes - l.used

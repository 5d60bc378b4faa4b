-- Both ends of a connection.
use Rattle.std.specs.Prelude.{◌≡◌, ◌+◌, ◌/◌, ◌%◌, ◌<◌, ℕ, List, [], ◌∷◌, length, map, None}
use Rattle.std.specs.List.{flat_map}
use Rattle.mysql_wire.specs.Codec.{expected_id, header_of}
use Rattle.mysql_wire.specs.Framing.{max_payload}
use Rattle.mysql_wire_examples.specs.declared.both_ends.End.{End}
use Rattle.mysql_wire_examples.specs.declared.both_ends.Exchange.{Exchange}

-- nothing is on its way to this end, which expects this id
pub record IsIdle (id : ℕ) {A : Type 0} (end : End A) : Type 0 where
  pub small : id < 256
  pub id_is : expected_id end.codec ≡ id
  pub header : header_of end.codec ≡ None
  pub nothing_unread : end.input.items ≡ []
  pub nothing_held : end.unfinished.items ≡ []

-- nothing is on its way, both expect the same id, and have the same limit
pub record InStep {A : Type 0} (one other : End A) : Type 0 where
  pub id : ℕ
  pub first : IsIdle id one
  pub second : IsIdle id other
  pub limit : one.codec.max_allowed_packet ≡ other.codec.max_allowed_packet

abbrev pub commands_of : List Exchange → List (List ℕ)
commands_of exchanges = map (λ exchange. exchange.command.packet.now) exchanges

abbrev pub answer_of : Exchange → List (List ℕ)
answer_of exchange = map (λ sent. sent.packet.now) exchange.answer.now

abbrev pub answers_of : List Exchange → List (List ℕ)
answers_of exchanges = flat_map answer_of exchanges

-- how many chunks a packet has
abbrev pub chunks_in : List ℕ → ℕ
chunks_in packet = length packet / max_payload + 1

-- the ids that both ends expect after each of these packets, with this many chunks before them
abbrev pub points : ℕ → List (List ℕ) → List (ℕ × ℕ)
points count [] = []
points count (packet ∷ packets) =
    ((count + chunks_in packet) % 256, (count + chunks_in packet) % 256)
    ∷ points (count + chunks_in packet) packets

-- an exchange begins from 0
abbrev pub ids_in : Exchange → List (ℕ × ℕ)
ids_in exchange = points 0 (exchange.command.packet.now ∷ answer_of exchange)

abbrev pub ids_of : List Exchange → List (ℕ × ℕ)
ids_of exchanges = flat_map ids_in exchanges

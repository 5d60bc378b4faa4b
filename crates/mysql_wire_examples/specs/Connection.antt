-- A server's side of a connection.
use Rattle.std.specs.Prelude.{◌≡◌, ℕ, List, [], ◌∷◌, ◌++◌, ◌==◌, if◌then◌else◌, codes}
use Rattle.std.specs.List.{flat_map}
use Rattle.mysql_wire.specs.Codec.{CodecState, Stands, codec_state, first_id, input_of}
use Rattle.mysql_wire.specs.Framing.{framing, next_id}
use Rattle.mysql_wire_examples.specs.declared.connection.Connection.{Connection}

-- its codec and buffers
abbrev pub state_of : {A : Type 0} → Connection A → CodecState
state_of connection =
    codec_state connection.codec connection.input.items connection.unfinished.items

-- its codec stands, and the command that it takes, or goes on with, is numbered from 0
abbrev pub AwaitsCommand : {A : Type 0} → Connection A → Type 0
AwaitsCommand connection =
    Stands (state_of connection) × (first_id (state_of connection) ≡ 0)

-- what is answered to a command: to a query an OK_Packet, to another an ERR_Packet
abbrev pub answer_to : List ℕ → List ℕ
answer_to [] = 0xff ∷ 0x17 ∷ 0x04 ∷ codes "#08S01"
answer_to (byte ∷ query) =
    if byte == 3 then 0 ∷ 0 ∷ 0 ∷ 2 ∷ 0 ∷ 0 ∷ 0 ∷ []
    else 0xff ∷ 0x17 ∷ 0x04 ∷ codes "#08S01"

-- commands as they come: each is framed from 0
abbrev pub commands_framed : List (List ℕ) → List ℕ
commands_framed commands = flat_map (framing 0) commands

-- what is answered to each: a packet that is numbered on from its command
abbrev pub answers_framed : List (List ℕ) → List ℕ
answers_framed commands =
    flat_map (λ command. framing (next_id 0 command) (answer_to command)) commands

-- a piece was taken: the commands that are whole with it were answered, and the rest of the input
-- is kept
pub record Serves {A : Type 0} (before : Connection A) (piece written : List ℕ)
    (after : Connection A) (now : List ℕ) : Type 0 where
  pub commands : List (List ℕ)
  pub taken : input_of (state_of before) ++ piece
      ≡ commands_framed commands ++ input_of (state_of after)
  pub answered : now ≡ written ++ answers_framed commands
  pub awaits : AwaitsCommand after

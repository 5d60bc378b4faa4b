-- An answer that is read packet by packet.
use Rattle.std.specs.Prelude.{◌≡◌, ◌+◌, ℕ, List, [], ◌∷◌, length}
use Rattle.mysql_wire_session.specs.Fronts.{TakesFront}
use Rattle.mysql_wire_session.specs.State.{SessionState}
use Rattle.mysql_wire_session.specs.declared.packet_kind.PacketKind.{PacketKind}
use Rattle.mysql_wire_session.specs.declared.packet_kind.PacketKind.TheVariants as kind
use Rattle.mysql_wire_session.specs.declared.side.Side.TheVariants.{Server}

-- a packet of the server came, that was taken for this, and this is known after it
abbrev pub TakesPacket : SessionState → SessionState → PacketKind → Type 0
TakesPacket before after called =
    (id : ℕ) × (payload : List ℕ)
    × TakesFront Server id (length payload) payload before after called

-- packets of the server came, one after another, that were taken for these: the last one first
abbrev pub TakesAll : List PacketKind → SessionState → SessionState → Type 0
TakesAll [] before after = after ≡ before
TakesAll (last ∷ others) before after =
    (between : SessionState) × TakesAll others before between × TakesPacket between after last

-- how many of them are rows
abbrev pub is_row : PacketKind → ℕ
is_row kind.Row = 1
is_row kind.BinaryRow = 1
is_row other = 0

abbrev pub rows_in : List PacketKind → ℕ
rows_in [] = 0
rows_in (last ∷ others) = rows_in others + is_row last

-- packets of the server came, of which this many are rows
abbrev pub CountsRows : ℕ → SessionState → SessionState → Type 0
CountsRows rows before after =
    (kinds : List PacketKind) × TakesAll kinds before after × (rows ≡ rows_in kinds)

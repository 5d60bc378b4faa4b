-- The packets of a piece: lines, and packets whose lines are still to be made.
use Rattle.std.specs.Prelude.{◌≡◌, ℕ, List, ◌++◌, IsFalse}
use Rattle.wire_codec.specs.Runs.{payloads}
use Rattle.mysql_wire_tool_commands.specs.declared.piece_lines.PieceLines.{PieceLines}
use Rattle.mysql_wire_tool_commands.specs.Texts.{payload_line}
use Rattle.mysql_wire_tool_commands.specs.Unframe.{packet_lines}

-- the lines of all of them
abbrev pub pending_lines : {A : Type 0} → PieceLines A → List ℕ
pending_lines lines = lines.text.items ++ packet_lines (payloads lines.packets.items)

-- the line of one packet more
abbrev pub AppendsLine : {A : Type 0} → PieceLines A → List ℕ → PieceLines A → Type 0
AppendsLine old packet new =
    (new.is_refused ≡ old.is_refused) × (pending_lines new ≡ pending_lines old ++ payload_line packet)

-- they are the lines of these packets, where no memory was refused
abbrev pub HoldsLines : {A : Type 0} → PieceLines A → List (List ℕ) → Type 0
HoldsLines lines gained = IsFalse lines.is_refused → pending_lines lines ≡ packet_lines gained

-- what a visit makes of it, where no memory was refused
abbrev pub GainsLine : {A : Type 0} → PieceLines A → List ℕ → PieceLines A → Type 0
GainsLine old packet new = IsFalse new.is_refused
    → IsFalse old.is_refused × (pending_lines new ≡ pending_lines old ++ payload_line packet)

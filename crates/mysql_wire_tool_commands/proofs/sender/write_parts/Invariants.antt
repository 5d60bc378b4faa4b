use Rattle.std.proofs.Common.{◌≡◌, ℕ, List, ◌++◌}
use Rattle.std.specs.Io.KnownBytes.{Appends}
use Rattle.wire_span.specs.Framed.{frame_state, most_parts, FramesOn}
use Rattle.mysql_wire_tool_commands.proofs.sender.write_parts.Given as goal

abbrev pub invariant-parts : goal.invariant-parts
invariant-parts g l =
    (eaten : List ℕ) × (out : List ℕ) × (l.packet ≡ eaten ++ l.rest)
    × Appends (g.W.Write.contents l.fn.writer) (g.W.Write.contents l.writer) out
    × FramesOn (frame_state l.fn.frames) eaten out (frame_state l.frames)

abbrev pub decreases-parts : goal.decreases-parts
decreases-parts g l = most_parts (frame_state l.frames) l.rest

use Rattle.std.proofs.Common.{◌≡◌, ℕ, List, ◌++◌}
use Rattle.mysql_wire.specs.Framed.{frame_state, most_parts, FramesOn}
use Rattle.mysql_wire_examples.proofs.long_packet.send_piece.Given as goal

abbrev pub invariant-parts : goal.invariant-parts
invariant-parts g l =
    (eaten : List ℕ) × (out : List ℕ) × (l.initial.rest ≡ eaten ++ l.rest)
    × (l.output.items ≡ l.initial.output.items ++ out)
    × FramesOn (frame_state l.initial.writer) eaten out (frame_state l.writer)

abbrev pub decreases-parts : goal.decreases-parts
decreases-parts g l = most_parts (frame_state l.writer) l.rest

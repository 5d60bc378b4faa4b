use Rattle.std.proofs.Common.{◌≡◌, ◌-◌, ◌++◌, ℕ, List, length}
use Rattle.std.specs.Io.KnownBytes.{Appends}
use Rattle.wire_codec.specs.Codec.{CodecState}
use Rattle.wire_codec.specs.LimitedRuns.{Aligned}
use Rattle.mysql_wire_tool_commands.specs.declared.unframe.Verdict.{Verdict}
use Rattle.mysql_wire_tool_commands.specs.Unframe.{TakesPiece, run_state}
use Rattle.mysql_wire_tool_commands.proofs.unframe.take_piece.Given as goal

-- what the rest makes of it, the whole piece does, after the text that was written
abbrev pub invariant-parts : goal.invariant-parts
invariant-parts g l = record {
  aligned : Aligned (run_state l.run);
  limits : (l.run.limit ≡ l.fn.run.limit) × (l.run.later ≡ l.fn.run.later) × (l.run.ahead ≡ l.fn.run.ahead - length l.piece);
  so_far : (text : List ℕ) × Appends (g.W.Write.contents l.fn.output) (g.W.Write.contents l.output) text
      × ((ends : Verdict) (more : List ℕ) (after : CodecState) → TakesPiece (run_state l.run) l.limit l.rest ends more after
      → TakesPiece (run_state l.fn.run) l.limit l.piece ends (text ++ more) after);
}

abbrev pub decreases-parts : goal.decreases-parts
decreases-parts g l = length l.rest

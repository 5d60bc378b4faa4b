use Rattle.std.proofs.Common.{length}
use Rattle.wire_text.proofs.PartLemmas.{PartsWritten}
use Rattle.wire_text.proofs.long.write_parts.Given as goal

abbrev pub decreases-parts : goal.decreases-parts
decreases-parts g l = length l.rest

abbrev pub invariant-parts : goal.invariant-parts
invariant-parts g l = PartsWritten l.form l.bytes l.rest (g.W.Write.contents l.fn.output) (g.W.Write.contents l.output)

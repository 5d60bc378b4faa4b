use Rattle.std.proofs.Common.{length}
use Rattle.wire_text.proofs.EscapeLemmas.{Escaped}
use Rattle.wire_text.proofs.quoted.push_escaped.Given as goal

abbrev pub decreases-rounds : goal.decreases-rounds
decreases-rounds g l = length l.rest

abbrev pub invariant-rounds : goal.invariant-rounds
invariant-rounds g l = Escaped l.words l.rest l.fn.text.items l.text.items

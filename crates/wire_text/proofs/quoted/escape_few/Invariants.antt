use Rattle.std.proofs.Common.{length, take}
use Rattle.wire_text.proofs.EscapeLemmas.{FilledBefore}
use Rattle.wire_text.proofs.quoted.escape_few.Given as goal

abbrev pub decreases-parts : goal.decreases-parts
decreases-parts l = length l.rest

abbrev pub invariant-parts : goal.invariant-parts
invariant-parts l = FilledBefore (take l.begin l.fn.room) l.begin (length l.fn.room) l.words l.rest l.at l.room

use Rattle.std.proofs.Common.{[], length, ◌*◌}
use Rattle.wire_text.proofs.EscapeLemmas.{FilledTo}
use Rattle.wire_text.proofs.quoted.escape_parts.Given as goal

abbrev pub invariant-parts : goal.invariant-parts
invariant-parts l = FilledTo [] 0 (length l.fn.room) l.source (16 * l.part) l.at l.room

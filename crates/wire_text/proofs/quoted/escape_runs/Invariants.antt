use Rattle.std.proofs.Common.{length, take, ◌≤◌, ◌-◌}
use Rattle.wire_text.proofs.EscapeLemmas.{FilledTo, RunIs}
use Rattle.wire_text.proofs.quoted.escape_runs.Given as goal

abbrev pub decreases-escapes : goal.decreases-escapes
decreases-escapes l = l.len - l.done

abbrev pub invariant-escapes : goal.invariant-escapes
invariant-escapes l =
    (l.done ≤ l.len) × RunIs l.source l.done l.run
    × FilledTo (take l.begin l.fn.room) l.begin (length l.fn.room) l.source l.done l.at l.room

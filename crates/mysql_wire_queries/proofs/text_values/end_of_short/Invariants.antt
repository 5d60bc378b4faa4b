use Rattle.std.proofs.Common.{◌+◌, ◌≤◌, length}
use Rattle.mysql_wire_queries.proofs.SkipLemmas.{PassesIn}
use Rattle.mysql_wire_queries.proofs.text_values.end_of_short.Given as goal

abbrev pub invariant-values : goal.invariant-values
invariant-values l =
    (l.at ≤ length l.bytes + 250) × (l.at ≤ length l.bytes → PassesIn l.bytes l.counter l.at)

use Rattle.std.proofs.Common.{◌≡◌}
use Rattle.mysql_wire_queries.specs.RowValues.{PassesTo}
use Rattle.mysql_wire_queries.proofs.text_values.TextValues.skip_each.Given as goal

abbrev pub invariant-values : goal.invariant-values
invariant-values l =
    PassesTo l.fn.self l.passed l.self.rest.0.now × (l.self.has_refused ≡ l.fn.self.has_refused)

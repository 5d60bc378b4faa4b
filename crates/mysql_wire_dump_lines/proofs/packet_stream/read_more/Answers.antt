use Rattle.std.proofs.Common.{ℕ, List, ◌++◌, ap, ◌∙◌}
use Rattle.mysql_wire_dump_lines.proofs.packet_stream.read_more.Goals as goal

pub returns-clause-came : goal.returns-clause-came
returns-clause-came g c =
    let read = c.in_ok-read_from.ensures.ok in
    (read.0, read.1, read.2 ∙ ap (λ (z : List ℕ). z ++ read.0) c.reserve.ensures.items, read.3)

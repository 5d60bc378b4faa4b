use Rattle.std.proofs.Common.{ap, sym, take, ◌∙◌}
use Rattle.mysql_wire_utility.proofs.laws.com_ping_is_written_back.Goals as goal

pub returns : goal.returns
returns c = λ input packet eaten is read.
    sym (ap (λ count. take count input) read.1 ∙ read.0)

use Rattle.wire_forms.specs.GroupsLemmas.{groups_bytes-shortest}
use Rattle.wire_laws.proofs.numbers.var_len_shortest.Goals as goal

pub returns : goal.returns
returns c = groups_bytes-shortest c.args.number.now.0 c.known.ensures

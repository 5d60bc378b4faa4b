use Rattle.wire_streams.proofs.VarlenLemmas as lemmas
use Rattle.wire_streams.proofs.misc.varlen.marked.Goals as goal

pub returns : goal.returns
returns c = lemmas.marked c.args.size c.args.value c.requires.low c.requires.high c.requires.holds

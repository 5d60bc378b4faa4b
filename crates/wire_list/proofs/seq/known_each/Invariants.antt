use Rattle.std.specs.List.{AllWithin}
use Rattle.wire_list.proofs.seq.known_each.Given as goal

abbrev pub invariant-loop-value : goal.invariant-loop-value
invariant-loop-value g l = AllWithin g.T.Wire.is_value l.values 0 l.value-index

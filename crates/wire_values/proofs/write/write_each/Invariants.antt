use Rattle.std.proofs.Common.{◌≡◌, ◌++◌, length, take}
use Rattle.std.specs.List.{flat_map}
use Rattle.wire_values.proofs.write.write_each.Given as goal

abbrev pub invariant-loop-value : goal.invariant-loop-value
invariant-loop-value g l = record {
  at : l.at ≡ length l.fn.buf.items;
  so_far : l.buf.items ≡ l.fn.buf.items ++ flat_map g.T.MySerialize.bytes
      (take l.value-index l.values);
}

use Rattle.std.proofs.Common.{◌≡◌, ◌-◌, ◌≤◌, ◌<◌}
use Rattle.std.specs.Vec.{vec_capacity, vec_len}
use Rattle.wire_buf.specs.Reading.{Parses}
use Rattle.wire_values.proofs.ReadLemmas.{SoFar}
use Rattle.wire_values.proofs.read.read_each.Given as goal

abbrev pub invariant-loop-i : goal.invariant-loop-i
invariant-loop-i g l = record {
  so_far : SoFar (vec_capacity l.fn.start < l.count)
      (Parses g.T.Size.ReadSize.SIZE (g.T.MyDeserialize.reads tt)) l.count l.fn.buf.0.now
      l.items.items (l.count - l.i) l.buf.0.now;
  len : vec_len l.items ≡ l.i;
  room : vec_capacity l.fn.start ≤ vec_capacity l.items;
}

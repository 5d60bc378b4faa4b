use Rattle.std.proofs.Common.{◌≡◌, ◌<◌, ◌^◌}
use Rattle.wire_forms.specs.GroupsLemmas.{SoFar}
use Rattle.wire_forms.proofs.varlen.VarLenIntRepr.deserialize.Given as goal

abbrev pub invariant-loop-place : goal.invariant-loop-place
invariant-loop-place l = record {
  so_far : SoFar l.fn.buf.0.now l._place l.number l.buf.0.now;
  weight : l.weight ≡ 128 ^ l._place;
  low : l.number < l.weight;
}

use Rattle.std.proofs.Common.{◌≡◌, ◌≤◌, ◌++◌, length, map, take, All}
use Rattle.mysql_wire.specs.Codec.{expected_id}
use Rattle.mysql_wire.specs.Framing.{stream, id_after}
use Rattle.mysql_wire_examples.proofs.values.send_values.Given as goal

abbrev pub invariant-loop-value : goal.invariant-loop-value
invariant-loop-value g l = record {
  sent : l.output.items ≡ l.fn.output.items
      ++ stream (expected_id l.fn.codec) (map g.T.MySerialize.bytes (take l.value-index l.values));
  next : expected_id l.codec
      ≡ id_after (expected_id l.fn.codec) (map g.T.MySerialize.bytes (take l.value-index l.values));
  fit : All (λ value. length (g.T.MySerialize.bytes value) ≤ l.fn.codec.max_allowed_packet)
      (take l.value-index l.values);
  known : All g.T.Wire.is_value (take l.value-index l.values);
  limit : l.codec.max_allowed_packet ≡ l.fn.codec.max_allowed_packet;
}

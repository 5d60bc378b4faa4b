use Rattle.std.proofs.Common.{◌≡◌, List, [], map, take, All}
use Rattle.std.specs.List.{AllZip}
use Rattle.mysql_wire.specs.Runs.{payloads}
use Rattle.mysql_wire_examples.proofs.values.read_values.Given as goal

abbrev pub invariant-loop-packet : goal.invariant-loop-packet
invariant-loop-packet g l =
    (values : List g.row.T.Denot) → payloads l.packets ≡ map g.T.MySerialize.bytes values
    → All g.T.Wire.is_value values → All (λ value. g.T.Wire.good tt value []) values
    → AllZip g.T.Wire.kept (take l.packet-index values) l.values.items

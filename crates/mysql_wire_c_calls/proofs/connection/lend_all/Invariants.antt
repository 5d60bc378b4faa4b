use Rattle.std.proofs.Common.{◌≡◌, ℕ, List, [], ◌-◌, ◌≤◌, length, take, drop, None}
use Rattle.wire_codec.specs.Codec.{codec_state, header_of}
use Rattle.wire_codec.specs.Laws.{empty_state}
use Rattle.mysql_wire_c_calls.specs.declared.side.Front.TheVariants.{Unfinished}
use Rattle.mysql_wire_c_calls.specs.Side.{side_of}
use Rattle.mysql_wire_c_calls.specs.Decoding.{LendsInTurn}
use Rattle.mysql_wire_c_calls.proofs.connection.lend_all.Given as goal

abbrev pub invariant-packets : goal.invariant-packets
invariant-packets l = record {
  bound : l.used ≤ length l.fn.bytes;
  room : l.count ≤ length l.spans;
  limit : l.codec.max_allowed_packet ≡ l.fn.limit;
  header : header_of l.codec ≡ None;
  so_far : (pending : List ℕ) → LendsInTurn l.fn.bytes 0 (take l.count l.spans) l.used
      (side_of Unfinished (empty_state l.fn.id l.fn.limit) pending) (side_of Unfinished (codec_state l.codec [] []) pending);
  rest : drop l.count l.spans ≡ drop l.count l.fn.spans;
}

abbrev pub decreases-packets : goal.decreases-packets
decreases-packets l = length l.spans - l.count

use Rattle.std.proofs.Common.{◌≡◌, ◌+◌, ◌*◌, ◌%◌, ◌++◌, length, drop}
use Rattle.wire_codec.specs.Framing.{max_payload, chunks}
use Rattle.wire_codec.proofs.codec.framing.packet_to_slice.Given as goal

abbrev pub invariant-loop : goal.invariant-loop
invariant-loop l = record {
  id : l.next ≡ (l.fn.seq_id + l.counter) % 256;
  written : l.room ≡ chunks l.counter l.fn.seq_id l.fn.packet ++ drop l.at l.fn.room;
  ended : length (chunks l.counter l.fn.seq_id l.fn.packet) ≡ l.at;
  left : l.rest ≡ drop (l.counter * max_payload) l.fn.packet;
  count : l.at + length l.rest ≡ length l.fn.packet + 4 * l.counter;
  size : length l.room ≡ length l.fn.room;
}

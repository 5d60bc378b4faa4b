use Rattle.std.proofs.Common.{◌≡◌, ◌≢◌, ◌≤◌, List, ℕ, ◌++◌, length, take, Err, OnOk}
use Rattle.mysql_wire.specs.Codec.{codec_state, Stands}
use Rattle.mysql_wire.specs.Runs.{joined, payloads, RunsTo}
use Rattle.mysql_wire.specs.PacketCodecError.TheVariants.{PacketsOutOfSync}
use Rattle.mysql_wire_examples.proofs.again.deliver_again.Given as goal

abbrev pub invariant-runs : goal.invariant-runs
invariant-runs g l = record {
  counted : l.count ≤ length l.fn.pieces;
  all : OnOk l.answer (l.count ≡ length l.fn.pieces);
  limited : l.codec.max_allowed_packet ≡ l.fn.codec.max_allowed_packet;
  stands : l.answer ≢ Err PacketsOutOfSync
      → Stands (codec_state l.codec l.src.items l.dst.items);
  so_far : (gained : List (List ℕ)) × (payloads l.out.items ≡ payloads l.fn.out.items ++ gained)
      × RunsTo (codec_state l.fn.codec l.fn.src.items l.fn.dst.items)
      (joined (take l.count l.fn.pieces)) l.answer gained
      (codec_state l.codec l.src.items l.dst.items);
}

use Rattle.std.proofs.Common.{◌≡◌, ℕ, List, Ok}
use Rattle.std.specs.Io.KnownBytes.{Consumes}
use Rattle.mysql_wire.specs.Codec.{codec_state}
use Rattle.mysql_wire.specs.Laws.{empty_state}
use Rattle.mysql_wire.specs.Runs.{payloads, RunsTo}
use Rattle.mysql_wire_examples.proofs.callers.read_packets.Given as goal

abbrev pub invariant-reads : goal.invariant-reads
invariant-reads g l = record {
  limited : l.codec.max_allowed_packet ≡ l.fn.limit;
  so_far : (read : List ℕ)
      × RunsTo (empty_state 0 l.fn.limit) read (Ok tt) (payloads l.packets.items) (codec_state l.codec l.src.items l.dst.items)
      × Consumes (g.R.Read.remaining l.fn.reader) (g.R.Read.remaining l.reader) read;
}

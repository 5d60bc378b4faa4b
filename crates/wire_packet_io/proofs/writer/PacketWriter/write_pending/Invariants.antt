use Rattle.std.proofs.Common.{◌≡◌, ℕ, List, ◌++◌, length}
use Rattle.std.specs.Io.KnownBytes.{Appends}
use Rattle.wire_packet_io.proofs.writer.PacketWriter.write_pending.Given as goal

abbrev pub invariant-writes : goal.invariant-writes
invariant-writes g l = (sent : List ℕ) × (l.fn.self.pending ≡ sent ++ l.self-inside.pending.items)
    × Appends (g.W.Write.contents l.fn.self.writer) (g.W.Write.contents l.self-inside.writer) sent

abbrev pub decreases-writes : goal.decreases-writes
decreases-writes g l = length l.self-inside.pending.items

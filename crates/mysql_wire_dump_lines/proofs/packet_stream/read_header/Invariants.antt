use Rattle.std.proofs.Common.{◌≡◌, ◌++◌, ℕ, List}
use Rattle.std.specs.Io.KnownBytes.{Consumes}
use Rattle.mysql_wire_dump_lines.proofs.packet_stream.read_header.Given as goal

abbrev pub invariant-reads : goal.invariant-reads
invariant-reads g l =
    (came : List ℕ) × (l.src.items ≡ l.fn.src.items ++ came) × Consumes (g.R.Read.remaining l.fn.input) (g.R.Read.remaining l.input) came

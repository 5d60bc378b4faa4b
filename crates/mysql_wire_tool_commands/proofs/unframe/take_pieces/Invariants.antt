use Rattle.std.proofs.Common.{◌≡◌, ◌-◌, ℕ, List, [], length, vec_len}
use Rattle.std.specs.Io.KnownBytes.{Appends, Consumes}
use Rattle.wire_codec.specs.Limited.{Limits}
use Rattle.wire_codec.specs.LimitedRuns.{Aligned, WaitsUnder}
use Rattle.mysql_wire_tool_commands.specs.Unframe.{Unframing, place_limits, run_state}
use Rattle.mysql_wire_tool_commands.proofs.ReadLemmas.{Asking, Waited}
use Rattle.mysql_wire_tool_commands.proofs.unframe.take_pieces.Given as goal

abbrev pub invariant-reads : goal.invariant-reads
invariant-reads g l = record {
  piece_len : vec_len l.piece ≡ l.fn.step;
  limit : l.run.limit ≡ l.fn.run.limit;
  later : l.run.later ≡ l.fn.run.later;
  aligned : Aligned (run_state l.run);
  so_far : (input : List ℕ) × (text : List ℕ)
      × ((limits : Limits) → ((place : ℕ) → limits place ≡ place_limits l.fn.run.limit l.fn.run.later l.fn.run.ahead place) → Unframing limits l.fn.run.ahead (run_state l.run) input text)
      × (l.run.ahead ≡ l.fn.run.ahead - length input)
      × Consumes (g.R.Read.remaining l.fn.input) (g.R.Read.remaining l.input) input
      × Appends (g.W.Write.contents l.fn.output) (g.W.Write.contents l.output) text
      × Asking l.fn.step l.fn.run.ahead (length input) (g.R.TracedRead.reads l.fn.input) (g.R.TracedRead.reads l.input)
      × ((limits : Limits) → ((place : ℕ) → limits place ≡ place_limits l.fn.run.limit l.fn.run.later l.fn.run.ahead place)
      → Waited (λ (front : List ℕ). WaitsUnder limits 0 front []) (length input) (g.R.TracedRead.reads l.fn.input) (g.R.TracedRead.reads l.input) (g.R.Read.remaining l.fn.input));
}

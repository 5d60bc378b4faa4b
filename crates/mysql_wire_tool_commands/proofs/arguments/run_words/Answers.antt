use Rattle.std.proofs.Common.{Some, ap, ◌∙◌, map, string_bytes, arith}
use Rattle.mysql_wire_tool_commands.specs.declared.arguments.Request.{Request}
use Rattle.mysql_wire_tool_commands.specs.declared.arguments.Request.TheVariants.{Frame, Chunk, Unframe, UnframeLimited, Reframe}
use Rattle.mysql_wire_tool_commands.proofs.ArgumentLemmas.{Runs, runs_request, runs_nothing}
use Rattle.mysql_wire_tool_commands.proofs.arguments.run_words.Given as given
use Rattle.mysql_wire_tool_commands.proofs.arguments.run_words.Goals as goal
use Rattle.std.proofs.KnownBytes.{Keeps-refl}

joined : (g : given.Over) (c : goal.Joined-of g)
    → Runs (map string_bytes c.args.words.now) c.match-of.status (g.R.Read.remaining c.args.input) (g.R.Read.remaining c.match-of.input.0) (g.W.Write.contents c.args.output)
    (g.W.Write.contents c.match-of.output)
joined g c = elim c.match-of.branch [
  | goal.in-None w ↦ rw (w.input-is, w.output-is) (runs_nothing _ _ _ _ _ _ _ c.of.ensures w.in-None.is w.status-is (Keeps-refl _) (Keeps-refl _))
  | goal.in-Some-Frame w ↦
      rw (w.status-is, w.input-is, w.output-is) (runs_request _ _ (Frame w.in-Some-Frame.id) _ _ _ _ _ c.of.ensures (w.in-Some-Frame.is ∙ ap (λ (z : Request). Some z) w.in-Some-Frame.field-0-is)
      (λ one. omega (arith, one, w.run_frame-status.ensures.cases)) w.run_frame-status.ensures)
  | goal.in-Some-Chunk w ↦
      rw (w.status-is, w.input-is, w.output-is) (runs_request _ _ (Chunk) _ _ _ _ _ c.of.ensures (w.in-Some-Chunk.is ∙ ap (λ (z : Request). Some z) w.in-Some-Chunk.field-0-is)
      (λ one. omega (arith, one, w.run_chunk-status.ensures.cases)) w.run_chunk-status.ensures)
  | goal.in-Some-Unframe w ↦
      rw (w.status-is, w.input-is, w.output-is) (runs_request _ _ (Unframe w.in-Some-Unframe.step w.in-Some-Unframe.limit) _ _ _ _ _ c.of.ensures (w.in-Some-Unframe.is ∙ ap (λ (z : Request). Some z) w.in-Some-Unframe.field-0-is)
      (λ one. omega (arith, one, w.run_unframe-status.ensures.ended.cases)) w.run_unframe-status.ensures.ended)
  | goal.in-Some-UnframeLimited w ↦
      rw (w.status-is, w.input-is, w.output-is) (runs_request _ _ (UnframeLimited w.in-Some-UnframeLimited.step w.in-Some-UnframeLimited.limit w.in-Some-UnframeLimited.later w.in-Some-UnframeLimited.at) _ _ _ _ _ c.of.ensures (w.in-Some-UnframeLimited.is ∙ ap (λ (z : Request). Some z) w.in-Some-UnframeLimited.field-0-is)
      (λ one. omega (arith, one, w.run_unframe_limited-status.ensures.ended.cases)) w.run_unframe_limited-status.ensures.ended)
]

reframed : (g : given.Over) (c : goal.After-run_reframe-status g)
    → Runs (map string_bytes c.args.words.now) c.run_reframe-status.result.0 (g.R.Read.remaining c.args.input) (g.R.Read.remaining c.run_reframe-status.result.1.0)
    (g.W.Write.contents c.args.output) (g.W.Write.contents c.run_reframe-status.result.2)
reframed g c =
    runs_request _ _ (Reframe c.in-Some-Reframe.limit) _ _ _ _ _ c.of.ensures (c.in-Some-Reframe.is ∙ ap (λ (z : Request). Some z) c.in-Some-Reframe.field-0-is)
    (λ one. omega (arith, one, c.run_reframe-status.ensures.cases)) c.run_reframe-status.ensures

pub returns-clause-ran : goal.returns-clause-ran
returns-clause-ran g c = (joined g c).0

pub returns-in-Some-Reframe-clause-ran : goal.returns-in-Some-Reframe-clause-ran
returns-in-Some-Reframe-clause-ran g c = (reframed g c).0

pub returns-clause-refused : goal.returns-clause-refused
returns-clause-refused g c = (joined g c).1

pub returns-in-Some-Reframe-clause-refused : goal.returns-in-Some-Reframe-clause-refused
returns-in-Some-Reframe-clause-refused g c = (reframed g c).1

pub returns-clause-untouched : goal.returns-clause-untouched
returns-clause-untouched g c = (joined g c).2

pub returns-in-Some-Reframe-clause-untouched : goal.returns-in-Some-Reframe-clause-untouched
returns-in-Some-Reframe-clause-untouched g c = (reframed g c).2

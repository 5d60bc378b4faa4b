use Rattle.std.proofs.Common.{◌++◌, ◌∙◌, List, ℕ, ap, append_assoc, arith}
use Rattle.std.proofs.KnownBytes.{Consumes-trans}
use Rattle.mysql_wire_dump_lines.proofs.packet_stream.read_header.Goals as goal

pub reads-preserved : goal.reads-preserved
reads-preserved g c =
    let before = c.reads.invariant in
    let came = c.in_ok-read_more.ensures.came in (
      before.0 ++ came.0,
      came.2 ∙ ap (λ (z : List ℕ). z ++ came.0) before.1 ∙ append_assoc c.args.src.now.items before.0 came.0,
      Consumes-trans (g.R.Read.remaining c.args.input.now) (g.R.Read.remaining c.reads.input) (g.R.Read.remaining c.read_more.new.input) before.0 came.0 before.2 came.3,
    )

pub returns-then-len-ge4-clause-end : goal.returns-then-len-ge4-clause-end
returns-then-len-ge4-clause-end g c short = absurd (omega (arith, short, c.if-len-ge4.true, c.len.ensures))

pub returns-then-branch-eq0-clause-came : goal.returns-then-branch-eq0-clause-came
returns-then-branch-eq0-clause-came g c =
    let before = c.reads.invariant in
    let came = c.in_ok-read_more.ensures.came in (
      before.0 ++ came.0,
      came.2 ∙ ap (λ (z : List ℕ). z ++ came.0) before.1 ∙ append_assoc c.args.src.now.items before.0 came.0,
      Consumes-trans (g.R.Read.remaining c.args.input.now) (g.R.Read.remaining c.reads.input) (g.R.Read.remaining c.read_more.new.input) before.0 came.0 before.2 came.3,
    )

pub returns-then-branch-eq0-clause-end : goal.returns-then-branch-eq0-clause-end
returns-then-branch-eq0-clause-end g c short = c.in_ok-read_more.ensures.end c.if-branch-eq0.true

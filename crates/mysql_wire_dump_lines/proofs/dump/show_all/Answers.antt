use Rattle.std.proofs.Common.{◌∙◌, true, false}
use Rattle.mysql_wire_dump_lines.proofs.DumpLemmas.{goes_on}
use Rattle.mysql_wire_dump_lines.proofs.dump.show_all.Goals as goal

pub returns-then-not-branch-clause-goes : goal.returns-then-not-branch-clause-goes
returns-then-not-branch-clause-goes g c =
    goes_on false c.args.dump.now c.packets.dump c.show_next.new.dump (g.R.Read.remaining c.args.client.now) (g.R.Read.remaining c.packets.client) (g.R.Read.remaining c.show_next.new.client)
    (g.S.Read.remaining c.args.server.now) (g.S.Read.remaining c.packets.server) (g.S.Read.remaining c.show_next.new.server) (g.W.Write.contents c.args.output.now)
    (g.W.Write.contents c.packets.output) (g.W.Write.contents c.show_next.new.output) c.packets.invariant.goes (rw c.if-not-branch.true at c.in_ok-show_next.ensures.goes)

pub packets-preserved : goal.packets-preserved
packets-preserved g c = record {
  options = c.in_ok-show_next.ensures.options ∙ c.packets.invariant.options;
  goes = goes_on true c.args.dump.now c.packets.dump c.show_next.new.dump (g.R.Read.remaining c.args.client.now) (g.R.Read.remaining c.packets.client) (g.R.Read.remaining c.show_next.new.client)
      (g.S.Read.remaining c.args.server.now) (g.S.Read.remaining c.packets.server) (g.S.Read.remaining c.show_next.new.server) (g.W.Write.contents c.args.output.now)
      (g.W.Write.contents c.packets.output) (g.W.Write.contents c.show_next.new.output) c.packets.invariant.goes (rw c.if-not-branch.false at c.in_ok-show_next.ensures.goes);
}

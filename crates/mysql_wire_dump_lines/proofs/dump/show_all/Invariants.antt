use Rattle.std.proofs.Common.{◌≡◌, true}
use Rattle.mysql_wire_dump_lines.specs.Dumping.{Goes}
use Rattle.mysql_wire_dump_lines.proofs.dump.show_all.Given as goal

abbrev pub invariant-packets : goal.invariant-packets
invariant-packets g l = record {
  options : l.dump.lines.options ≡ l.fn.dump.lines.options;
  goes : Goes l.fn.dump l.dump (g.R.Read.remaining l.fn.client) (g.R.Read.remaining l.client) (g.S.Read.remaining l.fn.server)
      (g.S.Read.remaining l.server) (g.W.Write.contents l.fn.output) (g.W.Write.contents l.output) true;
}

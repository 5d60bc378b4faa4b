use Rattle.std.proofs.Common.{arith, ap, Ok, take}
use Rattle.std.specs.Fmt.{decimal}
use Rattle.wire_text.specs.Fields.{Words}
use Rattle.mysql_wire_dump_lines.proofs.ShortLemmas.{short_text}
use Rattle.mysql_wire_dump_lines.proofs.show.values.put_short.Goals as goal

pub returns-clause-put : goal.returns-clause-put
returns-clause-put g c is =
    let put = c.in_ok-put_short_in.ensures in
    let came = ap Ok c.if-not-branch.false in (
      (decimal c.args.place, Words (take c.in-Some.len.now c.in-Some.behind.now)),
      (
        short_text c.args.place c.in-Some.len.now c.args.rest.now.0.now c.in-Some.behind.now c.in-Some.ensures.cases.0
            (omega (arith, c.if-len-gt-LONGEST.false)) (put.within came),
        put.put came,
      ),
    )

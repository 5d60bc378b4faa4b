use Rattle.std.proofs.Common.{◌∙◌, ap, arith, sym, take}
use Rattle.std.proofs.lemmas.List.{take-take}
use Rattle.wire_text.proofs.StandLemmas.{run_passes}
use Rattle.wire_text.specs.Fields.{all_ascii, in_ascii}
use Rattle.wire_text.proofs.members.push_other_at.Goals as goal

pub returns-then-is_wide_in_front : goal.returns-then-is_wide_in_front
returns-then-is_wide_in_front g c =
    rw (← take-take c.args.len 32 c.args.bytes.now c.requires.within) c.push_wide_at.ensures

pub push_escaped_at-requires-clause-ascii : goal.push_escaped_at-requires-clause-ascii
push_escaped_at-requires-clause-ascii g c =
    ap all_ascii (sym (take-take c.args.len 32 c.in-Some.source.now c.requires.within))
    ∙ run_passes in_ascii c.args.len (take 32 c.in-Some.source.now) (omega (arith, c.ascii_in_front.ensures, c.if-ascii_in_front-len.true))

pub returns-then-ascii_in_front-len : goal.returns-then-ascii_in_front-len
returns-then-ascii_in_front-len g c =
    let front = ap (take c.args.len) c.in-Some.ensures.cases.0 ∙ take-take c.args.len 48 c.args.bytes.now (omega (arith, c.requires.within)) in
    rw (← front) c.push_escaped_at.ensures

use Rattle.std.proofs.Common.{arith, take}
use Rattle.std.proofs.lemmas.List.{take-take}
use Rattle.std.specs.List.{prefix_len}
use Rattle.wire_text.specs.Fields.{plain}
use Rattle.wire_text.proofs.PlainLemmas.{before_plain, plain_less}
use Rattle.wire_text.proofs.members.push_front_at.Goals as goal

pub push_short_at-requires-clause-plain : goal.push_short_at-requires-clause-plain
push_short_at-requires-clause-plain g c =
    let block = take 32 c.args.bytes.now in
    plain_less c.args.len (prefix_len plain block) block (omega (arith, c.if-plain_in_front-len.false, c.plain_in_front.ensures.run)) (before_plain block)

pub returns : goal.returns
returns g c = rw (← take-take c.args.len 32 c.args.bytes.now c.requires.within) c.push_short_at.ensures

pub returns-then-plain_in_front-len : goal.returns-then-plain_in_front-len
returns-then-plain_in_front-len g c = c.push_other_at.ensures

pub push_other_at-requires-clause-long : goal.push_other_at-requires-clause-long
push_other_at-requires-clause-long g c = c.requires.long

pub push_other_at-requires-clause-within : goal.push_other_at-requires-clause-within
push_other_at-requires-clause-within g c = c.requires.within

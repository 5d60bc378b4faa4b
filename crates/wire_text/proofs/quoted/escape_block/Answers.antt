use Rattle.std.proofs.Common.{ap, arith, take, ◌∙◌}
use Rattle.std.proofs.lemmas.List.{length-take-le, take-take}
use Rattle.json.specs.Print.{escape}
use Rattle.wire_text.proofs.quoted.escape_block.Goals as goal

pub returns-in-Some : goal.returns-in-Some
returns-in-Some c = (
  c.escape_parts.ensures.0,
  c.escape_parts.ensures.1 ∙ ap escape (ap (take 64) c.in-Some.ensures.cases.0 ∙ take-take 64 80 c.args.bytes.now (omega arith)),
  c.escape_parts.ensures.2,
)

pub returns-in-None : goal.returns-in-None
returns-in-None c =
    let long = length-take-le 64 c.args.bytes.now c.requires.long in (
      omega (arith, long, c.escape_few.ensures.0, c.escape_few.ensures.2, c.requires.room),
      c.escape_few.ensures.1,
      c.escape_few.ensures.2,
    )

pub escape_few-requires-clause-short : goal.escape_few-requires-clause-short
escape_few-requires-clause-short c = let long = length-take-le 64 c.args.bytes.now c.requires.long in omega (arith, long)

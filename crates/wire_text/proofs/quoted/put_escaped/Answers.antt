use Rattle.std.proofs.Common.{List, ap, arith, ℕ, ◌++◌, ◌∙◌, take}
use Rattle.std.proofs.lemmas.List.{length-set, take_more_set}
use Rattle.wire_text.proofs.EscapeLemmas.{block_long, block_put, no_letter}
use Rattle.wire_text.proofs.quoted.put_escaped.Goals as goal

pub returns-then-escape_letter_of-eq0 : goal.returns-then-escape_letter_of-eq0
returns-then-escape_letter_of-eq0 c = (
  omega arith,
  take_more_set c.args.room.now c.args.at c.args.byte (omega (arith, c.requires))
      ∙ ap (λ (z : List ℕ). take c.args.at c.args.room.now ++ z)
      (no_letter c.args.byte c.escape_letter_of.result c.ranges.byte.fits c.escape_letter_of.ensures c.if-escape_letter_of-eq0.true),
  length-set c.args.room.now c.args.at c.args.byte,
)

pub returns : goal.returns
returns c =
    let block = c.escape_of-len.ensures in (
      omega (arith, block.1),
      block_put c.args.at c.escape_of-len.result.1 c.args.room.now c.escape_of-len.result.0 c.put_block.new.room _ (omega (arith, c.requires, block.0)) (omega (arith, block.0, block.1)) block.2 c.put_block.ensures,
      block_long c.args.at c.args.room.now c.escape_of-len.result.0 c.put_block.new.room (omega (arith, c.requires, block.0)) c.put_block.ensures,
    )

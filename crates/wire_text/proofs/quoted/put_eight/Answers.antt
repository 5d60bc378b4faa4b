use Rattle.std.proofs.Common.{arith, ◌+◌, ap}
use Rattle.std.specs.Int.RustNames.{count_ones}
use Rattle.wire_text.proofs.BackslashLemmas.{count_within}
use Rattle.wire_text.proofs.EscapeLemmas.{block_put}
use Rattle.wire_text.proofs.quoted.put_eight.Goals as goal

pub returns-clause-put : goal.returns-clause-put
returns-clause-put c = λ set eight is.
    block_put c.args.at (8 + count_ones c.args.escapes) c.args.room.now c.with_backslashes.result c.put_block.new.room _ (omega (arith, c.requires.room))
    (omega (arith, eight, count_within set, ap count_ones is)) (c.with_backslashes.ensures set eight is) c.put_block.ensures

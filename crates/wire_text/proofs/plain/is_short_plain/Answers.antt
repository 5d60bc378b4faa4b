use Rattle.std.proofs.Common.{arith, ◌-◌, ◌∙◌, length}
use Rattle.wire_text.proofs.PlainLemmas.{block_plain, filled_plain}
use Rattle.wire_text.proofs.plain.is_short_plain.Goals as goal

pub returns-then-len-ge8 : goal.returns-then-len-ge8
returns-then-len-ge8 c =
    c.is_plain_block.ensures ∙ block_plain 8 (length c.args.words.now - 8) c.args.words.now _ (omega (arith, c.requires)) (omega (arith, c.if-len-ge8.true)) c.fill.ensures

pub returns-then-len-ge4 : goal.returns-then-len-ge4
returns-then-len-ge4 c =
    c.is_plain_block-then-len-ge4.ensures ∙ filled_plain _ _ c.fill-then-len-ge4-2.ensures
    ∙ block_plain 4 (length c.args.words.now - 4) c.args.words.now _ (omega (arith, c.if-len-ge8.false)) (omega (arith, c.if-len-ge4.true)) c.fill-then-len-ge4.ensures

use Rattle.std.proofs.Common.{arith, ap, ◌∙◌, take}
use Rattle.std.proofs.lemmas.List.{take_all, length-take}
use Rattle.std.specs.List.{position_or_len}
use Rattle.wire_buf.specs.NullText.{is_zero}
use Rattle.wire_buf.proofs.NullTextLemmas.{zero_of_lanes}
use Rattle.wire_buf.proofs.zero.before_zero.Goals as goal

pub returns-else-zeros-eq0 : goal.returns-else-zeros-eq0
returns-else-zeros-eq0 c =
    zero_of_lanes (take 16 c.args.block.now) (omega (arith, c.requires, length-take 16 c.args.block.now)) c.if-zeros-eq0.false
    ∙ ap (position_or_len is_zero) (take_all 16 c.args.block.now (omega (arith, c.requires)))

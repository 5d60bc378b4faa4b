use Rattle.std.proofs.Common.{arith, ap, ◌∙◌}
use Rattle.std.specs.List.{position_or_len}
use Rattle.wire_buf.specs.NullText.{is_zero}
use Rattle.wire_buf.proofs.NullTextLemmas.{zero_in_front}
use Rattle.wire_buf.proofs.zero.first_zero.Goals as goal

pub returns-then-place-lt-BLOCK : goal.returns-then-place-lt-BLOCK
returns-then-place-lt-BLOCK c =
    zero_in_front c.args.bytes.now 16 c.before_zero-place.result (omega (arith, c.in-Some.ensures.cases.2)) (c.before_zero-place.ensures ∙ ap (position_or_len is_zero) c.in-Some.ensures.cases.0) c.if-place-lt-BLOCK.true

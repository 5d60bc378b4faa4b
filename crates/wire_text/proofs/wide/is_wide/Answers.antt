use Rattle.std.proofs.Common.{arith, length, refl, take, ◌-◌}
use Rattle.std.proofs.lemmas.List.{take_rest}
use Rattle.wire_text.proofs.WideLemmas.{wide_ends, wide_on}
use Rattle.wire_text.proofs.wide.is_wide.Goals as goal

pub rounds-preserved : goal.rounds-preserved
rounds-preserved c =
    wide_on c.args.words.now c.rounds.rest.now (take 16 c.rounds.rest.now) _ c.rounds.invariant (omega (arith, c.rounds-test.true)) refl
    (take_rest c.rounds.rest.now 15) (c.is_wide_front.ensures c.if-not-is_wide_front.false)

pub returns : goal.returns
returns c = λ ends.
    wide_ends c.args.words.now c.rounds.rest.now c.rounds.invariant (omega (arith, c.rounds-test.false)) (omega (arith, c.if-words-lt16.false)) c.if-words-ne0.false
    _ (take_rest c.args.words.now (length c.args.words.now - 16)) (c.is_wide_end.ensures ends)

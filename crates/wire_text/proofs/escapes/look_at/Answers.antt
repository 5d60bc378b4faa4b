use Rattle.std.proofs.Common.{arith, length, refl, ◌-◌}
use Rattle.wire_text.proofs.StandLemmas.{look_ends, look_on}
use Rattle.wire_text.proofs.escapes.look_at.Goals as goal

pub rounds-preserved : goal.rounds-preserved
rounds-preserved c =
    let split = c.in-Some.ensures.cases in
    look_on 16 c.args.words.now c.rounds.rest.now c.in-Some.block.now c.in-Some.after.now c.rounds.is_ascii c.rounds.stands _ _
    c.rounds.invariant split.0 split.1 c.look_at_block-block_is_ascii.ensures.0 c.look_at_block-block_is_ascii.ensures.1

pub returns : goal.returns
returns c =
    look_ends (length c.args.words.now - 16) c.args.words.now c.rounds.rest.now _ c.rounds.is_ascii c.rounds.stands _ _
    c.rounds.invariant (omega (arith, c.if-words-lt16.false, c.in_default.ensures.cases)) refl c.look_at_block-last_is_ascii.ensures.0 c.look_at_block-last_is_ascii.ensures.1

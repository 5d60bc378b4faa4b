use Rattle.std.proofs.Common.{arith, ◌-◌, ◌∙◌, length, sym}
use Rattle.wire_text.proofs.FieldLemmas.{plain_fails}
use Rattle.wire_text.proofs.PlainLemmas.{last_plain, plain_begins, plain_on, same_plain}
use Rattle.wire_text.proofs.plain.is_plain.Goals as goal

pub returns-then-not-is_plain_block : goal.returns-then-not-is_plain_block
returns-then-not-is_plain_block c =
    let split = c.in-Some.ensures.cases in
    plain_fails c.args.words.now c.rounds.rest.now c.in-Some.block.now c.in-Some.after.now
    (same_plain c.args.words.now c.rounds.rest.now c.rounds.invariant) split.0 split.1 (sym c.if-not-is_plain_block.ensures)

pub rounds-init : goal.rounds-init
rounds-init c = plain_begins c.args.words.now

pub rounds-preserved : goal.rounds-preserved
rounds-preserved c =
    let split = c.in-Some.ensures.cases in
    plain_on 16 c.args.words.now c.rounds.rest.now c.in-Some.block.now c.in-Some.after.now
    c.rounds.invariant split.0 split.1 (sym c.if-not-is_plain_block.ensures)

pub returns : goal.returns
returns c =
    c.is_plain_block-2.ensures
    ∙ last_plain (length c.args.words.now - 16) c.args.words.now c.rounds.rest.now c.rounds.invariant (omega (arith, c.if-words-lt16.false, c.in_default.ensures.cases))

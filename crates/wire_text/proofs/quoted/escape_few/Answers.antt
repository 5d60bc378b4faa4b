use Rattle.std.proofs.Common.{ap, arith, length, refl, take, ◌∙◌}
use Rattle.std.proofs.lemmas.List.{take-take}
use Rattle.wire_text.proofs.EscapeLemmas.{before_ends, before_on}
use Rattle.wire_text.proofs.quoted.escape_few.Goals as goal

pub parts-preserved : goal.parts-preserved
parts-preserved c =
    let split = c.in-Some.ensures.cases in
    let front = take c.args.begin c.args.room.now in
    before_on 16 front c.args.words.now c.parts.rest.now (take 16 c.in-Some.source.now) _ c.args.begin (length c.args.room.now) c.parts.at c.escape_part-at.result c.parts.room c.escape_part-at.new.room
    c.parts.invariant (omega (arith, split.2)) (ap (take 16) split.0 ∙ take-take 16 32 c.parts.rest.now (omega arith)) refl c.escape_part-at.ensures.0 c.escape_part-at.ensures.1 c.escape_part-at.ensures.2

pub returns : goal.returns
returns c =
    before_ends (take c.args.begin c.args.room.now) c.args.words.now c.parts.rest.now c.args.begin (length c.args.room.now) c.parts.at c.escape_last.result c.parts.room c.escape_last.new.room
    c.parts.invariant c.escape_last.ensures.0 c.escape_last.ensures.1 c.escape_last.ensures.2

use Rattle.std.proofs.Common.{arith, ap, ◌∙◌, ◌%◌, ℕ, List, map, take}
use Rattle.std.proofs.lemmas.List.{take_all, length-take}
use Rattle.wire_text.specs.Fields.{all_ascii}
use Rattle.wire_text.proofs.PlainLemmas.{low_seven, seven_ascii, seven_front}
use Rattle.wire_text.proofs.plain.below_128.Goals as goal

pub returns-clause-front : goal.returns-clause-front
returns-clause-front c len plain =
    let block = c.args.block.now in
    let seven = low_seven (take 32 block) (omega (arith, c.requires, length-take 32 block))
    ∙ ap (λ (z : List ℕ). map (λ byte. byte % 128) z) (take_all 32 block (omega (arith, c.requires))) in
    ap (take len) seven ∙ seven_front len block plain

pub returns-clause-ascii : goal.returns-clause-ascii
returns-clause-ascii c =
    let block = c.args.block.now in
    ap all_ascii (low_seven (take 32 block) (omega (arith, c.requires, length-take 32 block))) ∙ seven_ascii (take 32 block)

use Rattle.std.proofs.Common.{arith, ap, ap₂, ◌∙◌, ◌*◌, ◌%◌, bit_or, drop, take, ℕ}
use Rattle.std.proofs.lemmas.List.{length-drop, length-take, take-append-drop}
use Rattle.wire_text.specs.Plain.{others_mask}
use Rattle.wire_text.proofs.PlainLemmas.{both_others, to_end}
use Rattle.wire_text.proofs.plain.others_of_both.Goals as goal

pub returns : goal.returns
returns c =
    let block = c.args.block.now in
    ap₂ (λ (a b : ℕ). bit_or a (b * 65536 % 18446744073709551616)) c.others_of.ensures (c.others_of-2.ensures ∙ ap others_mask (to_end 16 block))
    ∙ both_others (take 16 block) (drop 16 block) (omega (arith, c.requires, length-take 16 block)) (omega (arith, c.requires, length-drop 16 block))
    ∙ ap others_mask (take-append-drop 16 block)

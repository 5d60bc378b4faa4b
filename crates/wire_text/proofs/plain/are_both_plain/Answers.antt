use Rattle.std.proofs.Common.{ap, sym, ap₂, drop, take, Bool, ◌∙◌}
use Rattle.std.proofs.lemmas.List.{take-append-drop}
use Rattle.std.proofs.lemmas.List.Folds.{list_all-append}
use Rattle.std.specs.Prelude.{◌&&◌}
use Rattle.wire_text.specs.Fields.{all_plain, plain}
use Rattle.wire_text.proofs.PlainLemmas.{to_end}
use Rattle.wire_text.proofs.plain.are_both_plain.Goals as goal

pub returns : goal.returns
returns c =
    let block = c.args.block.now in
    ap₂ (λ (a b : Bool). a && b) c.is_plain_block.ensures (c.is_plain_block-2.ensures ∙ ap all_plain (to_end 16 block))
    ∙ sym (list_all-append plain (take 16 block) (drop 16 block)) ∙ ap all_plain (take-append-drop 16 block)

use Rattle.std.proofs.Common.{ap, sym, ap₂, drop, nat_eq, take, Bool, ◌∙◌, ℕ}
use Rattle.std.proofs.lemmas.List.{take-append-drop}
use Rattle.std.proofs.lemmas.List.Folds.{list_all-append}
use Rattle.std.specs.Prelude.{◌&&◌}
use Rattle.wire_text.specs.Fields.{all_ascii, in_ascii}
use Rattle.wire_text.proofs.PlainLemmas.{to_end}
use Rattle.wire_text.proofs.StandLemmas.{no_wide_bit}
use Rattle.wire_text.proofs.escapes.are_both_ascii.Goals as goal

pub returns : goal.returns
returns c =
    let block = c.args.block.now in
    ap₂ (λ (a b : Bool). a && b) (ap (λ (n : ℕ). nat_eq n 0) c.wide_bits.ensures ∙ no_wide_bit (take 16 block))
    (ap (λ (n : ℕ). nat_eq n 0) c.wide_bits-2.ensures ∙ no_wide_bit _ ∙ ap all_ascii (to_end 16 block))
    ∙ sym (list_all-append in_ascii (take 16 block) (drop 16 block)) ∙ ap all_ascii (take-append-drop 16 block)

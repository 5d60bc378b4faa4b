use Rattle.std.proofs.Common.{◌≤◌, ℕ, ap, arith, ◌∙◌, subst, sym}
use Rattle.std.proofs.lemmas.List.Sums.{prefix_len-le-length}
use lib.Count.{count_trailing_zeros}
use Rattle.wire_text.specs.Fields.{plain}
use Rattle.wire_text.proofs.PlainLemmas.{run_of_all, run_to_other}
use Rattle.wire_text.proofs.plain.plain_in_front.Goals as goal

pub returns-then-others-eq0-clause-run : goal.returns-then-others-eq0-clause-run
returns-then-others-eq0-clause-run c =
    sym c.requires ∙ run_of_all c.args.block.now (sym c.others_of_both-others.ensures ∙ c.if-others-eq0.true)

pub returns-else-others-eq0-clause-run : goal.returns-else-others-eq0-clause-run
returns-else-others-eq0-clause-run c =
    ap (count_trailing_zeros 64) c.others_of_both-others.ensures
    ∙ run_to_other c.args.block.now (omega (arith, c.requires)) (λ none. c.if-others-eq0.false (c.others_of_both-others.ensures ∙ none))

pub returns-else-others-eq0-clause-within : goal.returns-else-others-eq0-clause-within
returns-else-others-eq0-clause-within c =
    subst (λ (n : ℕ). n ≤ 32)
    (sym (ap (count_trailing_zeros 64) c.others_of_both-others.ensures
    ∙ run_to_other c.args.block.now (omega (arith, c.requires)) (λ none. c.if-others-eq0.false (c.others_of_both-others.ensures ∙ none))))
    (omega (arith, c.requires, prefix_len-le-length plain c.args.block.now))

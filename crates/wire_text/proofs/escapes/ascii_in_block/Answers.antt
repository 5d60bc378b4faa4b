use Rattle.std.proofs.Common.{◌≤◌, ℕ, ap, arith, ◌∙◌, subst, sym}
use Rattle.std.proofs.lemmas.List.Sums.{prefix_len-le-length}
use lib.Count.{count_trailing_zeros}
use Rattle.wire_text.specs.Fields.{in_ascii}
use Rattle.wire_text.proofs.StandLemmas.{all_in_ascii, ascii_to_other}
use Rattle.wire_text.proofs.escapes.ascii_in_block.Goals as goal

pub returns-then-wide-eq0-clause-run : goal.returns-then-wide-eq0-clause-run
returns-then-wide-eq0-clause-run c = all_in_ascii c.args.block.now c.requires (sym c.wide_bits-wide.ensures ∙ c.if-wide-eq0.true)

pub returns-else-wide-eq0-clause-run : goal.returns-else-wide-eq0-clause-run
returns-else-wide-eq0-clause-run c =
    ap (count_trailing_zeros 64) c.wide_bits-wide.ensures
    ∙ ascii_to_other c.args.block.now c.requires (λ none. c.if-wide-eq0.false (c.wide_bits-wide.ensures ∙ none))

pub returns-else-wide-eq0-clause-within : goal.returns-else-wide-eq0-clause-within
returns-else-wide-eq0-clause-within c =
    subst (λ (n : ℕ). n ≤ 16)
    (sym (ap (count_trailing_zeros 64) c.wide_bits-wide.ensures ∙ ascii_to_other c.args.block.now c.requires (λ none. c.if-wide-eq0.false (c.wide_bits-wide.ensures ∙ none))))
    (omega (arith, c.requires, prefix_len-le-length in_ascii c.args.block.now))

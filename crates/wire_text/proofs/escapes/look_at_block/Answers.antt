use Rattle.std.proofs.Common.{ap, nat_eq, ℕ, ◌∙◌}
use Rattle.wire_text.proofs.StandLemmas.{no_escape_bit, no_wide_bit}
use Rattle.wire_text.proofs.escapes.look_at_block.Goals as goal

pub returns : goal.returns
returns c = (
  ap (λ (n : ℕ). nat_eq n 0) c.wide_bits.ensures ∙ no_wide_bit c.args.block.now,
  ap (λ (n : ℕ). nat_eq n 0) c.escape_bits.ensures ∙ no_escape_bit c.args.block.now,
)

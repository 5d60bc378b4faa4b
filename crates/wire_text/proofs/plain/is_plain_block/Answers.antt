use Rattle.std.proofs.Common.{ap, ◌∙◌, ℕ, nat_eq}
use Rattle.wire_text.proofs.PlainLemmas.{none_other}
use Rattle.wire_text.proofs.plain.is_plain_block.Goals as goal

pub returns : goal.returns
returns c = ap (λ (n : ℕ). nat_eq n 0) c.others_of.ensures ∙ none_other c.args.block.now

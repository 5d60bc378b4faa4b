use Rattle.std.proofs.Common.{arith, ap, ◌∙◌}
use Rattle.std.proofs.lemmas.List.{take_all}
use Rattle.wire_text.specs.Plain.{others_mask}
use Rattle.wire_text.proofs.plain.others_of.Goals as goal

pub returns : goal.returns
returns c = c.others_in.ensures ∙ ap others_mask (take_all 16 c.args.block.now (omega (arith, c.requires)))

use Rattle.std.proofs.Common.{List, ℕ, arith, ap, map, ◌∙◌, take}
use Rattle.std.proofs.lemmas.List.{length-take, take_all}
use Rattle.std.specs.Simd.Lanes.{mask_l}
use Rattle.wire_text.specs.Fields.{needs_escape}
use Rattle.wire_text.proofs.StandLemmas.{escape_mask}
use Rattle.wire_text.proofs.escapes.escape_bits.Goals as goal

pub returns : goal.returns
returns c =
    escape_mask (take 16 c.args.block.now) (omega (arith, c.requires, length-take 16 c.args.block.now))
    ∙ ap (λ (z : List ℕ). mask_l (map needs_escape z)) (take_all 16 c.args.block.now (omega (arith, c.requires)))

use Rattle.std.proofs.Common.{List, ℕ, arith, ap, map, ◌∙◌, take}
use Rattle.std.proofs.lemmas.List.{length-take, take_all}
use Rattle.std.specs.Simd.Lanes.{mask_l}
use Rattle.wire_text.specs.Fields.{goes_on}
use Rattle.wire_text.proofs.WideLemmas.{going_mask}
use Rattle.wire_text.proofs.wide.going_bits.Goals as goal

pub returns : goal.returns
returns c =
    going_mask (take 16 c.args.block.now) (omega (arith, c.requires, length-take 16 c.args.block.now))
    ∙ ap (λ (z : List ℕ). mask_l (map goes_on z)) (take_all 16 c.args.block.now (omega (arith, c.requires)))

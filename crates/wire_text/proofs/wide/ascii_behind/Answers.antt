use Rattle.std.proofs.Common.{arith, ap, ap₂, refl, ◌∙◌, ◌-◌, List, ℕ, drop, take, replicate, bit_and}
use Rattle.std.proofs.lemmas.List.{take_all}
use lib.Lanes.{zip2}
use Rattle.wire_text.specs.Fields.{all_ascii}
use Rattle.wire_text.proofs.WideLemmas.{front_kept, row_is, seven_all, seven_behind}
use Rattle.wire_text.proofs.wide.ascii_behind.Goals as goal

pub returns-clause-front : goal.returns-clause-front
returns-clause-front c =
    let block = c.args.block.now in
    let len = c.args.len in
    ap₂ (λ (a b : List ℕ). take len (zip2 bit_and a b)) (take_all 32 block (omega (arith, c.requires.long))) (row_is _ len refl c.requires.within)
    ∙ front_kept len block (replicate (32 - len) 127) c.type_inv.block

pub returns-clause-behind : goal.returns-clause-behind
returns-clause-behind c =
    let block = c.args.block.now in
    let len = c.args.len in
    ap₂ (λ (a b : List ℕ). all_ascii (drop len (zip2 bit_and a b))) (take_all 32 block (omega (arith, c.requires.long))) (row_is _ len refl c.requires.within)
    ∙ ap all_ascii (seven_behind len block (replicate (32 - len) 127)) ∙ seven_all (32 - len) (drop len block)

use Rattle.std.proofs.Common.{[], arith, length, subst, drop, ◌*◌, ◌+◌, ◌-◌, ℕ}
use Rattle.std.proofs.lemmas.List.{take-take}
use Rattle.wire_text.proofs.EscapeLemmas.{FilledTo, part_put}
use Rattle.wire_text.proofs.quoted.escape_parts.Goals as goal

pub parts-preserved : goal.parts-preserved
parts-preserved c =
    let size = length c.args.room.now in
    let part = take-take 16 (16 * c.parts.part + 32 - 16 * c.parts.part) (drop (16 * c.parts.part) c.args.source.now) (omega arith) in
    subst (λ (n : ℕ). FilledTo [] 0 size c.args.source.now n c.escape_part-at.result c.escape_part-at.new.room) (omega arith)
    (part_put [] c.args.source.now 0 size (16 * c.parts.part) c.parts.at 16 c.escape_part-at.result c.parts.room _ c.escape_part-at.new.room c.parts.invariant
    part c.escape_part-at.ensures.0 c.escape_part-at.ensures.1 c.escape_part-at.ensures.2)

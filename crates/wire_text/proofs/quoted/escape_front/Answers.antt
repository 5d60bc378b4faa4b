use Rattle.std.proofs.Common.{ap, arith, length, refl, sym, take, drop, ◌∙◌, ◌-◌, ◌++◌, ℕ, subst}
use Rattle.json.specs.Print.{escape}
use Rattle.std.proofs.lemmas.List.{length-take-le, take-take}
use Rattle.wire_text.proofs.EscapeLemmas.{FilledTo, filled_begins, part_put}
use Rattle.wire_text.proofs.quoted.escape_front.Goals as goal

pub slice_bounds-front-end : goal.slice_bounds-front-end
slice_bounds-front-end c = sym (length-take-le 32 c.args.source.now (omega (arith, c.requires.long)))

pub escape_part-requires-clause-long : goal.escape_part-requires-clause-long
escape_part-requires-clause-long c = length-take-le 32 c.args.source.now (omega (arith, c.requires.long))

pub escape_part-at-requires-clause-long : goal.escape_part-at-requires-clause-long
escape_part-at-requires-clause-long c = length-take-le 32 c.args.source.now (omega (arith, c.requires.long))

pub returns-then-len-le16 : goal.returns-then-len-le16
returns-then-len-le16 c = (
  c.escape_part.ensures.0,
  c.escape_part.ensures.1 ∙ ap (λ z. take c.args.begin c.args.room.now ++ escape z) (take-take c.args.len 32 c.args.source.now (omega (arith, c.requires.within))),
  c.escape_part.ensures.2,
)

pub returns : goal.returns
returns c =
    let front = take c.args.begin c.args.room.now in
    let size = length c.args.room.now in
    let first = part_put front c.args.source.now c.args.begin size 0 c.args.begin 16 c.escape_part-at.result c.args.room.now _ c.escape_part-at.new.room
    (filled_begins front c.args.source.now c.args.room.now c.args.begin refl)
    (take-take 16 32 c.args.source.now (omega arith)) c.escape_part-at.ensures.0 c.escape_part-at.ensures.1 c.escape_part-at.ensures.2 in
    let all = subst (λ (n : ℕ). FilledTo front c.args.begin size c.args.source.now n c.escape_part-2.result c.escape_part-2.new.room) (omega (arith, c.if-len-le16.false))
    (part_put front c.args.source.now c.args.begin size 16 c.escape_part-at.result (c.args.len - 16) c.escape_part-2.result c.escape_part-at.new.room _ c.escape_part-2.new.room first
    (take-take (c.args.len - 16) (48 - 16) (drop 16 c.args.source.now) (omega (arith, c.requires.within))) c.escape_part-2.ensures.0 c.escape_part-2.ensures.1 c.escape_part-2.ensures.2) in
    (all.1, all.2, all.0)

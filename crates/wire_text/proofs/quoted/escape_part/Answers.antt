use Rattle.std.proofs.Common.{List, ap, arith, length, map, refl, subst, sym, take, ℕ, ◌++◌, ◌<◌, ◌^◌, ◌+◌, ◌≡◌, ◌∙◌}
use Rattle.std.proofs.lemmas.List.{length-map, length-take-le, take-take, take_all}
use Rattle.std.proofs.lemmas.Simd.{mask_l-lt}
use Rattle.std.specs.Simd.Lanes.{mask_l}
use Rattle.json.specs.Print.{escape}
use Rattle.wire_text.specs.Backslashes.{backslashed}
use Rattle.wire_text.specs.Fields.{needs_escape, none_needs_escape}
use Rattle.wire_text.proofs.EscapeLemmas.{FilledTo, filled_begins, filled_by, first_long, part_few, part_fits, part_room, runs_room}
use Rattle.wire_text.proofs.BackslashLemmas.{first_letters, first_need_none}
use Rattle.wire_text.proofs.quoted.escape_part.Goals as goal

pub returns-then-escapes-within-eq0 : goal.returns-then-escapes-within-eq0
returns-then-escapes-within-eq0 c =
    let source = c.args.source.now in
    let front = take c.args.begin c.args.room.now in
    let size = length c.args.room.now in
    let len = c.args.len in
    let long = length-take-le 16 source (omega (arith, c.requires.long)) in
    let none = ap none_needs_escape (sym (take-take len 16 source c.requires.within))
    ∙ first_need_none len c.escape_bits-escapes.result (take 16 source) c.requires.within c.escape_bits-escapes.ensures c.if-escapes-within-eq0.true in
    let put = filled_by front source c.args.begin size 0 c.args.begin len c.args.room.now (take 16 source) c.put_block.new.room
    (filled_begins front source c.args.room.now c.args.begin refl) (omega (arith, c.requires.room, long)) (omega (arith, c.requires.within, long))
    (take-take len 16 source c.requires.within) none c.put_block.ensures in
    let all = subst (λ (n : ℕ). FilledTo front c.args.begin size source n (c.args.begin + len) c.put_block.new.room) (omega arith) put in
    (all.1, all.2, all.0)

pub put_sixteen-requires-clause-bits : goal.put_sixteen-requires-clause-bits
put_sixteen-requires-clause-bits c =
    let set = map needs_escape (take 16 c.args.source.now) in
    let many = length-map (take 16 c.args.source.now) needs_escape ∙ length-take-le 16 c.args.source.now (omega (arith, c.requires.long)) in
    let less : mask_l set < 2 ^ 16 = subst (λ (n : ℕ). mask_l set < 2 ^ n) many (mask_l-lt set) in omega (arith, less, c.escape_bits-escapes.ensures)

pub returns : goal.returns
returns c =
    let source = c.args.source.now in
    let block = take 16 source in
    let long = length-take-le 16 source (omega (arith, c.requires.long)) in
    let put = c.put_sixteen.ensures.put (map needs_escape block) (length-map block needs_escape ∙ long) c.escape_bits-escapes.ensures in
    let letters = c.letters_of-letters.result in
    let escapes = subst (λ (z : List ℕ). escape (take c.args.len z) ≡ backslashed (take c.args.len (map needs_escape z)) (take c.args.len letters))
    (take_all 16 block (omega (arith, long))) (c.letters_of-letters.ensures.escapes c.args.len (first_letters c.args.len c.control_bits.result letters c.requires.within c.control_bits.ensures c.if-control_bits-within-ne0.false)) in (
      omega (arith, put.0),
      put.1 ∙ ap (λ (z : List ℕ). take c.args.begin c.args.room.now ++ z) (sym escapes ∙ ap escape (take-take c.args.len 16 source c.requires.within)),
      c.put_sixteen.ensures.long,
    )

pub returns-then-control_bits-within-ne0 : goal.returns-then-control_bits-within-ne0
returns-then-control_bits-within-ne0 c = c.escape_runs.ensures

pub put_block-requires : goal.put_block-requires
put_block-requires c = part_fits c.args.begin c.args.source.now c.args.room.now c.requires.long c.requires.room

pub overflow_shl-within : goal.overflow_shl-within
overflow_shl-within c = part_few c.args.len c.requires.within

pub slice_bounds-block-end : goal.slice_bounds-block-end
slice_bounds-block-end c = sym (first_long c.args.source.now c.requires.long)

pub put_sixteen-requires-clause-room : goal.put_sixteen-requires-clause-room
put_sixteen-requires-clause-room c = part_room c.args.begin (length c.args.room.now) c.requires.room

pub put_sixteen-requires-clause-within : goal.put_sixteen-requires-clause-within
put_sixteen-requires-clause-within c = c.requires.within

pub escape_runs-requires : goal.escape_runs-requires
escape_runs-requires c =
    record {
      long = c.requires.long;
      within = c.requires.within;
      room = runs_room c.args.begin c.args.len (length c.args.room.now) c.requires.within c.requires.room;
    }

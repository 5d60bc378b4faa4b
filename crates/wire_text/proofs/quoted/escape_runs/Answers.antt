use Rattle.std.proofs.Common.{ℕ, arith, length, length-take-le, refl, subst, take, ◌+◌, ◌-◌}
use Rattle.wire_text.proofs.EscapeLemmas.{FilledTo, filled_on, run_put, run_within, filled_begins, first_long, run_fits, byte_fits, less_left}
use Rattle.wire_text.proofs.quoted.escape_runs.Goals as goal

pub overflow_add-done : goal.overflow_add-done
overflow_add-done c =
    omega (arith, c.escapes.invariant.0, c.ranges.len, run_within c.args.source.now c.escapes.done c.escapes.run c.escapes.invariant.1, c.requires.within)

pub escapes-preserved : goal.escapes-preserved
escapes-preserved c =
    let inv = c.escapes.invariant in
    let inside = c.escapes-test.true in
    let front = take c.args.begin c.args.room.now in
    let size = length c.args.room.now in
    let put = run_put front c.args.source.now c.args.begin size c.escapes.done c.escapes.at c.escapes.run c.escapes.run c.escapes.room _ c.put_block.new.room inv.2 inv.1
    (omega (arith, c.requires.room, inv.0, inv.2.0, inv.2.1)) (omega arith) (omega (arith, inside, c.requires.within)) refl (omega (arith, inside, c.requires.long, c.requires.within)) c.put_block.ensures in
    let one = filled_on front c.args.source.now c.args.begin size (c.escapes.done + c.escapes.run) (c.escapes.at + c.escapes.run) c.put_escaped-at.result c.put_block.new.room c.put_escaped-at.new.room put
    (omega (arith, inside, c.requires.long, c.requires.within)) c.put_escaped-at.ensures.2 c.put_escaped-at.ensures.0 c.put_escaped-at.ensures.1 in (
      omega (arith, inside),
      c.run_from-run-in-escapes.ensures (take 16 c.args.source.now) (length-take-le 16 c.args.source.now (omega (arith, c.requires.long))) c.escape_bits-escapes.ensures,
      subst (λ (n : ℕ). FilledTo front c.args.begin size c.args.source.now n c.put_escaped-at.result c.put_escaped-at.new.room) (omega arith) one,
    )

pub returns : goal.returns
returns c =
    let inv = c.escapes.invariant in
    let behind = c.escapes-test.false in
    let front = take c.args.begin c.args.room.now in
    let size = length c.args.room.now in
    let put = run_put front c.args.source.now c.args.begin size c.escapes.done c.escapes.at (c.args.len - c.escapes.done) c.escapes.run c.escapes.room _ c.put_block-2.new.room inv.2 inv.1
    (omega (arith, c.requires.room, inv.0, inv.2.0, inv.2.1)) (omega (arith, behind)) (omega (arith, inv.0, c.requires.within)) refl (omega (arith, inv.0, c.requires.long, c.requires.within)) c.put_block-2.ensures in
    let all = subst (λ (n : ℕ). FilledTo front c.args.begin size c.args.source.now n (c.escapes.at + (c.args.len - c.escapes.done)) c.put_block-2.new.room) (omega (arith, inv.0)) put in
    (all.1, all.2, all.0)

pub escapes-init : goal.escapes-init
escapes-init c = (
  omega arith,
  c.run_from-run.ensures (take 16 c.args.source.now) (first_long c.args.source.now c.requires.long) c.escape_bits-escapes.ensures,
  filled_begins (take c.args.begin c.args.room.now) c.args.source.now c.args.room.now c.args.begin refl,
)

pub escapes-smaller : goal.escapes-smaller
escapes-smaller c = less_left c.args.len c.escapes.done c.escapes.run c.escapes-test.true

pub put_block-requires : goal.put_block-requires
put_block-requires c =
    let inv = c.escapes.invariant in
    run_fits c.args.begin c.escapes.at c.escapes.done c.args.len (length c.args.room.now) c.args.source.now c.escapes.room inv.2.0 inv.2.1 inv.0 c.requires.room

pub put_block-requires-2 : goal.put_block-requires-2
put_block-requires-2 c =
    let inv = c.escapes.invariant in
    run_fits c.args.begin c.escapes.at c.escapes.done c.args.len (length c.args.room.now) c.args.source.now c.escapes.room inv.2.0 inv.2.1 inv.0 c.requires.room

pub put_escaped-at-requires : goal.put_escaped-at-requires
put_escaped-at-requires c =
    let inv = c.escapes.invariant in
    byte_fits c.args.begin c.escapes.at c.escapes.done c.escapes.run c.args.len (length c.args.room.now) c.escapes.room c.put_block.new.room c.put_block.auto.room inv.2.0 inv.2.1
    c.escapes-test.true c.requires.room

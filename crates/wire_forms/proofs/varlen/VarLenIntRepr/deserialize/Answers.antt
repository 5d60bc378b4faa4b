use Rattle.std.proofs.Common.{◌<◌, ◌≤◌, ◌+◌, ◌%◌, ◌*◌, Ok, Err, inl, inr, arith, refl}
use Rattle.wire_buf.specs.LenencLemmas.{first_byte}
use Rattle.wire_buf.specs.declared.error.WireError.TheVariants.{InvalidData}
use Rattle.wire_buf.specs.declared.error.InvalidReason.TheVariants.{VarLenTooLarge}
use Rattle.wire_forms.specs.GroupsLemmas.{bounded, next_weight, ReadsGroups-left, SoFar-more, SoFar-last}
use Rattle.wire_forms.proofs.varlen.VarLenIntRepr.deserialize.Goals as goal

pub overflow_mul-number : goal.overflow_mul-number
overflow_mul-number c =
    let bound = bounded c.loop-place._place c.loop-place.weight c.loop-place.number c.in-Some.byte
    c.loop-place-test.true c.loop-place.invariant.weight c.loop-place.invariant.low in
    omega (arith, bound.0, bound.1)

pub overflow_add-number : goal.overflow_add-number
overflow_add-number c =
    let bound = bounded c.loop-place._place c.loop-place.weight c.loop-place.number c.in-Some.byte
    c.loop-place-test.true c.loop-place.invariant.weight c.loop-place.invariant.low in
    omega (arith, bound.0, bound.1)

pub overflow_mul-weight : goal.overflow_mul-weight
overflow_mul-weight c =
    let bound = bounded c.loop-place._place c.loop-place.weight c.loop-place.number c.in-Some.byte
    c.loop-place-test.true c.loop-place.invariant.weight c.loop-place.invariant.low in
    omega (arith, bound.0)

pub returns-then-number : goal.returns-then-number
returns-then-number c =
    let old = c.args.buf.now.0.now in
    let mid = c.loop-place.buf.0.now in
    let new = c.checked_eat_u8.new.self.0.now in
    let head = first_byte mid c.in-Some.byte new c.in-Some.ensures in
    let low : c.in-Some.byte < 128 = grind arith in
    let small : c.loop-place.number + c.in-Some.byte % 128 * c.loop-place.weight ≤ 4294967295 =
    grind arith in
    let (eaten, parts, whole, few, value) =
    SoFar-last old c.loop-place._place c.loop-place.number c.loop-place.weight c.in-Some.byte
    mid new c.loop-place.invariant.so_far c.loop-place.invariant.weight head low
    c.loop-place-test.true in
    ReadsGroups-left old (Ok _) new (eaten, (whole, few, value, small), parts)

pub returns-else-number : goal.returns-else-number
returns-else-number c =
    let old = c.args.buf.now.0.now in
    let mid = c.loop-place.buf.0.now in
    let new = c.checked_eat_u8.new.self.0.now in
    let head = first_byte mid c.in-Some.byte new c.in-Some.ensures in
    let low : c.in-Some.byte < 128 = grind arith in
    let large : 4294967295 < c.loop-place.number + c.in-Some.byte % 128 * c.loop-place.weight =
    grind arith in
    let (eaten, parts, whole, few, value) =
    SoFar-last old c.loop-place._place c.loop-place.number c.loop-place.weight c.in-Some.byte
    mid new c.loop-place.invariant.so_far c.loop-place.invariant.weight head low
    c.loop-place-test.true in
    ReadsGroups-left old (Err (InvalidData VarLenTooLarge)) new
    (eaten, parts, inr (inl (refl, whole, few, omega (arith, large, value))))

pub loop-place-preserved : goal.loop-place-preserved
loop-place-preserved c =
    let old = c.args.buf.now.0.now in
    let mid = c.loop-place.buf.0.now in
    let new = c.checked_eat_u8.new.self.0.now in
    let head = first_byte mid c.in-Some.byte new c.in-Some.ensures in
    let high : 128 ≤ c.in-Some.byte = grind arith in
    let bound = bounded c.loop-place._place c.loop-place.weight c.loop-place.number c.in-Some.byte
    c.loop-place-test.true c.loop-place.invariant.weight c.loop-place.invariant.low in
    record {
      so_far = SoFar-more old c.loop-place._place c.loop-place.number c.loop-place.weight
          c.in-Some.byte mid new c.loop-place.invariant.so_far c.loop-place.invariant.weight head
          high;
      weight = next_weight c.loop-place._place c.loop-place.weight c.loop-place.invariant.weight;
      low = omega (arith, bound.1);
    }

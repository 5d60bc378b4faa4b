use Rattle.std.proofs.Common.{refl, sym, arith, true≢false}
use Rattle.std.specs.Int.NonZero.{non_zero_usize_get}
use Rattle.wire_span.specs.Spans.{front_bytes}
use Rattle.wire_span.proofs.PartLemmas.{no_chunk, some_chunk_left, within_is}
use Rattle.wire_span.proofs.span.parts.place_at.Goals as goal

pub returns-in-None-clause-exact : goal.returns-in-None-clause-exact
returns-in-None-clause-exact c =
    (λ _. no_chunk c.args.size c.args.left (front_bytes c.args.came) c.in-None.ensures c.if-is_full.true, λ _. refl)

pub returns-in-Some-clause-some : goal.returns-in-Some-clause-some
returns-in-Some-clause-some c =
    let value = c.get.ensures.value in
    let some = c.get.ensures.nonzero in
    within_is c.args.size c.args.left (non_zero_usize_get c.in-Some.left) (front_bytes c.args.came) c.in-Some.ensures (omega (arith, value, some))

pub returns-in_default-clause-exact : goal.returns-in_default-clause-exact
returns-in_default-clause-exact c =
    (λ e. absurd (true≢false (sym e)), λ h. absurd (some_chunk_left c.args.size c.args.left c.in-None.ensures c.if-is_full.false h.0))

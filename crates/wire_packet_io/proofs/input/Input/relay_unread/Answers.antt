use Rattle.std.proofs.lemmas.Bool.{false≢true}
use Rattle.std.proofs.Common.{◌∙◌, refl, true, false, sym}
use Rattle.wire_span.specs.Spans.{span_state}
use Rattle.wire_packet_io.proofs.CopyLemmas.{fewer_none, fewer_more}
use Rattle.wire_packet_io.proofs.RelayLemmas.{relays_none, relays_more, relays_kept}
use Rattle.wire_packet_io.proofs.input.Input.relay_unread.Goals as goal

pub steps-init : goal.steps-init
steps-init g c = record {
  uncut = c.requires.uncut;
  limit = refl;
  rest = refl;
  writer = refl;
  fewer = fewer_none _;
  goes = relays_none _ _ _ _;
}

pub returns-in-Ok-Some-true-clause-goes : goal.returns-in-Ok-Some-true-clause-goes
returns-in-Ok-Some-true-clause-goes g c =
    let inv = c.steps.invariant in
    let step = rw (c.in-Ok-Some-true.field-0-is, c.in-Ok-Some-true.field-0-0-test) at c.in-Ok-Some-true.ensures.steps in
    relays_more true (span_state c.args.decoder.now) (span_state c.steps.decoder) (span_state c.relay_front.new.decoder) c.args.next_id.now c.steps.next_id c.relay_front.new.next_id _ _ _ _ _ _
    inv.limit inv.goes step.0

pub steps-preserved : goal.steps-preserved
steps-preserved g c =
    let inv = c.steps.invariant in
    let step = rw (c.in-Ok-Some-false.field-0-is, c.in-Ok-Some-false.field-0-0-test) at c.in-Ok-Some-false.ensures.steps in
    record {
      uncut = c.relay_front.ensures.kept.0;
      limit = c.relay_front.ensures.kept.1 ∙ inv.limit;
      rest = rw inv.rest at c.relay_front.ensures.kept.2;
      writer = c.relay_front.ensures.kept.3 ∙ inv.writer;
      fewer = fewer_more _ _ _ _ _ _ inv.fewer (step.2 refl).0;
      goes = relays_more false (span_state c.args.decoder.now) (span_state c.steps.decoder) (span_state c.relay_front.new.decoder) c.args.next_id.now c.steps.next_id c.relay_front.new.next_id _ _ _ _ _ _
          inv.limit inv.goes step.0;
    }

pub returns-in-Ok-None-clause-goes : goal.returns-in-Ok-None-clause-goes
returns-in-Ok-None-clause-goes g c =
    let inv = c.steps.invariant in
    let step = rw c.in-Ok-None.field-0-is at c.in-Ok-None.ensures.steps in
    relays_kept (span_state c.args.decoder.now) (span_state c.steps.decoder) (span_state c.relay_front.new.decoder) c.args.next_id.now c.steps.next_id c.relay_front.new.next_id _ _ _ _ _ _
    inv.goes step.0 step.1 step.2 step.3

pub returns-in-Err-clause-goes : goal.returns-in-Err-clause-goes
returns-in-Err-clause-goes g c =
    let inv = c.steps.invariant in
    let step = c.in-Err.ensures.steps in
    relays_kept (span_state c.args.decoder.now) (span_state c.steps.decoder) (span_state c.relay_front.new.decoder) c.args.next_id.now c.steps.next_id c.relay_front.new.next_id _ _ _ _ _ _
    inv.goes step.0 step.1 step.2 step.3

pub relay_front-requires : goal.relay_front-requires
relay_front-requires g c = record {
  uncut = c.steps.invariant.uncut;
}

pub returns-in-Ok-Some-true-clause-fewer : goal.returns-in-Ok-Some-true-clause-fewer
returns-in-Ok-Some-true-clause-fewer g c f = absurd (false≢true (sym f))

pub returns-in-Ok-Some-true-clause-kept : goal.returns-in-Ok-Some-true-clause-kept
returns-in-Ok-Some-true-clause-kept g c =
    let inv = c.steps.invariant in
    let kept = c.relay_front.ensures.kept in
    (kept.0, kept.1 ∙ inv.limit, rw inv.rest at kept.2, kept.3 ∙ inv.writer)

pub returns-in-Ok-None-clause-kept : goal.returns-in-Ok-None-clause-kept
returns-in-Ok-None-clause-kept g c =
    let inv = c.steps.invariant in
    let kept = c.relay_front.ensures.kept in
    (kept.0, kept.1 ∙ inv.limit, rw inv.rest at kept.2, kept.3 ∙ inv.writer)

pub returns-in-Err-clause-kept : goal.returns-in-Err-clause-kept
returns-in-Err-clause-kept g c =
    let inv = c.steps.invariant in
    let kept = c.relay_front.ensures.kept in
    (kept.0, kept.1 ∙ inv.limit, rw inv.rest at kept.2, kept.3 ∙ inv.writer)

use Rattle.std.proofs.lemmas.Bool.{false≢true}
use Rattle.std.proofs.Common.{[], ◌∙◌}
use Rattle.std.proofs.KnownBytes.{Appends-nil}
use Rattle.wire_span.specs.Spans.{span_state}
use Rattle.wire_packet_io.proofs.CopyLemmas.{copied_none, copies_more, copies_kept}
use Rattle.wire_packet_io.proofs.input.Input.copy_begin.Goals as goal

pub returns-in-Ok-Some-true-clause-goes : goal.returns-in-Ok-Some-true-clause-goes
returns-in-Ok-Some-true-clause-goes g c =
    let step = rw (c.in-Ok-Some-true.field-0-is, c.in-Ok-Some-true.field-0-0-test) at c.in-Ok-Some-true.ensures.steps in
    step.0

pub returns-in-Ok-None-clause-goes : goal.returns-in-Ok-None-clause-goes
returns-in-Ok-None-clause-goes g c =
    let step = rw c.in-Ok-None.field-0-is at c.in-Ok-None.ensures.steps in
    copies_kept (span_state c.args.decoder.now) (span_state c.args.decoder.now) (span_state c.copy_front.new.decoder) _ c.args.self.now.src.items _ _ (g.W.Write.contents c.args.writer.now) _
    ([], copied_none _ _, Appends-nil _) step.0 step.1 step.2

pub returns-in-Err-clause-goes : goal.returns-in-Err-clause-goes
returns-in-Err-clause-goes g c =
    let step = c.in-Err.ensures.steps in
    copies_kept (span_state c.args.decoder.now) (span_state c.args.decoder.now) (span_state c.copy_front.new.decoder) _ c.args.self.now.src.items _ _ (g.W.Write.contents c.args.writer.now) _
    ([], copied_none _ _, Appends-nil _) step.0 step.1 step.2

pub returns-in-Ok-Some-clause-goes : goal.returns-in-Ok-Some-clause-goes
returns-in-Ok-Some-clause-goes g c =
    let first = rw (c.in-Ok-Some-false.field-0-is, c.in-Ok-Some-false.field-0-0-test) at c.in-Ok-Some-false.ensures.steps in
    let second = rw c.in-Ok-Some.field-0-is at c.in-Ok-Some.ensures.steps in
    copies_more c.in-Ok-Some.ended (span_state c.args.decoder.now) (span_state c.copy_front.new.decoder) (span_state c.copy_front-2.new.decoder) _ _ _ _ _ _
    c.copy_front.ensures.kept.1 first.0 second.0

pub returns-in-Ok-None-copy_front-clause-goes : goal.returns-in-Ok-None-copy_front-clause-goes
returns-in-Ok-None-copy_front-clause-goes g c =
    let first = rw (c.in-Ok-Some-false.field-0-is, c.in-Ok-Some-false.field-0-0-test) at c.in-Ok-Some-false.ensures.steps in
    let second = rw c.in-Ok-None-copy_front.field-0-is at c.in-Ok-None-copy_front.ensures.steps in
    copies_kept (span_state c.args.decoder.now) (span_state c.copy_front.new.decoder) (span_state c.copy_front-2.new.decoder) _ _ _ _ _ _ first.0 second.0 second.1 second.2

pub returns-in-Err-copy_front-clause-goes : goal.returns-in-Err-copy_front-clause-goes
returns-in-Err-copy_front-clause-goes g c =
    let first = rw (c.in-Ok-Some-false.field-0-is, c.in-Ok-Some-false.field-0-0-test) at c.in-Ok-Some-false.ensures.steps in
    let second = c.in-Err-copy_front.ensures.steps in
    copies_kept (span_state c.args.decoder.now) (span_state c.copy_front.new.decoder) (span_state c.copy_front-2.new.decoder) _ _ _ _ _ _ first.0 second.0 second.1 second.2

pub copy_front-requires : goal.copy_front-requires
copy_front-requires g c = record {
  uncut = c.requires.uncut;
}

pub copy_front-requires-2 : goal.copy_front-requires-2
copy_front-requires-2 g c = record {
  uncut = c.copy_front.ensures.kept.0;
}

pub returns-in-Ok-Some-true-clause-kept : goal.returns-in-Ok-Some-true-clause-kept
returns-in-Ok-Some-true-clause-kept g c = c.copy_front.ensures.kept

pub returns-in-Ok-None-clause-kept : goal.returns-in-Ok-None-clause-kept
returns-in-Ok-None-clause-kept g c = c.copy_front.ensures.kept

pub returns-in-Err-clause-kept : goal.returns-in-Err-clause-kept
returns-in-Err-clause-kept g c = c.copy_front.ensures.kept

pub returns-in-Ok-Some-true-clause-stops : goal.returns-in-Ok-Some-true-clause-stops
returns-in-Ok-Some-true-clause-stops g c = tt

pub returns-in-Ok-None-clause-stops : goal.returns-in-Ok-None-clause-stops
returns-in-Ok-None-clause-stops g c = tt

pub returns-in-Ok-Some-clause-stops : goal.returns-in-Ok-Some-clause-stops
returns-in-Ok-Some-clause-stops g c = tt

pub returns-in-Ok-None-copy_front-clause-stops : goal.returns-in-Ok-None-copy_front-clause-stops
returns-in-Ok-None-copy_front-clause-stops g c = tt

pub returns-in-Ok-None-clause-ends : goal.returns-in-Ok-None-clause-ends
returns-in-Ok-None-clause-ends g c t = absurd (false≢true t)

pub returns-in-Ok-None-copy_front-clause-ends : goal.returns-in-Ok-None-copy_front-clause-ends
returns-in-Ok-None-copy_front-clause-ends g c t = absurd (false≢true t)

pub returns-in-Err-clause-ends : goal.returns-in-Err-clause-ends
returns-in-Err-clause-ends g c = tt

pub returns-in-Err-copy_front-clause-ends : goal.returns-in-Err-copy_front-clause-ends
returns-in-Err-copy_front-clause-ends g c = tt

pub returns-in-Ok-Some-clause-kept : goal.returns-in-Ok-Some-clause-kept
returns-in-Ok-Some-clause-kept g c =
    let first = c.copy_front.ensures.kept in
    let kept = c.copy_front-2.ensures.kept in
    (kept.0, kept.1 ∙ first.1, rw first.2 at kept.2)

pub returns-in-Ok-None-copy_front-clause-kept : goal.returns-in-Ok-None-copy_front-clause-kept
returns-in-Ok-None-copy_front-clause-kept g c =
    let first = c.copy_front.ensures.kept in
    let kept = c.copy_front-2.ensures.kept in
    (kept.0, kept.1 ∙ first.1, rw first.2 at kept.2)

pub returns-in-Err-copy_front-clause-kept : goal.returns-in-Err-copy_front-clause-kept
returns-in-Err-copy_front-clause-kept g c =
    let first = c.copy_front.ensures.kept in
    let kept = c.copy_front-2.ensures.kept in
    (kept.0, kept.1 ∙ first.1, rw first.2 at kept.2)

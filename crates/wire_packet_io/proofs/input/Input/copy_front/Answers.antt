use Rattle.std.proofs.Common.{ap, arith, sym, subst, refl}
use Rattle.std.proofs.KnownBytes.{Keeps-refl}
use Rattle.wire_span.specs.Spans.{SpanState, span_state}
use Rattle.wire_packet_io.specs.Copying.{StopsHere}
use Rattle.wire_packet_io.proofs.CopyLemmas.{header_step, header_stop, stops_named}
use Rattle.wire_packet_io.proofs.input.Input.copy_front.Goals as goal

pub returns-in-Ok-clause-steps : goal.returns-in-Ok-clause-steps
returns-in-Ok-clause-steps g c =
    let read = c.in-Some.header in
    let said = rw c.as_slice.ensures at c.in-Some.ensures in
    let passed = c.in-Ok.ensures in
    header_step (span_state c.args.decoder.now) (span_state c.pass_header.new.self) c.args.self.now.src.items c.advance.new.self.items read.len read.seq_id c.in-Ok.ended
    (g.W.Write.contents c.args.writer.now) (said.there.0 refl) said.len said.id said.spelled c.advance.ensures.items (omega arith)
    passed.id passed.came passed.between passed.fewer

pub returns-in-Err-clause-steps : goal.returns-in-Err-clause-steps
returns-in-Err-clause-steps g c =
    let read = c.in-Some.header in
    let said = rw c.as_slice.ensures at c.in-Some.ensures in
    let same = ap (λ z. span_state z) c.in-Err.ensures.err in
    let stops = header_stop c.in-Err.error (span_state c.args.decoder.now) c.args.self.now.src.items read.len read.seq_id (said.there.0 refl) said.len said.id said.spelled c.in-Err.ensures.refused in
    (same, refl, Keeps-refl _, subst (λ (s : SpanState). StopsHere c.refusal.result s c.args.self.now.src.items) (sym same) (stops_named c.in-Err.error c.refusal.result _ _ c.refusal.ensures stops))

pub returns-then-chunk_left-gt0-clause-kept : goal.returns-then-chunk_left-gt0-clause-kept
returns-then-chunk_left-gt0-clause-kept g c = c.copy_bytes.ensures.kept

pub returns-in_default-clause-kept : goal.returns-in_default-clause-kept
returns-in_default-clause-kept g c = (c.requires.uncut, refl, refl)

use Rattle.std.proofs.Common.{◌+◌, ◌%◌, arith, refl}
use Rattle.wire_span.specs.Spans.{span_state}
use Rattle.wire_packet_io.proofs.CopyLemmas.{header_stop}
use Rattle.wire_packet_io.proofs.RelayLemmas.{relay_header_step, relay_stop}
use Rattle.wire_packet_io.proofs.input.Input.relay_front.Goals as goal

pub returns-in-Ok-put-clause-steps : goal.returns-in-Ok-put-clause-steps
returns-in-Ok-put-clause-steps g c =
    let read = c.in-Some.header in
    let said = rw c.as_slice.ensures at c.in-Some.ensures in
    let passed = c.in-Ok.ensures in
    relay_header_step (span_state c.args.decoder.now) (span_state c.pass_header.new.self) c.args.next_id.now ((c.args.next_id.now + 1) % 256) c.args.self.now.src.items c.advance.new.self.items
    c.args.writer.now.pending c.put.new.self.pending c.bytes.result read.len read.seq_id c.in-Ok.ended
    (said.there.0 refl) said.len said.id said.spelled c.advance.ensures.items (omega arith) (omega arith)
    passed.id passed.came c.bytes.ensures c.in-Ok-put.ensures.put refl passed.between passed.fewer

pub returns-in-Err-clause-steps : goal.returns-in-Err-clause-steps
returns-in-Err-clause-steps g c =
    let read = c.in-Some.header in
    let said = rw c.as_slice.ensures at c.in-Some.ensures in
    let stops = header_stop c.in-Err.error (span_state c.args.decoder.now) c.args.self.now.src.items read.len read.seq_id (said.there.0 refl) said.len said.id said.spelled c.in-Err.ensures.refused in
    (refl, refl, refl, refl, relay_stop c.in-Err.error c.refusal.result _ _ c.refusal.ensures stops)

pub returns-then-chunk_left-gt0-clause-kept : goal.returns-then-chunk_left-gt0-clause-kept
returns-then-chunk_left-gt0-clause-kept g c = c.relay_bytes.ensures.kept

pub returns-in_default-clause-kept : goal.returns-in_default-clause-kept
returns-in_default-clause-kept g c = (c.requires.uncut, refl, refl, refl)

pub returns-in-Err-clause-kept : goal.returns-in-Err-clause-kept
returns-in-Err-clause-kept g c = (c.requires.uncut, refl, refl, refl)

pub returns-in-Err-put-clause-kept : goal.returns-in-Err-put-clause-kept
returns-in-Err-put-clause-kept g c = (c.requires.uncut, refl, refl, c.put.ensures.writer)

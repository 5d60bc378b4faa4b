use Rattle.std.proofs.Common.{arith, refl}
use Rattle.wire_span.specs.Spans.{span_state}
use Rattle.wire_packet_io.proofs.WholeLemmas.{whole_is}
use Rattle.wire_packet_io.proofs.input.Input.whole_front.Goals as goal

pub returns : goal.returns
returns g c =
    let read = c.in-Some.header in
    let said = rw c.as_slice.ensures at c.in-Some.ensures in
    let passed = c.in-Ok-false.ensures in
    let went = c.pass_bytes.ensures in
    whole_is c.args.codec.now (span_state c.in_front_of-decoder.result) (span_state c.pass_header.new.self) (span_state c.pass_bytes.new.self) c.args.self.now.src.items read.len read.seq_id c.sequence_id.result
    c.in_front_of-decoder.ensures passed.limit went.limit (omega (arith, c.if-len.false, c.len.ensures.value, said.there.0 refl)) said.small said.len said.id said.spelled (omega arith)
    passed.id (rw c.in-Ok-false.field-0-test at passed.came) went.id (rw c.if-not-pass_bytes.false at went.came) (went.between c.if-not-pass_bytes.false) c.sequence_id.ensures

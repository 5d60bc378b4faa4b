use Rattle.std.proofs.Common.{take, ap, arith, refl}
use Rattle.wire_span.specs.Spans.{span_state}
use Rattle.wire_packet_io.proofs.CopyLemmas.{bytes_step}
use Rattle.wire_packet_io.proofs.input.Input.copy_bytes.Goals as goal

pub returns-in-Ok-clause-steps : goal.returns-in-Ok-clause-steps
returns-in-Ok-clause-steps g c =
    let n = c.min-len.result in
    bytes_step (span_state c.args.decoder.now) (span_state c.pass_bytes.new.self) c.args.self.now.src.items c.advance.new.self.items (take n c.as_slice.result.now)
    n c.in-Ok.count c.pass_bytes.result (g.W.Write.contents c.args.writer.now) (g.W.Write.contents c.write_front.new.writer)
    (ap (λ z. take n z) c.as_slice.ensures) (omega (arith, c.min-len.ensures, c.len.ensures.value)) c.in-Ok.ensures.bound (omega (arith, c.in-Ok.count-test.1))
    c.advance.ensures.items c.pass_bytes.ensures.id c.pass_bytes.ensures.came c.in-Ok.ensures.bytes c.pass_bytes.ensures.between c.pass_bytes.ensures.fewer

pub returns-then-len-eq0-clause-kept : goal.returns-then-len-eq0-clause-kept
returns-then-len-eq0-clause-kept g c = (c.requires.uncut, refl, refl)

pub returns-in-Ok-eq0-clause-kept : goal.returns-in-Ok-eq0-clause-kept
returns-in-Ok-eq0-clause-kept g c = (c.requires.uncut, refl, refl)

pub returns-in-Err-clause-kept : goal.returns-in-Err-clause-kept
returns-in-Err-clause-kept g c = (c.requires.uncut, refl, refl)

use Rattle.std.proofs.Common.{take, ap, arith, ◌∙◌, ◌++◌, refl}
use Rattle.wire_span.specs.Spans.{span_state}
use Rattle.wire_packet_io.proofs.RelayLemmas.{relay_bytes_step}
use Rattle.wire_packet_io.proofs.input.Input.relay_bytes.Goals as goal

pub returns-in-Ok-clause-steps : goal.returns-in-Ok-clause-steps
returns-in-Ok-clause-steps g c id =
    let n = c.min-len.result in
    relay_bytes_step (span_state c.args.decoder.now) (span_state c.pass_bytes.new.self) id c.args.self.now.src.items c.advance.new.self.items
    c.args.writer.now.pending c.put.new.self.pending n c.pass_bytes.result
    (omega (arith, c.min-len.ensures, c.len.ensures.value)) (omega (arith, c.if-len-eq0.false)) c.advance.ensures.items c.pass_bytes.ensures.id c.pass_bytes.ensures.came
    (c.in-Ok.ensures.put ∙ ap (λ z. c.args.writer.now.pending ++ take n z) c.as_slice.ensures) c.pass_bytes.ensures.between c.pass_bytes.ensures.fewer

pub returns-then-len-eq0-clause-kept : goal.returns-then-len-eq0-clause-kept
returns-then-len-eq0-clause-kept g c = (c.requires.uncut, refl, refl, refl)

pub returns-in-Err-clause-kept : goal.returns-in-Err-clause-kept
returns-in-Err-clause-kept g c = (c.requires.uncut, refl, refl, c.put.ensures.writer)

use Rattle.std.proofs.Common.{ap, arith, Ok}
use Rattle.wire_codec.specs.Refusals.{error_of}
use Rattle.wire_codec.proofs.SkipLemmas.{refused_header, waits_header}
use Rattle.wire_codec.proofs.codec.packet.PacketCodec.skip_chunk.Goals as goal

pub returns-in-Err-clause-drops : goal.returns-in-Err-clause-drops
returns-in-Err-clause-drops g c full w =
    let err = rw c.as_slice.ensures at c.in-Err.ensures.err in
    refused_header c.args.skipped.now c.args.self.now c.args.src.now.items full (error_of c.in-Err.refusal) (omega arith) c.in_default.is w (ap error_of err.0) err.1 err.2.0 err.2.1 err.2.2

pub returns-in-Ok-None-clause-drops : goal.returns-in-Ok-None-clause-drops
returns-in-Ok-None-clause-drops g c full w =
    let short = rw c.as_slice.ensures at (c.in-Ok-None.ensures.none (ap (λ found. Ok found) c.in-Ok-None.field-0-is)) in
    waits_header c.args.skipped.now c.args.self.now c.args.src.now.items full (omega arith) c.in_default.is w short

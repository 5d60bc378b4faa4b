use Rattle.wire_buf.specs.LenencWritten.{lenenc_bytes-shortest_in_a_buffer}
use Rattle.wire_laws.proofs.numbers.lenenc_shortest.Goals as goal

pub returns : goal.returns
returns c = lenenc_bytes-shortest_in_a_buffer c.args.number.now.0 c.known.ensures

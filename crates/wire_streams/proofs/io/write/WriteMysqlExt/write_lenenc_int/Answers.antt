use Rattle.std.proofs.Common.{arith}
use Rattle.wire_buf.specs.LenencWritten.{lenenc_bytes-shortest, lenenc_bytes-shortest_in_a_buffer}
use Rattle.wire_streams.proofs.io.write.WriteMysqlExt.write_lenenc_int.Goals as goal

pub returns-clause-shortest : goal.returns-clause-shortest
returns-clause-shortest g c = lenenc_bytes-shortest c.args.n (omega arith)

pub returns-clause-shortest_in_a_buffer : goal.returns-clause-shortest_in_a_buffer
returns-clause-shortest_in_a_buffer g c = lenenc_bytes-shortest_in_a_buffer c.args.n (omega arith)

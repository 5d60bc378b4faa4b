use Rattle.std.proofs.Common.{arith}
use Rattle.wire_buf.specs.LenencWritten.{lenenc_bytes-shortest, lenenc_bytes-shortest_in_a_buffer}
use Rattle.wire_ext.proofs.put.BufMutExt.put_lenenc_int.Goals as goal

pub returns-in_err-put_spelling-clause-shortest : goal.returns-in_err-put_spelling-clause-shortest
returns-in_err-put_spelling-clause-shortest g c = lenenc_bytes-shortest c.args.n (omega arith)

pub returns-in_err-put_spelling-clause-shortest_in_a_buffer :
    goal.returns-in_err-put_spelling-clause-shortest_in_a_buffer
returns-in_err-put_spelling-clause-shortest_in_a_buffer g c =
    lenenc_bytes-shortest_in_a_buffer c.args.n (omega arith)

pub returns-clause-shortest : goal.returns-clause-shortest
returns-clause-shortest g c = lenenc_bytes-shortest c.args.n (omega arith)

pub returns-clause-shortest_in_a_buffer : goal.returns-clause-shortest_in_a_buffer
returns-clause-shortest_in_a_buffer g c = lenenc_bytes-shortest_in_a_buffer c.args.n (omega arith)

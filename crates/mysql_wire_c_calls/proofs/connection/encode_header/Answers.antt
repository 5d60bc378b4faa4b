use Rattle.std.proofs.Common.{arith, rules}
use Rattle.mysql_wire_c_calls.proofs.SideLemmas.{full_chunk, header_is}
use Rattle.mysql_wire_c_calls.proofs.connection.encode_header.Goals as goal

pub returns : goal.returns
returns c = header_is c.args.len c.args.header.now c.bytes.result c.args.connection.now.side _ (search (rules, c.if-connection-len.false)) (omega (arith, full_chunk, c.if-len-ge-MAX_PAYLOAD_LEN.false))
    (search rules) (search rules)

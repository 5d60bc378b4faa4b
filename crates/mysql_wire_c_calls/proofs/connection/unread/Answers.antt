use Rattle.std.proofs.Common.{arith, ap}
use Rattle.wire_codec.specs.Codec.{codec_state}
use Rattle.mysql_wire_c_calls.specs.Side.{ConnectionState}
use Rattle.mysql_wire_c_calls.proofs.SideLemmas.{unread_behind}
use Rattle.mysql_wire_c_calls.proofs.connection.unread.Goals as goal

pub overflow_sub-result : goal.overflow_sub-result
overflow_sub-result c =
    let f = c.connection.inside in
    let unread = unread_behind f.front (codec_state f.codec f.src.items f.dst.items) f.output.items
    c.args.connection.now.side c.packet.result.now c.in-InPlace.is c.connection.invariant
    (ap (λ (s : ConnectionState). s.side) c.connection.view_is)
    c.packet.ensures in
    omega (arith, unread.0, c.len.ensures.value)

pub returns-in-InPlace : goal.returns-in-InPlace
returns-in-InPlace c =
    let f = c.connection.inside in
    let unread = unread_behind f.front (codec_state f.codec f.src.items f.dst.items) f.output.items
    c.args.connection.now.side c.packet.result.now c.in-InPlace.is c.connection.invariant
    (ap (λ (s : ConnectionState). s.side) c.connection.view_is)
    c.packet.ensures in
    omega (arith, unread.1, c.len.ensures.value, c.len.ensures.bound)

use Rattle.std.proofs.Common.{◌≡◌, ◌∙◌, sym, ap, length}
use Rattle.wire_codec.specs.Codec.{codec_state}
use Rattle.mysql_wire_c_calls.specs.Side.{side_of}
use Rattle.mysql_wire_c_calls.proofs.SideLemmas.{is_short, side_kept, limit_of, number_of, renumbered, encodes_there, short_len, short_next}
use Rattle.mysql_wire_c_calls.proofs.connection.encode_to.Goals as goal
use Rattle.mysql_wire_c_calls.proofs.connection.encode_to.Goals.{In-Ok}

pub put_chunk-requires-clause-small : goal.put_chunk-requires-clause-small
put_chunk-requires-clause-small c = is_short (length c.args.payload.now) c.if-payload-lt-MAX_PAYLOAD_LEN.true

-- the side is the same once the packet in front is set aside
kept : (c : In-Ok) → side_of c.set_aside.new.front (codec_state c.set_aside.new.codec c.set_aside.new.src.items c.set_aside.new.dst.items) c.connection.inside.output.items ≡ c.args.connection.now.side
kept c =
    let f = c.connection.inside in
    let new = c.set_aside.new in
    let said = c.in-Ok.ensures in
    side_kept new.front f.front (codec_state new.codec new.src.items new.dst.items) (codec_state f.codec f.src.items f.dst.items) f.output.items c.args.connection.now.side
    said.lost said.lent said.behind (ap (λ z. z.side) c.connection.view_is)

pub returns-then-payload-lt-MAX_PAYLOAD_LEN : goal.returns-then-payload-lt-MAX_PAYLOAD_LEN
returns-then-payload-lt-MAX_PAYLOAD_LEN c =
    let f = c.connection.inside in
    let new = c.set_aside.new in
    let before = c.args.connection.now.side in
    let payload = c.args.payload.now in
    let state = codec_state new.codec new.src.items new.dst.items in
    let same = kept (goal.at.returns-then-payload-lt-MAX_PAYLOAD_LEN c).In-Ok in
    let apart = c.in-Ok.ensures.apart in
    let set = c.set_sequence_id.ensures in
    let small = is_short (length payload) c.if-payload-lt-MAX_PAYLOAD_LEN.true in
    let id = c.sequence_id-seq_id.result in
    encodes_there payload c.args.room.now c.put_chunk.new.room c.in-Some.len _ id _ before _
    (c.sequence_id-seq_id.ensures ∙ number_of new.front state f.output.items before apart same) c.put_chunk.ensures
    (renumbered new.front new.codec c.set_sequence_id.new.self new.src.items new.dst.items f.output.items before _ apart same set.id set.header set.limit)
    (short_next id payload small) (short_len payload c.in-Some.len small c.in-Some.ensures.1) (c.in-Some.ensures.1 ∙ sym (c.framed_length.ensures id payload))
    (rw (← limit_of f.front (codec_state f.codec f.src.items f.dst.items) f.output.items before (ap (λ z. z.side) c.connection.view_is)) c.if-connection-payload.false)
    c.if-room-len.false

pub returns-in-Some-packet_to_slice : goal.returns-in-Some-packet_to_slice
returns-in-Some-packet_to_slice c =
    let f = c.connection.inside in
    let new = c.set_aside.new in
    let before = c.args.connection.now.side in
    let payload = c.args.payload.now in
    let state = codec_state new.codec new.src.items new.dst.items in
    let same = kept (goal.at.returns-in-Some-packet_to_slice c).In-Ok in
    let apart = c.in-Ok.ensures.apart in
    let set = c.set_sequence_id-in-Some-packet_to_slice.ensures in
    let id = c.sequence_id.result in
    let said = c.in-Some-packet_to_slice.ensures in
    let len = c.in-Some.ensures.1 ∙ sym (c.framed_length.ensures id payload) in
    encodes_there payload c.args.room.now c.packet_to_slice.new.room c.in-Some.len c.in-Some-packet_to_slice.field-0-0 id _ before _
    (c.sequence_id.ensures ∙ number_of new.front state f.output.items before apart same) said.written.1
    (renumbered new.front new.codec c.set_sequence_id-in-Some-packet_to_slice.new.self new.src.items new.dst.items f.output.items before _ apart same set.id set.header set.limit)
    said.next (said.len ∙ sym len) len
    (rw (← limit_of f.front (codec_state f.codec f.src.items f.dst.items) f.output.items before (ap (λ z. z.side) c.connection.view_is)) c.if-connection-payload.false)
    (rw (said.len ∙ sym len) at said.written.0)

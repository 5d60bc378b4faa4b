use Rattle.std.proofs.Common.{ℕ, ◌+◌, ◌==◌, ◌∙◌, length, ap, sym, subst, refl}
use Rattle.wire_codec.specs.Codec.{codec_state}
use Rattle.mysql_wire_c_calls.specs.declared.side.Front.{Front}
use Rattle.mysql_wire_c_calls.specs.declared.codes.TheConstants.{PACKET}
use Rattle.mysql_wire_c_calls.specs.Side.{ConnectionState, side_of}
use Rattle.mysql_wire_c_calls.specs.Decoding.{LendsFrom}
use Rattle.mysql_wire_c_calls.proofs.DecodingLemmas.{lends_is, nothing_there}
use Rattle.mysql_wire_c_calls.proofs.connection.lend_from.Goals as goal

pub returns-clause-lends : goal.returns-clause-lends
returns-clause-lends c =
    let f = c.connection.inside in
    let bytes = c.args.bytes.now in
    let packet = c.in_ok-packet.packet.now in
    let old = codec_state f.codec f.src.items f.dst.items in
    let new = codec_state c.accept_front_in.new.self f.src.items f.dst.items in
    let no_unread = nothing_there f.src.items c.is_empty.result c.is_empty.ensures c.if-not-is_empty.false in
    let none = nothing_there f.dst.items c.is_empty-else-not-is_empty.result (c.is_empty-else-not-is_empty.ensures ∙ ap (λ (n : ℕ). n == 0) f.dst.ok.0) c.if-not-is_empty-2.false in
    let lends = lends_is bytes packet old new f.output.items c.accept_front_in.result no_unread none (c.in_ok-packet.ensures.there.0 refl)
    c.in_ok-packet.ensures.packet c.accept_front_in.ensures.chunk c.accept_front_in.ensures.aligned c.accept_front_in.ensures.rest refl refl in
    let here : LendsFrom bytes (4 + length packet) (length packet) PACKET (side_of f.front old f.output.items) (side_of f.front new f.output.items) =
    subst (λ (x : Front). LendsFrom bytes (4 + length packet) (length packet) PACKET (side_of x old f.output.items) (side_of x new f.output.items)) (sym c.in-Unfinished.is) lends in
    subst (λ (s : ConnectionState). LendsFrom bytes (4 + length packet) (length packet) PACKET s.side (side_of f.front new f.output.items)) c.connection.view_is here

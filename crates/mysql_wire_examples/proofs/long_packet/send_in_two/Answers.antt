use Rattle.std.proofs.Common.{◌≡◌, ◌+◌, length, ap, ◌∙◌, sym, subst}
use Rattle.mysql_wire.specs.Framed.{FrameState, frame_state, begun, IsBetweenPackets}
use Rattle.mysql_wire_examples.proofs.LongPacketLemmas.{begun_is, two_went}
use Rattle.mysql_wire_examples.proofs.RelayedLemmas.{err_if_ok, err_on_ok}
use Rattle.mysql_wire_examples.proofs.long_packet.send_in_two.Goals as goal

pub returns-clause-sent : goal.returns-clause-sent
returns-clause-sent g c =
    let id = c.args.id in
    let x = c.args.front.now in
    let y = c.args.behind.now in
    let set = frame_state c.set_sequence_id.new.self in
    let is : frame_state c.begin.new.self ≡ begun id (length x + length y) =
    begun_is c.begin.result set (frame_state c.begin.new.self) id (length x + length y) (ap (λ (s : FrameState). s.id) c.set_sequence_id.ensures)
    (subst (λ (s : FrameState). IsBetweenPackets s) (sym c.set_sequence_id.ensures) c.default-writer.ensures.0) c.begin.ensures.ok c.begin.ensures.err in
    let first = c.in_ok-send_piece.ensures.sent in
    let second = c.in_ok-send_piece-2.ensures.sent in
    (two_went c.joined_frames.ensures c.framed_packet.ensures id (frame_state c.begin.new.self) (frame_state c.send_piece.new.writer) (frame_state c.send_piece-2.new.writer)
    x y first.0 second.0 c.args.output.now.items c.send_piece.new.output.items c.send_piece-2.new.output.items is first.2 second.2 c.in_ok-send_piece-2.ensures.whole first.1 second.1).0

pub returns-clause-next : goal.returns-clause-next
returns-clause-next g c =
    let id = c.args.id in
    let x = c.args.front.now in
    let y = c.args.behind.now in
    let set = frame_state c.set_sequence_id.new.self in
    let is : frame_state c.begin.new.self ≡ begun id (length x + length y) =
    begun_is c.begin.result set (frame_state c.begin.new.self) id (length x + length y) (ap (λ (s : FrameState). s.id) c.set_sequence_id.ensures)
    (subst (λ (s : FrameState). IsBetweenPackets s) (sym c.set_sequence_id.ensures) c.default-writer.ensures.0) c.begin.ensures.ok c.begin.ensures.err in
    let first = c.in_ok-send_piece.ensures.sent in
    let second = c.in_ok-send_piece-2.ensures.sent in
    c.sequence_id.ensures ∙ (two_went c.joined_frames.ensures c.framed_packet.ensures id (frame_state c.begin.new.self) (frame_state c.send_piece.new.writer) (frame_state c.send_piece-2.new.writer)
    x y first.0 second.0 c.args.output.now.items c.send_piece.new.output.items c.send_piece-2.new.output.items is first.2 second.2 c.in_ok-send_piece-2.ensures.whole first.1 second.1).1

pub returns-in_err-send_piece : goal.returns-in_err-send_piece
returns-in_err-send_piece g c =
    let answer = c.from_residual.result in
    let is = c.from_residual.ensures.0 in
    record { sent = err_on_ok answer _ is; next = err_if_ok answer _ is }

pub returns-in_err-send_piece-2 : goal.returns-in_err-send_piece-2
returns-in_err-send_piece-2 g c =
    let answer = c.from_residual-in_err-send_piece-2.result in
    let is = c.from_residual-in_err-send_piece-2.ensures.0 in
    record { sent = err_on_ok answer _ is; next = err_if_ok answer _ is }

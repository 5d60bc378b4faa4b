use Rattle.mysql_wire_tool_commands.proofs.ReadLemmas.{none_on}
use Rattle.std.proofs.Common.{◌≡◌, length, refl, ap, ◌∙◌, sym, subst}
use Rattle.wire_codec.specs.Codec.{expected_id}
use Rattle.wire_span.specs.Framed.{FrameState, frame_state, begun, IsBetweenPackets}
use Rattle.mysql_wire_tool_commands.proofs.SenderLemmas.{begun_is, one_went, all_written}
use Rattle.mysql_wire_tool_commands.proofs.sender.Sender.write_chunks.Goals as goal

pub returns-clause-sent : goal.returns-clause-sent
returns-clause-sent g c =
    let id = expected_id c.args.encoder.now in
    let packet = c.args.packet.now in
    let set = frame_state c.set_sequence_id.new.self in
    let is : frame_state c.begin.new.self ≡ begun id (length packet) =
    begun_is c.begin.result set (frame_state c.begin.new.self) id (length packet) (ap (λ (s : FrameState). s.id) c.set_sequence_id.ensures ∙ c.sequence_id.ensures)
    (subst (λ (s : FrameState). IsBetweenPackets s) (sym c.set_sequence_id.ensures) c.default-frames.ensures.0) c.begin.ensures.ok c.begin.ensures.err in
    let parts = c.in_ok-write_parts.ensures in
    let went = one_went c.framed_packet.ensures id (frame_state c.begin.new.self) (frame_state c.write_parts.new.frames) packet parts.sent.0 is parts.sent.2 parts.whole in
    all_written _ _ _ _ _ _ _ c.in_ok-send.ensures.sent (c.in_ok-send.ensures.idle refl) (rw went.0 at parts.sent.1) c.in_ok-flush.ensures.kept

pub returns-clause-next : goal.returns-clause-next
returns-clause-next g c =
    let id = expected_id c.args.encoder.now in
    let packet = c.args.packet.now in
    let set = frame_state c.set_sequence_id.new.self in
    let is : frame_state c.begin.new.self ≡ begun id (length packet) =
    begun_is c.begin.result set (frame_state c.begin.new.self) id (length packet) (ap (λ (s : FrameState). s.id) c.set_sequence_id.ensures ∙ c.sequence_id.ensures)
    (subst (λ (s : FrameState). IsBetweenPackets s) (sym c.set_sequence_id.ensures) c.default-frames.ensures.0) c.begin.ensures.ok c.begin.ensures.err in
    let parts = c.in_ok-write_parts.ensures in
    let went = one_went c.framed_packet.ensures id (frame_state c.begin.new.self) (frame_state c.write_parts.new.frames) packet parts.sent.0 is parts.sent.2 parts.whole in
    c.set_sequence_id-2.ensures.id ∙ c.sequence_id-2.ensures ∙ went.1

pub returns-in_err-send-clause-sent : goal.returns-in_err-send-clause-sent
returns-in_err-send-clause-sent g c = none_on c.from_residual.result _ c.from_residual.ensures.0

pub returns-in_err-send-clause-idle : goal.returns-in_err-send-clause-idle
returns-in_err-send-clause-idle g c = none_on c.from_residual.result _ c.from_residual.ensures.0

pub returns-in_err-send-clause-next : goal.returns-in_err-send-clause-next
returns-in_err-send-clause-next g c = none_on c.from_residual.result _ c.from_residual.ensures.0

pub returns-in_err-write_parts-clause-sent : goal.returns-in_err-write_parts-clause-sent
returns-in_err-write_parts-clause-sent g c =
    none_on c.from_residual-in_err-write_parts.result _ c.from_residual-in_err-write_parts.ensures.0

pub returns-in_err-write_parts-clause-idle : goal.returns-in_err-write_parts-clause-idle
returns-in_err-write_parts-clause-idle g c =
    none_on c.from_residual-in_err-write_parts.result _ c.from_residual-in_err-write_parts.ensures.0

pub returns-in_err-write_parts-clause-next : goal.returns-in_err-write_parts-clause-next
returns-in_err-write_parts-clause-next g c =
    none_on c.from_residual-in_err-write_parts.result _ c.from_residual-in_err-write_parts.ensures.0

pub returns-in_err-flush-clause-sent : goal.returns-in_err-flush-clause-sent
returns-in_err-flush-clause-sent g c = none_on c.from_residual-in_err-flush.result _ c.from_residual-in_err-flush.ensures.0

pub returns-in_err-flush-clause-idle : goal.returns-in_err-flush-clause-idle
returns-in_err-flush-clause-idle g c = none_on c.from_residual-in_err-flush.result _ c.from_residual-in_err-flush.ensures.0

pub returns-in_err-flush-clause-next : goal.returns-in_err-flush-clause-next
returns-in_err-flush-clause-next g c = none_on c.from_residual-in_err-flush.result _ c.from_residual-in_err-flush.ensures.0

pub returns-in_err-send-clause-limit : goal.returns-in_err-send-clause-limit
returns-in_err-send-clause-limit g c = refl

pub returns-in_err-write_parts-clause-limit : goal.returns-in_err-write_parts-clause-limit
returns-in_err-write_parts-clause-limit g c = refl

pub returns-in_err-flush-clause-limit : goal.returns-in_err-flush-clause-limit
returns-in_err-flush-clause-limit g c = c.set_sequence_id-2.ensures.limit

pub returns-clause-limit : goal.returns-clause-limit
returns-clause-limit g c = c.set_sequence_id-2.ensures.limit

pub returns-clause-errors : goal.returns-clause-errors
returns-clause-errors g c = tt

pub returns-clause-idle : goal.returns-clause-idle
returns-clause-idle g c = ap (λ z. z.items) c.flush.ensures.pending ∙ c.in_ok-send.ensures.idle refl

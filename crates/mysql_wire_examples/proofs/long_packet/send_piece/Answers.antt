use Rattle.std.proofs.Common.{◌≡◌, ℕ, List, [], ◌++◌, refl, sym, ap, ◌∙◌, subst, append_assoc, append-nil}
use Rattle.mysql_wire.specs.Framed.{FrameState, frame_state, payload_left, header_bytes, IsBetweenPackets, FramesOn}
use Rattle.mysql_wire_examples.proofs.LongPacketLemmas.{all_went, whole_went}
use Rattle.mysql_wire_examples.proofs.long_packet.send_piece.Goals as goal

pub parts-init : goal.parts-init
parts-init g c = ([], [], refl, sym (append-nil c.args.output.now.items), c.nothing_framed.ensures (frame_state c.args.writer.now))

pub parts-preserved : goal.parts-preserved
parts-preserved g c =
    let inv = c.parts.invariant in
    let part = c.in-Some.part in
    let bytes : List ℕ = part.bytes.now in
    let out : List ℕ = header_bytes part.header ++ bytes in
    let before = frame_state c.args.writer.now in
    let between = frame_state c.parts.writer in
    let after = frame_state c.next_part.new.self in (
      inv.0 ++ bytes,
      inv.1 ++ out,
      inv.2 ∙ ap (λ (z : List ℕ). inv.0 ++ z) c.in-Some.ensures.eaten ∙ sym (append_assoc inv.0 bytes c.next_part.new.piece.now),
      c.in_ok-send_part.ensures ∙ ap (λ (z : List ℕ). z ++ out) inv.3 ∙ append_assoc c.args.output.now.items inv.1 out,
      c.joined_frames.ensures before between after inv.0 inv.1 bytes out inv.4 c.in-Some.ensures.frames,
    )

pub returns-clause-sent : goal.returns-clause-sent
returns-clause-sent g c =
    let inv = c.parts.invariant in
    let before = frame_state c.args.writer.now in
    let kept = c.in_default.ensures.kept in (
      inv.1,
      inv.3,
      subst (λ (z : FrameState). FramesOn before c.args.piece.now inv.1 z) (sym kept.0)
          (all_went before (frame_state c.parts.writer) c.args.piece.now inv.0 c.parts.rest.now inv.1 inv.4 inv.2 c.requires c.in_default.ensures.none),
    )

pub returns-clause-whole : goal.returns-clause-whole
returns-clause-whole g c =
    let kept = c.in_default.ensures.kept in
    subst (λ (z : FrameState). payload_left z ≡ 0 → IsBetweenPackets z) (sym kept.0)
    (whole_went (frame_state c.parts.writer) c.parts.rest.now c.in_default.ensures.none)

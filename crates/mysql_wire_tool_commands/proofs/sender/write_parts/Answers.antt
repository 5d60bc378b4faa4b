use Rattle.std.proofs.Common.{◌≡◌, ℕ, List, [], ◌++◌, refl, sym, ap, ◌∙◌, subst, append_assoc}
use Rattle.std.proofs.KnownBytes.{Appends-nil, Appends-trans}
use Rattle.wire_span.specs.Framed.{FrameState, frame_state, payload_left, header_bytes, IsBetweenPackets, FramesOn}
use Rattle.mysql_wire_tool_commands.proofs.SenderLemmas.{all_went, whole_went}
use Rattle.mysql_wire_tool_commands.proofs.sender.write_parts.Goals as goal

pub parts-init : goal.parts-init
parts-init g c = ([], [], refl, Appends-nil (g.W.Write.contents c.args.writer.now), c.nothing_framed.ensures (frame_state c.args.frames.now))

pub parts-preserved : goal.parts-preserved
parts-preserved g c =
    let inv = c.parts.invariant in
    let part = c.in-Some.part in
    let bytes : List ℕ = part.bytes.now in
    let out : List ℕ = header_bytes part.header ++ bytes in
    let before = frame_state c.args.frames.now in
    let between = frame_state c.parts.frames in
    let after = frame_state c.next_part.new.self in (
      inv.0 ++ bytes,
      inv.1 ++ out,
      inv.2 ∙ ap (λ (z : List ℕ). inv.0 ++ z) c.in-Some.ensures.eaten ∙ sym (append_assoc inv.0 bytes c.next_part.new.piece.now),
      Appends-trans _ _ _ inv.1 out inv.3 c.in_ok-write_part.ensures.written,
      c.joined_frames.ensures before between after inv.0 inv.1 bytes out inv.4 c.in-Some.ensures.frames,
    )

pub returns-clause-sent : goal.returns-clause-sent
returns-clause-sent g c =
    let inv = c.parts.invariant in
    let before = frame_state c.args.frames.now in
    let kept = c.in_default.ensures.kept in (
      inv.1,
      inv.3,
      subst (λ (z : FrameState). FramesOn before c.args.packet.now inv.1 z) (sym kept.0)
          (all_went before (frame_state c.parts.frames) c.args.packet.now inv.0 c.parts.rest.now inv.1 inv.4 inv.2 c.requires c.in_default.ensures.none),
    )

pub returns-clause-whole : goal.returns-clause-whole
returns-clause-whole g c =
    let kept = c.in_default.ensures.kept in
    subst (λ (z : FrameState). payload_left z ≡ 0 → IsBetweenPackets z) (sym kept.0)
    (whole_went (frame_state c.parts.frames) c.parts.rest.now c.in_default.ensures.none)

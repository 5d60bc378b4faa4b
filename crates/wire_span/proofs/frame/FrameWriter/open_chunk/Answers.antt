use Rattle.std.proofs.Common.{◌≡◌, ℕ, ◌+◌, ◌%◌, [], sym, subst, arith, Option, Some, List}
use Rattle.wire_codec.specs.Framing.{max_payload_is}
use Rattle.wire_span.specs.Framed.{FramesOn}
use Rattle.wire_span.proofs.FrameLemmas.{at_frame, frame_opens}
use Rattle.wire_span.proofs.frame.FrameWriter.open_chunk.Goals as goal

pub bytes-requires : goal.bytes-requires
bytes-requires c = omega (arith, max_payload_is)

pub returns-clause-frames : goal.returns-clause-frames
returns-clause-frames c =
    let self = c.args.self.now in
    let left = c.in_ok-left.left in
    let after = at_frame ((self.seq_id + 1) % 256) c.min-len.result c.checked_sub-self.result in
    let opened : self.chunk_left ≡ 0 = omega arith in
    subst (λ (n : ℕ). FramesOn (at_frame self.seq_id n self.behind) [] c.bytes.result after) (sym opened)
    (subst (λ (b : Option ℕ). FramesOn (at_frame self.seq_id 0 b) [] c.bytes.result after) (sym c.in_ok-left.was)
    (subst (λ (h : List ℕ). FramesOn (at_frame self.seq_id 0 (Some left)) [] h after) (sym c.bytes.ensures)
    (frame_opens self.seq_id left c.min-len.result c.checked_sub-self.result c.min-len.ensures c.checked_sub-self.ensures)))

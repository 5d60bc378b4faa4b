use Rattle.std.proofs.Common.{[], length, ◌-◌, arith}
use Rattle.wire_span.specs.Framed.{frame_state, header_bytes}
use Rattle.wire_span.proofs.FrameLemmas.{at_frame, chunk_goes, joined_frames_is}
use Rattle.wire_span.proofs.frame.FrameWriter.next_part.Goals as goal

pub returns-clause-frames : goal.returns-clause-frames
returns-clause-frames c =
    let mid = frame_state c.open_chunk-header.new.self in
    let x = c.split_at.result.0.now in
    joined_frames_is (frame_state c.args.self.now) mid (at_frame mid.id (mid.chunk_left - length x) mid.behind) [] (header_bytes c.open_chunk-header.result) x x
    c.open_chunk-header.ensures.frames (chunk_goes mid.id mid.chunk_left (mid.chunk_left - length x) mid.behind x (omega arith))

use Rattle.std.proofs.Common.{◌≡◌}
use Rattle.wire_codec.specs.Codec.{codec_state}
use Rattle.wire_codec.specs.Taking.{pieces_under}
use Rattle.wire_codec.proofs.PieceRuns.{HasRun}
use Rattle.wire_codec.proofs.codec.pieces.take_pieces.Given as goal

abbrev pub invariant-loop-piece : goal.invariant-loop-piece
invariant-loop-piece g l =
    let before = codec_state l.fn.codec l.fn.src.items l.fn.dst.items in
    record {
      count : l.count ≡ l.piece-index;
      run : HasRun g.K.PacketSink.took before (pieces_under g.P.Piece.limited before.limit l.fn.pieces) l.piece-index l.fn.out l.out (codec_state l.codec l.src.items l.dst.items);
    }

use Rattle.std.proofs.Common.{◌≡◌, ◌+◌, ◌<◌, ◌++◌, ◌∙◌, ℕ, List, Bor, length, get_or, refl, sym, ap, arith}
use Rattle.std.proofs.Math.ListN.{get_or-map}
use Rattle.std.proofs.lemmas.List.{length-map}
use Rattle.wire_codec.specs.Codec.{CodecState, codec_state}
use Rattle.wire_codec.specs.Taking.{pieces_under}
use Rattle.wire_codec.specs.Refusals.{error_of}
use Rattle.wire_codec.proofs.PieceRuns.{Comes, has_run_first, has_run_more, stops_first, refuses_piece, stops_behind, takes_all}
use Rattle.wire_codec.proofs.codec.pieces.take_pieces.Goals as goal

-- the next piece, as the loop has it
comes : {P : Type 0} (limited : ℕ → P → ℕ × Bor (List ℕ)) (own i : ℕ) (items : List P) (state : CodecState) (item : P) (limit : ℕ) (unread bytes : List ℕ)
    → i < length items → item ≡ get_or items i item → limit ≡ (limited own item).0 → unread ≡ state.unread ++ bytes → bytes ≡ (limited own item).1.now
    → Comes (pieces_under limited own items) i state (limited own item) limit unread
comes limited own i items state item limit unread bytes inside is set came are = record {
  inside = let many = length-map items (λ piece. limited own piece) in omega arith;
  is = get_or-map (λ piece. limited own piece) items i item ∙ ap (λ p. limited own p) (sym is);
  set = set;
  came = came ∙ ap (λ (z : List ℕ). state.unread ++ z) are;
}

pub returns-in-Err : goal.returns-in-Err
returns-in-Err g c =
    let before = codec_state c.args.codec.now c.args.src.now.items c.args.dst.now.items in
    let after = codec_state c.drain.new.codec c.drain.new.src.items c.drain.new.dst.items in
    rw c.from.ensures (stops_first g.K.PacketSink.took (error_of c.in-Err.refusal) before (pieces_under g.P.Piece.limited before.limit c.args.pieces.now) c.args.out.now c.drain.new.out after
    c.requires c.in-Err.ensures.on c.drain.ensures.limit)

pub loop-piece-init : goal.loop-piece-init
loop-piece-init g c =
    let before = codec_state c.args.codec.now c.args.src.now.items c.args.dst.now.items in
    let after = codec_state c.drain.new.codec c.drain.new.src.items c.drain.new.dst.items in
    record {
      count = refl;
      run = has_run_first g.K.PacketSink.took before (pieces_under g.P.Piece.limited before.limit c.args.pieces.now) c.args.out.now c.drain.new.out after c.in-Ok.ensures.on c.drain.ensures.limit;
    }

pub returns-in-Err-append : goal.returns-in-Err-append
returns-in-Err-append g c =
    let refused = c.in-Err-append.ensures in
    let many = length-map c.args.pieces.now (λ piece. g.P.Piece.limited c.args.codec.now.max_allowed_packet piece) in
    rw (c.loop-piece.invariant.count, c.from-in-Err-append.ensures) (refuses_piece (error_of c.in-Err-append.refusal) c.append.new.src.items c.requires c.loop-piece.invariant.run
    (let t = c.loop-piece-test.true in omega arith) (ap error_of refused.memory) refused.kept)

pub returns-in-Err-drain : goal.returns-in-Err-drain
returns-in-Err-drain g c =
    let own = c.args.codec.now.max_allowed_packet in
    let state = codec_state c.loop-piece.codec c.loop-piece.src.items c.loop-piece.dst.items in
    let after = codec_state c.drain-in-loop-piece.new.codec c.drain-in-loop-piece.new.src.items c.drain-in-loop-piece.new.dst.items in
    let piece = comes g.P.Piece.limited own c.loop-piece.piece-index c.args.pieces.now state c.piece-item.result c.limit.result c.append.new.src.items _
    c.loop-piece-test.true c.piece-item.is c.limit.ensures c.in-Ok-append.ensures.src (c.bytes.ensures own) in
    rw (c.loop-piece.invariant.count, c.from-in-Err-drain.ensures) (stops_behind g.met.K.PacketSink.joins (error_of c.in-Err-drain.refusal) c.drain-in-loop-piece.new.out after c.requires c.loop-piece.invariant.run piece
    c.in-Err-drain.ensures.on c.drain-in-loop-piece.ensures.limit)

pub loop-piece-preserved : goal.loop-piece-preserved
loop-piece-preserved g c =
    let own = c.args.codec.now.max_allowed_packet in
    let state = codec_state c.loop-piece.codec c.loop-piece.src.items c.loop-piece.dst.items in
    let after = codec_state c.drain-in-loop-piece.new.codec c.drain-in-loop-piece.new.src.items c.drain-in-loop-piece.new.dst.items in
    let piece = comes g.P.Piece.limited own c.loop-piece.piece-index c.args.pieces.now state c.piece-item.result c.limit.result c.append.new.src.items _
    c.loop-piece-test.true c.piece-item.is c.limit.ensures c.in-Ok-append.ensures.src (c.bytes.ensures own) in
    record {
      count = ap (λ (n : ℕ). n + 1) c.loop-piece.invariant.count;
      run = has_run_more g.met.K.PacketSink.joins c.drain-in-loop-piece.new.out after c.requires c.loop-piece.invariant.run piece c.in-Ok-drain.ensures.on c.drain-in-loop-piece.ensures.limit;
    }

pub returns : goal.returns
returns g c =
    let many = length-map c.args.pieces.now (λ piece. g.P.Piece.limited c.args.codec.now.max_allowed_packet piece) in
    rw c.loop-piece.invariant.count (takes_all c.requires c.loop-piece.invariant.run (let t = c.loop-piece-test.false in omega arith))

use Rattle.std.proofs.Common.{ℕ, ◌++◌, length, max}
use Rattle.mysql_wire.specs.Codec.{CodecState, codec_state, first_id, input_of}
use Rattle.mysql_wire_examples.specs.Session.{session_limits}
use Rattle.mysql_wire_examples.proofs.SessionLemmas.{aligned_where_it_stands, goes_on_in_session, piece_behind, delivers_piece, session_at_most}
use Rattle.mysql_wire_examples.proofs.CallerLemmas.{on_ok}
use Rattle.mysql_wire_examples.proofs.session.go_on_under.Goals as goal

pub deliver_limited-result-requires : goal.deliver_limited-result-requires
deliver_limited-result-requires g c =
    aligned_where_it_stands (codec_state c.args.codec.now c.args.src.now.items c.args.dst.now.items) c.requires

pub returns-clause-session : goal.returns-clause-session
returns-clause-session g c =
    let before : CodecState = codec_state c.args.codec.now c.args.src.now.items c.args.dst.now.items in
    let call = c.deliver_limited-result in
    let after : CodecState = codec_state call.new.codec call.new.src.items call.new.dst.items in
    let start = goes_on_in_session c.aligned_goes_on.ensures c.args.limit before c.requires in
    let at : ℕ = length (input_of before) in
    let runs = call.ensures.on (session_limits before.limit c.args.limit at) start.0 0 start.1 (piece_behind before.limit c.args.limit at c.args.piece) in
    on_ok call.result.1 _ (λ ok. (runs.0, runs.1, delivers_piece before after c.args.limit c.args.piece call.result.0 call.result.1 runs.0 ok call.ensures.all runs.2))

pub returns-clause-bounded : goal.returns-clause-bounded
returns-clause-bounded g c =
    let before : CodecState = codec_state c.args.codec.now c.args.src.now.items c.args.dst.now.items in
    let call = c.deliver_limited-result in
    let after : CodecState = codec_state call.new.codec call.new.src.items call.new.dst.items in
    let start = goes_on_in_session c.aligned_goes_on.ensures c.args.limit before c.requires in
    let at : ℕ = length (input_of before) in
    let limits = session_limits before.limit c.args.limit at in
    let runs = call.ensures.on limits start.0 0 start.1 (piece_behind before.limit c.args.limit at c.args.piece) in
    on_ok call.result.1 _ (λ ok. c.bounded_limited_delivery.ensures limits (max before.limit c.args.limit) 0 before.held (input_of before ++ c.args.piece.now) (first_id before) runs.0 after.held after.unread
    (session_at_most before.limit c.args.limit at)
    (delivers_piece before after c.args.limit c.args.piece call.result.0 call.result.1 runs.0 ok call.ensures.all runs.2))

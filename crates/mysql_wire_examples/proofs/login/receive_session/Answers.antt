use Rattle.std.proofs.Common.{rules, ◌∷◌, [], ap}
use Rattle.mysql_wire.specs.Codec.{CodecState, codec_state, header_of}
use Rattle.mysql_wire.specs.Laws.{empty_state}
use Rattle.mysql_wire.specs.Runs.{payloads}
use Rattle.mysql_wire_examples.proofs.CallerLemmas.{two_pieces}
use Rattle.mysql_wire_examples.proofs.RelayedLemmas.{err_if_ok}
use Rattle.mysql_wire_examples.proofs.login.receive_session.Goals as goal

pub returns : goal.returns
returns g c =
    let told = c.deliver_limited-result.ensures in
    let new = c.deliver_limited-result.new in
    let after : CodecState = codec_state new.codec new.src.items new.dst.items in
    let codec = c.default-codec.ensures in
    let start : CodecState = empty_state 0 1024 in
    let before : CodecState = record { limit = 1024; id = c.default-codec.result.seq_id; header = header_of c.default-codec.result; unread = c.new-src.result.items; held = c.new-dst.result.items } in (
      after,
      two_pieces start before after ((1024, c.args.login) ∷ (c.args.limit, c.args.session) ∷ []) c.deliver_limited-result.result.0 c.deliver_limited-result.result.1 told.runs.0
          (payloads c.new-packets.result.items) (payloads new.out.items)
          (λ i. record { limit = 1024; id = codec.0 i; header = codec.1 i; unread = c.new-src.ensures.items i; held = c.new-dst.ensures.items i })
          (search rules) (search rules) (ap payloads c.new-packets.ensures.items) told.runs.1 told.runs.2,
    )

pub returns-in_err-result : goal.returns-in_err-result
returns-in_err-result g c = err_if_ok c.from_residual.result _ c.from_residual.ensures.0

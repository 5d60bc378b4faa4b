use Rattle.std.proofs.Common.{rules, ℕ, List, [], ◌++◌, drop, ap, ◌∙◌}
use Rattle.mysql_wire.specs.Codec.{CodecState, codec_state, header_of}
use Rattle.mysql_wire.specs.Delivery.{Delivers, Waiting}
use Rattle.mysql_wire.specs.Runs.{joined, payloads}
use Rattle.mysql_wire_examples.proofs.CallerLemmas.{fresh_delivers}
use Rattle.mysql_wire_examples.proofs.RelayedLemmas.{err_if_ok}
use Rattle.mysql_wire_examples.proofs.recording.replay.Goals as goal

pub returns : goal.returns
returns g c =
    let limit = c.args.limit in
    let input : List ℕ = joined c.args.pieces.now in
    let call = c.deliver-result in
    let runs = call.ensures.runs in
    let codec = c.default-codec.ensures in
    let before : CodecState = record { limit = limit; id = c.default-codec.result.seq_id; header = header_of c.default-codec.result; unread = c.new-src.result.items; held = c.new-dst.result.items } in
    let after : CodecState = codec_state call.new.codec call.new.src.items call.new.dst.items in
    let left : List ℕ = joined (drop call.result.0 c.args.pieces.now) in
    let mine : Delivers [] input 0 limit runs.0 Waiting after.held (after.unread ++ left) =
    fresh_delivers before after limit input left call.result.1 runs.0
    (λ i. record { limit = limit; id = codec.0 i; header = codec.1 i; unread = c.new-src.ensures.items i; held = c.new-dst.ensures.items i })
    (search rules) runs.3 in
    let same = c.one_delivery.ensures [] input 0 limit runs.0 (payloads c.args.received.now) Waiting Waiting after.held c.requires.0 (after.unread ++ left) c.requires.1 mine c.requires.2 in
    runs.1 ∙ ap (λ (z : List _). payloads z ++ runs.0) c.new-packets.ensures.items ∙ same.0

pub returns-in_err-result : goal.returns-in_err-result
returns-in_err-result g c = err_if_ok c.from_residual.result _ c.from_residual.ensures.0

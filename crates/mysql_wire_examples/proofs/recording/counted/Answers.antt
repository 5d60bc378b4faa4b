use Rattle.std.proofs.Common.{rules, ℕ, List, ◌++◌, drop}
use Rattle.mysql_wire.specs.Codec.{CodecState, codec_state, header_of}
use Rattle.mysql_wire.specs.Runs.{joined}
use Rattle.mysql_wire_examples.proofs.CallerLemmas.{fresh_delivers}
use Rattle.mysql_wire_examples.proofs.TallyLemmas.{tally_packets}
use Rattle.mysql_wire_examples.proofs.recording.counted.Goals as goal

pub returns : goal.returns
returns g c =
    let limit = c.args.limit in
    let input : List ℕ = joined c.args.pieces.now in
    let call = c.deliver_each-result in
    let runs = call.ensures.runs in
    let codec = c.default-codec.ensures in
    let before : CodecState = record { limit = limit; id = c.default-codec.result.seq_id; header = header_of c.default-codec.result; unread = c.new-src.result.items; held = c.new-dst.result.items } in
    let after : CodecState = codec_state call.new.codec call.new.src.items call.new.dst.items in
    let left : List ℕ = joined (drop call.result.0 c.args.pieces.now) in
    let mine = fresh_delivers before after limit input left call.result.1 runs.0
    (λ i. record { limit = limit; id = codec.0 i; header = codec.1 i; unread = c.new-src.ensures.items i; held = c.new-dst.ensures.items i })
    (search rules) runs.3 in
    (runs.0, tally_packets runs.0 call.new.visitor runs.1, (after.held, after.unread ++ left, mine))

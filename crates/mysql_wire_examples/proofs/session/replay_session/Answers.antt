use Rattle.std.proofs.Common.{rules, ◌≡◌, List, [], ◌++◌, length, ap, ◌∙◌}
use Rattle.mysql_wire.specs.Codec.{CodecState, codec_state, header_of}
use Rattle.mysql_wire.specs.Delivery.{Waiting}
use Rattle.mysql_wire.specs.Laws.{empty_state}
use Rattle.mysql_wire.specs.Runs.{payloads}
use Rattle.mysql_wire_examples.specs.Session.{session_limits}
use Rattle.mysql_wire_examples.proofs.SessionLemmas.{goes_on_from_start, both_pieces, delivers_session}
use Rattle.mysql_wire_examples.proofs.RelayedLemmas.{err_if_ok}
use Rattle.mysql_wire_examples.proofs.session.replay_session.Goals as goal

pub returns : goal.returns
returns g c =
    let limit = c.args.login.0 in
    let later = c.args.session.0 in
    let login = c.args.login.1 in
    let session = c.args.session.1 in
    let call = c.deliver_limited-result in
    let codec = c.default-codec.ensures in
    let limits = session_limits limit later (length login.now) in
    let before : CodecState = record { limit = limit; id = c.default-codec.result.seq_id; header = header_of c.default-codec.result; unread = c.new-src.result.items; held = c.new-dst.result.items } in
    let is : before ≡ empty_state 0 limit = λ i. record { limit = limit; id = codec.0 i; header = codec.1 i; unread = c.new-src.ensures.items i; held = c.new-dst.ensures.items i } in
    let after : CodecState = codec_state call.new.codec call.new.src.items call.new.dst.items in
    let runs = call.ensures.on limits 0 0 (goes_on_from_start c.empty_goes_on.ensures limit later (length login.now) before is) (both_pieces limit later login session before is) in
    let mine = delivers_session limit later login session before after call.result.0 call.result.1 runs.0 is (search rules) call.ensures.all runs.2 in
    let same = c.one_limited_delivery.ensures limits 0 [] (login.now ++ session.now) 0 runs.0 (payloads c.args.received.now) Waiting Waiting after.held c.requires.0 after.unread c.requires.1 mine c.requires.2 in
    runs.1 ∙ ap (λ (z : List _). payloads z ++ runs.0) c.new-packets.ensures.items ∙ same.0

pub returns-in_err-result : goal.returns-in_err-result
returns-in_err-result g c = err_if_ok c.from_residual.result _ c.from_residual.ensures.0

use Rattle.std.proofs.Common.{rules, ℕ, ◌≡◌, List, [], ◌++◌, drop, ap, sym, ◌∙◌, Ok, vec_len}
use Rattle.mysql_wire.specs.Codec.{CodecState, codec_state, header_of}
use Rattle.mysql_wire.specs.Laws.{empty_state}
use Rattle.mysql_wire.specs.Runs.{joined, payloads}
use Rattle.mysql_wire_examples.proofs.CallerLemmas.{fresh_run, run_so_far, waiting_state}
use Rattle.mysql_wire_examples.proofs.TallyLemmas.{counted_list}
use Rattle.mysql_wire_examples.proofs.RelayedLemmas.{err_if_ok}
use Rattle.mysql_wire_examples.proofs.recording.take_counted.Goals as goal

pub returns : goal.returns
returns g c =
    let limit = c.args.limit in
    let input : List ℕ = joined c.args.pieces.now in
    let seen = c.in_ok-tally.ensures in
    let call = c.deliver-result in
    let runs = call.ensures.runs in
    let codec = c.default-codec.ensures in
    let before : CodecState = record { limit = limit; id = c.default-codec.result.seq_id; header = header_of c.default-codec.result; unread = c.new-src.result.items; held = c.new-dst.result.items } in
    let after : CodecState = codec_state call.new.codec call.new.src.items call.new.dst.items in
    let left : List ℕ = joined (drop call.result.0 c.args.pieces.now) in
    let mine = fresh_run before after limit input left call.result.1 runs.0
    (λ i. record { limit = limit; id = codec.0 i; header = codec.1 i; unread = c.new-src.ensures.items i; held = c.new-dst.ensures.items i })
    (search rules) runs.3 in
    let same = c.one_run.ensures (empty_state 0 limit) (waiting_state limit seen.2.0 seen.2.1) after input (Ok tt) (Ok tt) seen.0 runs.0 [] left
    (λ e. absurd cc) (λ e. absurd cc) (run_so_far limit input seen.2.0 seen.2.1 seen.0 seen.2.2) mine in
    let all : payloads call.new.out.items ≡ seen.0 =
    runs.1 ∙ ap (λ (z : List _). payloads z ++ runs.0) (c.in_ok-reserve.ensures.items ∙ c.new-packets.ensures.items) ∙ sym same.0 in
    counted_list (λ packet. packet.items) call.new.out.items seen.0 (vec_len call.new.out) c.in_ok-tally.tally.packets all call.new.out.ok.0 seen.1

pub returns-in_err-tally : goal.returns-in_err-tally
returns-in_err-tally g c = err_if_ok c.from_residual.result _ c.from_residual.ensures.0

pub returns-in_err-reserve : goal.returns-in_err-reserve
returns-in_err-reserve g c = err_if_ok c.from_residual-in_err-reserve.result _ c.from_residual-in_err-reserve.ensures.0

pub returns-in_err-result : goal.returns-in_err-result
returns-in_err-result g c = err_if_ok c.from_residual-in_err-result.result _ c.from_residual-in_err-result.ensures.0

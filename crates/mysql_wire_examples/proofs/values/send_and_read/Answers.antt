use Rattle.std.proofs.Common.{◌≡◌, List, ℕ, [], ◌++◌, map, ap, sym, subst, ◌∙◌, append-nil}
use Rattle.mysql_wire.specs.Delivery.{Delivers, Waiting}
use Rattle.mysql_wire.specs.Framing.{stream, id_after}
use Rattle.mysql_wire.specs.Runs.{payloads}
use Rattle.mysql_wire_examples.proofs.ValueLemmas.{delivers_nothing}
use Rattle.mysql_wire_examples.proofs.RelayedLemmas.{err_if_ok}
use Rattle.mysql_wire_examples.proofs.values.send_and_read.Goals as goal

pub returns : goal.returns
returns g c = λ good.
    let values = c.args.values.now in
    let sent = map g.T.MySerialize.bytes values in
    let put = c.in_ok-send_values.ensures in
    let bytes : c.as_slice.result.now ≡ stream 0 sent ++ [] =
    c.as_slice.ensures ∙ put.sent ∙ ap (λ id. c.new-output.result.items ++ stream id sent) c.default-codec.ensures.0
    ∙ ap (λ before. before ++ stream 0 sent) c.new-output.ensures.items
    ∙ sym (append-nil (stream 0 sent)) in
    let came = c.in_ok-packets.ensures in
    let packets : List (List ℕ) = payloads c.in_ok-packets.field-0.items in
    let split = c.values_come_back.ensures.delivered 0 c.args.limit values put.fit [] packets Waiting came.0 came.1
    (subst (λ input. Delivers [] input 0 c.args.limit packets Waiting came.0 came.1) bytes came.2) in
    let none = delivers_nothing (id_after 0 sent) c.args.limit split.0 Waiting came.0 came.1 c.framed_length.ensures split.2 in
    let all : packets ≡ sent = split.1 ∙ ap (λ others. sent ++ others) none ∙ append-nil sent in
    c.in_ok-back.ensures.back values (ap payloads c.as_slice-2.ensures.value ∙ all) put.values good

pub returns-in_err-send_values : goal.returns-in_err-send_values
returns-in_err-send_values g c _ = err_if_ok c.from_residual.result _ c.from_residual.ensures.0

pub returns-in_err-packets : goal.returns-in_err-packets
returns-in_err-packets g c _ = err_if_ok c.from_residual-in_err-packets.result _ c.from_residual-in_err-packets.ensures.0

pub returns-in_err-back : goal.returns-in_err-back
returns-in_err-back g c _ = err_if_ok c.from_residual-in_err-back.result _ c.from_residual-in_err-back.ensures.0

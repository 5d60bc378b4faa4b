use Rattle.std.proofs.Common.{rules, ◌≡◌, ◌≤◌, ◌<◌, ◌+◌, ◌++◌, ◌∷◌, [], length, map, take, sym, ap, ◌∙◌, append-nil, append_assoc, subst, All, take_all}
use Rattle.std.proofs.lemmas.List.{map_more}
use Rattle.std.proofs.lemmas.List.Elements.{All-more}
use Rattle.mysql_wire.specs.Codec.{expected_id}
use Rattle.mysql_wire.specs.Framing.{framing, next_id, stream, id_after}
use Rattle.mysql_wire_examples.proofs.RelayedLemmas.{err_on_ok}
use Rattle.mysql_wire_examples.proofs.values.send_values.Goals as goal

pub loop-value-preserved : goal.loop-value-preserved
loop-value-preserved g c =
    let bytes = g.T.MySerialize.bytes in
    let values = c.args.values.now in
    let i = c.loop-value.value-index in
    let value = c.value-item.result in
    let first = expected_id c.args.codec.now in
    let before = map bytes (take i values) in
    let there : i < length values = search rules in
    let now : map bytes (take (i + 1) values) ≡ before ++ bytes value ∷ [] =
    map_more bytes values i value there ∙ ap (λ v. before ++ bytes v ∷ []) (sym c.value-item.is) in
    let inv = c.loop-value.invariant in
    let put = c.in_ok-encode_value.ensures in
    let joined = c.stream_append.ensures first before (bytes value ∷ []) in
    let last : stream (id_after first before) (bytes value ∷ []) ≡ framing (id_after first before) (bytes value) =
    append-nil (framing (id_after first before) (bytes value)) in
    record {
      sent = put.appended ∙ ap (λ id. c.loop-value.output.items ++ framing id (bytes value)) inv.next
          ∙ ap (λ sent. sent ++ framing (id_after first before) (bytes value)) inv.sent
          ∙ append_assoc c.args.output.now.items (stream first before) (framing (id_after first before) (bytes value))
          ∙ ap (λ more. c.args.output.now.items ++ more)
          (ap (λ more. stream first before ++ more) (sym last) ∙ sym joined ∙ ap (stream first) (sym now));
      next = put.next ∙ ap (λ id. next_id id (bytes value)) inv.next
          ∙ sym (ap (id_after first) now ∙ c.id_after_append.ensures first before (bytes value ∷ []));
      fit = All-more (λ value. length (bytes value) ≤ c.args.codec.now.max_allowed_packet) values i value there inv.fit
          (search rules);
      known = All-more g.T.Wire.is_value values i value there inv.known
          (subst g.T.Wire.is_value c.value-item.is c.known.ensures);
      limit = put.limit ∙ inv.limit;
    }

pub returns : goal.returns
returns g c =
    let inv = c.loop-value.invariant in
    let values = c.args.values.now in
    let first = expected_id c.args.codec.now in
    let bytes = g.T.MySerialize.bytes in
    let all : take c.loop-value.value-index values ≡ values = take_all c.loop-value.value-index values c.loop-value-test.false in
    record {
      sent = inv.sent ∙ ap (λ z. c.args.output.now.items ++ stream first (map bytes z)) all;
      next = inv.next ∙ ap (λ z. id_after first (map bytes z)) all;
      fit = subst (λ z. All (λ value. length (bytes value) ≤ c.args.codec.now.max_allowed_packet) z) all inv.fit;
      values = subst (λ z. All g.T.Wire.is_value z) all inv.known;
      limit = inv.limit;
    }

pub returns-in_err-encode_value : goal.returns-in_err-encode_value
returns-in_err-encode_value g c =
    let answer = c.from_residual.result in
    let is = c.from_residual.ensures.0 in
    record { sent = err_on_ok answer _ is; next = err_on_ok answer _ is; fit = err_on_ok answer _ is; values = err_on_ok answer _ is; limit = c.encode_value.ensures.limit ∙ c.loop-value.invariant.limit }

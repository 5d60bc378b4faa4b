use Rattle.std.proofs.Common.{rules, ◌<◌, ◌≤◌, ◌+◌, [], length, take, get_or, sym, subst, ◌∙◌, arith, take_all}
use Rattle.std.specs.List.{AllZip}
use Rattle.std.proofs.lemmas.List.Elements.{all_zip_more}
use Rattle.std.proofs.lemmas.List.{get_or_default}
use Rattle.mysql_wire_examples.proofs.ValueLemmas.{as_many, packet_at, seen-nothing}
use Rattle.mysql_wire_examples.proofs.values.read_values.Goals as goal

pub loop-packet-preserved : goal.loop-packet-preserved
loop-packet-preserved g c = λ values are known good.
    let bytes = g.T.MySerialize.bytes in
    let packets = c.args.packets.now in
    let i = c.loop-packet.packet-index in
    let back = c.in_ok-value.value in
    let there : i < length packets = search rules in
    let here : i < length values = omega (arith, as_many bytes packets values are) in
    let value = get_or values i back in
    let kept = (c.in_ok-value.ensures.back value [] (known i back here)
    (subst (g.T.Wire.good tt value) (sym (seen-nothing g.T.Size.ReadSize.SIZE)) (good i back here))
    (c.as_slice.ensures.value ∙ packet_at bytes packets values i c.packet-item.result back are there c.packet-item.is)).0 in
    let zipped = all_zip_more g.T.Wire.kept values c.loop-packet.values.items i value back here
    (get_or_default values i back value here) (c.loop-packet.invariant values are known good) kept in
    subst (λ items. AllZip g.T.Wire.kept (take (i + 1) values) items) (sym c.in_ok-push.ensures.items) zipped

pub returns : goal.returns
returns g c = record {
  back = λ values are known good.
      let ended : length values ≤ c.loop-packet.packet-index = omega (arith, as_many g.T.MySerialize.bytes c.args.packets.now values are, c.loop-packet-test.false) in
      subst (λ taken. AllZip g.T.Wire.kept taken c.loop-packet.values.items)
      (take_all c.loop-packet.packet-index values ended) (c.loop-packet.invariant values are known good);
}

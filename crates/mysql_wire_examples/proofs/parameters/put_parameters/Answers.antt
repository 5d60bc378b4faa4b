use Rattle.std.proofs.Common.{[], ◌≡◌, ◌≤◌, ◌++◌, ◌∙◌, length, ap, OnOk, subst, arith}
use Rattle.std.specs.Cow.{cow_slice_items}
use Rattle.std.specs.List.{flat_map}
use Rattle.mysql_wire.specs.CountedLists.{whole-list}
use Rattle.mysql_wire_examples.specs.Parameters.{parameter_bytes}
use Rattle.mysql_wire_examples.proofs.parameters.put_parameters.Goals as goal

pub returns : goal.returns
returns c =
    let items = cow_slice_items c.new-list.result.0 in
    let is : items ≡ c.args.parameters.now = ap cow_slice_items c.new-list.ensures in
    let few : length items ≤ 0xffff_ffff_ffff_ffff = omega (arith, c.known.ensures.0) in
    let whole = whole-list 0xffff_ffff_ffff_ffff (λ _. []) parameter_bytes items few in
    subst (λ written. OnOk c.serialize.result
    (c.serialize.new.buf.items ≡ c.args.buf.now.items ++ written))
    (whole ∙ ap (flat_map parameter_bytes) is) c.serialize.ensures.ok

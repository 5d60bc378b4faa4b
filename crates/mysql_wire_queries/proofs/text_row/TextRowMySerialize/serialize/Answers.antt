use Rattle.std.proofs.Common.{◌≡◌, ◌<◌, ◌^◌, ◌++◌, length, subst, arith}
use Rattle.std.specs.Result.{OnOk}
use Rattle.std.specs.Cow.{cow_slice_items}
use Rattle.mysql_wire_queries.specs.TextValues.{whole-row}
use Rattle.mysql_wire_queries.proofs.text_row.TextRowMySerialize.serialize.Goals as goal

pub returns-clause-ok : goal.returns-clause-ok
returns-clause-ok g c =
    let items = cow_slice_items c.args.self.now.values.0 in
    let few : length items < 2 ^ 64 = omega (arith, c.len-len.ensures, c.len-len.type_inv) in
    subst
    (λ bytes. OnOk c.serialize.result (c.serialize.new.buf.items ≡ c.args.buf.now.items ++ bytes))
    (whole-row items few) c.serialize.ensures.ok

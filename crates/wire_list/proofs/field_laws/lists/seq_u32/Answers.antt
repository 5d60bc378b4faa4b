use Rattle.std.proofs.Common.{◌<◌, ◌≤◌, ◌^◌, ◌++◌, length, sym, ap, ◌∙◌, arith}
use Rattle.std.specs.declared.borrow.CowSlice.TheVariants as slice
use Rattle.wire_buf.specs.Numbers.{le_bytes}
use Rattle.wire_list.specs.Counted.{whole-list}
use Rattle.wire_list.proofs.field_laws.lists.seq_u32.Goals as goal

pub returns-clause-back : goal.returns-clause-back
returns-clause-back g c =
    λ values is_few is rest at. (
    let fits : length values < 2 ^ 64 = omega arith in
    let few : length values ≤ 4294967295 = is_few in
    let whole = whole-list 4294967295 (le_bytes 4) (λ int. g.T.IntRepr.bytes int.0) values few in
    c.parse_back.ensures.back
    (record { 0 = slice.Borrowed (record { ref_ptr = (0, 0); now = values }); 1 = record {} })
    rest (fits, is) (few, λ index default below more. tt)
    (at ∙ sym (ap (λ bytes. bytes ++ rest) whole)))

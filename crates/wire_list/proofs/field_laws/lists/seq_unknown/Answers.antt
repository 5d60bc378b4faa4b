use Rattle.std.proofs.Common.{[], ◌≤◌, ◌++◌, length, sym, ap, ◌∙◌, arith}
use Rattle.std.specs.declared.borrow.CowSlice.TheVariants as slice
use Rattle.wire_list.specs.Counted.{whole-list}
use Rattle.wire_list.proofs.field_laws.lists.seq_unknown.Goals as goal

pub returns-clause-back : goal.returns-clause-back
returns-clause-back g c =
    λ values count fits is rest at. (
    let few : length values ≤ 0xffff_ffff_ffff_ffff = omega arith in
    let whole = whole-list 0xffff_ffff_ffff_ffff (λ _. [])
    (λ int. g.T.IntRepr.bytes int.0) values few in
    c.parse_back.ensures.back
    (record { 0 = slice.Borrowed (record { ref_ptr = (0, 0); now = values }); 1 = record {} })
    rest (fits, is) (count, λ index default below more. tt)
    (at ∙ sym (ap (λ bytes. bytes ++ rest) whole)))

use Rattle.std.specs.declared.borrow.CowSlice.TheVariants as slice
use Rattle.wire_list.proofs.field_laws.lists.raw_seq.Goals as goal

pub returns-clause-back : goal.returns-clause-back
returns-clause-back c =
    λ numbers count rest at. c.parse_back.ensures.back
    (record { 0 = slice.Borrowed (record { ref_ptr = (0, 0); now = numbers }); 1 = record {} })
    rest tt count at

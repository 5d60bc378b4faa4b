use Rattle.std.specs.declared.borrow.CowSlice.TheVariants as slice
use Rattle.wire_laws.proofs.texts.u32_text.Goals as goal

pub returns-clause-back : goal.returns-clause-back
returns-clause-back c = λ text is rest at. c.parse_back.ensures.back
    (record { 0 = slice.Borrowed (record { ref_ptr = (0, 0); now = text }); 1 = record {} }) rest is tt at

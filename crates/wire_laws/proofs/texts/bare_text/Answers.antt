use Rattle.std.specs.declared.borrow.CowSlice.TheVariants as slice
use Rattle.wire_laws.proofs.texts.bare_text.Goals as goal

pub returns-clause-back : goal.returns-clause-back
returns-clause-back g c = λ text is count rest at. c.parse_back.ensures.back
    (record { 0 = slice.Borrowed (record { ref_ptr = (0, 0); now = text }); 1 = record {} }) rest is count at

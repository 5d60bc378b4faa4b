use Rattle.std.proofs.Common.{refl, []}
use Rattle.std.specs.declared.borrow.CowSlice.TheVariants as slice
use Rattle.wire_laws.proofs.texts.eof_text.Goals as goal

pub returns-clause-back : goal.returns-clause-back
returns-clause-back c = λ text is at. c.parse_back.ensures.back
    (record { 0 = slice.Borrowed (record { ref_ptr = (0, 0); now = text }); 1 = record {} }) [] is refl at

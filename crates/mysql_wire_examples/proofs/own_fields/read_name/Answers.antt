use Rattle.std.specs.declared.borrow.CowSlice.TheVariants as slice
use Rattle.mysql_wire_examples.proofs.own_fields.read_name.Goals as goal

pub returns-clause-back : goal.returns-clause-back
returns-clause-back c = λ name is rest at. c.parse_back.ensures.back
    (record { 0 = slice.Borrowed (record { ref_ptr = (0, 0); now = name }); 1 = record {} }) rest is tt at
